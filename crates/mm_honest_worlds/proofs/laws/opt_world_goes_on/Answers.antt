use Rattle.mm_honest_worlds.proofs.AllStages.{opt_goes_on}
use Rattle.mm_honest_worlds.proofs.laws.opt_world_goes_on.Goals as goal

pub returns : goal.returns
returns c = opt_goes_on c.parts_are_refused_elsewhere.ensures

use Rattle.mm_honest_worlds.proofs.AllStages.{opt_goes_on_or_evidence}
use Rattle.mm_honest_worlds.proofs.laws.opt_world_goes_on_or_evidence.Goals as goal

pub returns : goal.returns
returns c = opt_goes_on_or_evidence c.opt_world_goes_on.ensures

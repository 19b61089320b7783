use Rattle.mm_worlds.proofs.OptWorld.{opt_is_one}
use Rattle.mm_worlds.proofs.laws.opt_world_is_one.Goals as goal

pub returns : goal.returns
returns c = opt_is_one c.parts_are_refused_elsewhere.ensures

use Rattle.mm_worlds.proofs.BasicWorld.{basic_is_one}
use Rattle.mm_worlds.proofs.laws.basic_world_is_one.Goals as goal

pub returns : goal.returns
returns c = basic_is_one c.parts_are_refused_elsewhere.ensures

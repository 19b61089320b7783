use Rattle.mm_mortal_worlds.proofs.MortalWorlds.{basic_one}
use Rattle.mm_mortal_worlds.proofs.laws.basic_mortal_world_is_one.Goals as goal

pub returns : goal.returns
returns c = basic_one c.mortal_worlds_end.ensures c.basic_world_is_one.ensures

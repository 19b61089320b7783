use Rattle.mm_mortal_worlds.proofs.MortalWorlds.{opt_one}
use Rattle.mm_mortal_worlds.proofs.laws.opt_mortal_world_is_one.Goals as goal

pub returns : goal.returns
returns c = opt_one c.mortal_worlds_end.ensures c.opt_world_is_one.ensures

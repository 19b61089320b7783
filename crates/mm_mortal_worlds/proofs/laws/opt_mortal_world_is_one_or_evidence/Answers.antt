use Rattle.mm_mortal_worlds.proofs.MortalWorlds.{opt_one_or_evidence}
use Rattle.mm_mortal_worlds.proofs.laws.opt_mortal_world_is_one_or_evidence.Goals as goal

pub returns : goal.returns
returns c = opt_one_or_evidence c.mortal_worlds_end.ensures c.opt_world_is_one_or_evidence.ensures

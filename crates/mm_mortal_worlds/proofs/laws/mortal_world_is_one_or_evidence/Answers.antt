use Rattle.mm_mortal_worlds.proofs.MortalWorlds.{one_or_evidence}
use Rattle.mm_mortal_worlds.proofs.laws.mortal_world_is_one_or_evidence.Goals as goal

pub returns : goal.returns
returns c = one_or_evidence c.mortal_worlds_end.ensures c.world_is_one_or_evidence.ensures

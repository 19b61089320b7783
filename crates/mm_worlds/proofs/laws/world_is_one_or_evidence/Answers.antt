use Rattle.mm_worlds.proofs.Decided.{one_or_evidence}
use Rattle.mm_worlds.proofs.laws.world_is_one_or_evidence.Goals as goal

pub returns : goal.returns
returns c = one_or_evidence c.basic_world_is_one.ensures

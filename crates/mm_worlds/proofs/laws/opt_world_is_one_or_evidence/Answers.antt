use Rattle.mm_worlds.proofs.Decided.{opt_one_or_evidence}
use Rattle.mm_worlds.proofs.laws.opt_world_is_one_or_evidence.Goals as goal

pub returns : goal.returns
returns c = opt_one_or_evidence c.opt_world_is_one.ensures

use Rattle.mm_worlds.proofs.Decided.{opt_no_premise}
use Rattle.mm_worlds.proofs.laws.opt_evidence_is_no_premise.Goals as goal

pub returns : goal.returns
returns c = opt_no_premise

use Rattle.mm_worlds.proofs.Decided.{no_premise}
use Rattle.mm_worlds.proofs.laws.evidence_is_no_premise.Goals as goal

pub returns : goal.returns
returns c = no_premise

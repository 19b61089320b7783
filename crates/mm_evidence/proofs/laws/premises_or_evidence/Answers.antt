use Rattle.mm_evidence.proofs.Deciding.{decided_run}
use Rattle.mm_evidence.proofs.laws.premises_or_evidence.Goals as goal

pub returns : goal.returns
returns c = decided_run c.names_are_decided.ensures.basic c.names_are_decided.ensures.opt

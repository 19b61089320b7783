use Rattle.mm_transfer.proofs.Matching.{premises_give, until_evidence}
use Rattle.mm_transfer.proofs.laws.transfers_are_one_run.Goals as goal

pub returns : goal.returns
returns c = record { premises = premises_give c.pairs_are_decided.ensures; until = until_evidence c.pairs_are_decided.ensures }

use Rattle.mm_receipted.proofs.TaggedLaws.{receipts-true}
use Rattle.mm_receipted.proofs.laws.receipts_are_true.Goals as goal

pub returns : goal.returns
returns c inner requests counted key position request output unforged =
    receipts-true inner requests counted key position request output unforged

use Rattle.mm_receipted.proofs.TaggedLaws.{no-clash}
use Rattle.mm_receipted.proofs.laws.receipts_do_not_clash.Goals as goal

pub returns : goal.returns
returns c inner requests counted key position request output other said one two =
    no-clash inner requests counted key position request output other said one two

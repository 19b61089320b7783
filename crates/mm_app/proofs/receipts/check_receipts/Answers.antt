use Rattle.mm_receipt.specs.Reports.{ChecksHonestly}
use Rattle.mm_app.proofs.Completing.{plays_and_stops}
use Rattle.mm_app.proofs.receipts.check_receipts.Goals as goal

pub returns-clause-checks : goal.returns-clause-checks
returns-clause-checks g c rest =
    let it = c.receipts-answer.ensures in
    plays_and_stops (ChecksHonestly c.args.key.now) _ _ _ _ c.receipts-answer.result _
    it.honest it.read it.wrote c.answered.ensures.ends c.answered.ensures.stops

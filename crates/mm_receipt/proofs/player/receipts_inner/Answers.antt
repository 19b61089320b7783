use Rattle.mm_receipt.proofs.Below.{ap, None, CheckTally, CheckState}
use Rattle.mm_receipt.proofs.Playing.{checks-err}
use Rattle.mm_receipt.proofs.player.receipts_inner.Goals as goal

pub returns-clause-checks : goal.returns-clause-checks
returns-clause-checks g c =
    let at_first : CheckTally → CheckState = λ t. record { tally = t; asked = None } in
    checks-err c.args.key.now (ap at_first c.new.ensures) c.play.ensures.plays c.in-Err.fault c.in-Err.is

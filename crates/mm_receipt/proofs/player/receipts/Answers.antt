use Rattle.mm_receipt.proofs.Below.{unrefused}
use Rattle.mm_receipt.proofs.Playing.{honestly}
use Rattle.mm_receipt.proofs.player.receipts.Goals as goal

pub returns-clause-complete : goal.returns-clause-complete
returns-clause-complete g c = unrefused c.receipts_inner.ensures.checks.plays

pub returns-clause-honest : goal.returns-clause-honest
returns-clause-honest g c = honestly c.args.key.now c.receipts_inner.ensures.checks

use Rattle.mm_recovery.proofs.Exits.{asked_sized}
use Rattle.mm_recovery.proofs.next.ask_next_inner.Goals as goal

pub returns-in-Ok-clause-sized : goal.returns-in-Ok-clause-sized
returns-in-Ok-clause-sized g c = asked_sized _ _ _ _ _ _ _ c.ask_and_keep.ensures.asks

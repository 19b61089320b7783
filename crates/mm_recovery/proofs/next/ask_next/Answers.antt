use Rattle.mm_recovery.proofs.Exits.{next_came, next_told}
use Rattle.mm_recovery.proofs.next.ask_next.Goals as goal

pub returns-clause-faults : goal.returns-clause-faults
returns-clause-faults g c = (next_told _ _ _ _ _ _ _ c.ask_next_inner.ensures.asks).blamed

pub returns-clause-named : goal.returns-clause-named
returns-clause-named g c = (next_told _ _ _ _ _ _ _ c.ask_next_inner.ensures.asks).named

pub returns-clause-writes : goal.returns-clause-writes
returns-clause-writes g c = (next_came _ _ _ _ _ _ _ c.ask_next_inner.ensures.asks).counts

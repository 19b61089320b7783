use Rattle.mm_platform.proofs.Below.{vec_len, vec_capacity, items_of}
use Rattle.mm_platform.proofs.Telling.{LetsIn}
use Rattle.mm_platform.proofs.memory.let_in_due.Given as goal

abbrev pub invariant-loop-meddle : goal.invariant-loop-meddle
invariant-loop-meddle l = LetsIn (items_of l.initial.register.entries.items) (vec_len l.initial.register.entries)
    (vec_capacity l.initial.register.entries) l.before l.step l.meddles l.meddle-index
    (items_of l.register.entries.items) (vec_len l.register.entries) (vec_capacity l.register.entries)

use Rattle.mm_numbering.proofs.Below.{take, own_values, world_barrier, asked_batches, events_of, HasAll}
use Rattle.mm_numbering.proofs.guards.guards_of.Given as goal

abbrev pub invariant-events : goal.invariant-events
invariant-events l = HasAll (own_values world_barrier (asked_batches (events_of (take l.event-index l.events)))) l.guards

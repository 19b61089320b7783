use Rattle.mm_numbering.proofs.Below.{List, ap, ◌∙◌, take, bytes_eq, list_any, own_values, world_barrier, asked_batches, Event, event_of}
use Rattle.mm_numbering.proofs.Below.{events_of}
use Rattle.mm_numbering.proofs.GuardLaws.{events_more, guards_more}
use Rattle.mm_numbering.proofs.guards.guards_of.Goals as goal

pub events-preserved : goal.events-preserved
events-preserved c =
    let before = events_of (take c.events.event-index c.args.events.now) in
    let add = c.in_ok-add_guard.ensures (own_values world_barrier (asked_batches before)) c.events.invariant in
    λ d. add d ∙ ap (list_any (bytes_eq d)) (guards_more world_barrier before (event_of c.event-item.result)
    ∙ ap (λ (l : List Event). own_values world_barrier (asked_batches l))
    (events_more c.args.events.now c.events.event-index c.event-item.result c.events-test.true c.event-item.is))

use Rattle.mm_numbering.proofs.Below.{ap, sym, ◌∙◌, take, event_of, events_of, event_foreign_values, number_of_first, is_secured}
use Rattle.mm_numbering.proofs.GuardLaws.{events_more, first_at, none_more, secured_same}
use Rattle.mm_numbering.proofs.guards.first_among.Goals as goal

pub returns-then-brings_some : goal.returns-then-brings_some
returns-then-brings_some c = λ known h.
    first_at (is_secured known) c.args.events.now c.events.index c.index-events-index.result c.events-test.true c.index-events-index.is
    (c.events.invariant known h) (sym (secured_same known c.args.guards.now (event_foreign_values (event_of c.index-events-index.result)) h)
    ∙ sym c.brings_some.ensures ∙ c.if-brings_some.true)

pub events-preserved : goal.events-preserved
events-preserved c = λ known h.
    let event = c.index-events-index.result in
    ap (number_of_first (is_secured known))
    (sym (events_more c.args.events.now c.events.index event c.events-test.true c.index-events-index.is))
    ∙ none_more (is_secured known) (events_of (take c.events.index c.args.events.now)) (event_of event) (c.events.invariant known h)
    (sym (secured_same known c.args.guards.now (event_foreign_values (event_of event)) h) ∙ sym c.brings_some.ensures
    ∙ c.if-brings_some.false)

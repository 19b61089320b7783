use Rattle.mm_check.proofs.Below.{List, sym, subst, arith, events_of, Event, Header}
use Rattle.mm_check.specs.Verdicts.{IsComparing}
use Rattle.mm_check.proofs.comparing.Comparison.new.Goals as goal

pub invariant_of-result : goal.invariant_of-result
invariant_of-result c =
    let decided = c.in_ok-decided.decided in
    let is = rw c.in_ok-decided.was at c.decide-decision.ensures in
    let taken = c.into_events-events in
    subst (λ (h : Header). IsComparing h (events_of taken.result.1.items) decided.premise decided.lines 0) (sym taken.ensures.header)
    (subst (λ (es : List Event). IsComparing c.args.reading.header es decided.premise decided.lines 0) (sym taken.ensures.events)
    (record { decided = is.premise; lines = is.lines; few = omega arith }))

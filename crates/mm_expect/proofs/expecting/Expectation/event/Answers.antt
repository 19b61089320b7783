use Rattle.mm_expect.proofs.Below.{sym, refl, ap, ◌∙◌, subst, any_is_lawful, event_of, IsPrintable, chronicle_instance, ExpectedState}
use Rattle.mm_expect.proofs.Below.{expected_state_after}
use Rattle.mm_schedule.specs.declared.reply.Reply.{Reply}
use Rattle.mm_expect.proofs.Below.{length, arith, world_of, IsAfter, IsDecided, IsGenuineEvent}
use Rattle.mm_expect.specs.declared.expecting.ExpectedOutcome.{ExpectedOutcome}
use Rattle.mm_expect.specs.ExpectedState.{HearsEvent}
use Rattle.mm_expect.proofs.EventLaws.{event_state, event_heard, goes_after, grown_one, printable, event_decided}
use Rattle.mm_expect.proofs.expecting.Expectation.event.Goals as goal

pub returns-clause-state : goal.returns-clause-state
returns-clause-state c = event_state (rw c.as_slice.ensures.value at c.in_ok-said.ensures.went) c.in_ok-reply.ensures.issued
    ∙ ap (λ (t : ExpectedState). expected_state_after t (event_of c.args.event.now)) c.self.view_is

pub returns-clause-after : goal.returns-clause-after
returns-clause-after c = λ header events at.
    goes_after header events (event_of c.args.event.now) c.args.self.now _ at (returns-clause-state c)

pub returns-clause-printable : goal.returns-clause-printable
returns-clause-printable c = subst (λ (r : Reply). IsPrintable r) (sym (c.in_ok-reply.ensures.reply ∙ c.in_ok-said.ensures.went.reply))
    (printable (chronicle_instance c.self.inside.chronicle) (any_is_lawful c.self.inside.chronicle.«module») c.self.inside.chronicle.history
    c.as_slice.result.now (event_of c.args.event.now))

pub returns-clause-hears : goal.returns-clause-hears
returns-clause-hears c =
    let heard : ExpectedOutcome = record {
      reply = c.in_ok-reply.reply;
      messages = c.follow.new.messages;
      is_genuine = c.follow.new.is_genuine;
    } in
    subst (λ (t : ExpectedState). HearsEvent (world_of t.header) t.history t.issued (event_of c.args.event.now) heard) c.self.view_is
    (event_heard {heard = heard} (rw c.as_slice.ensures.value at c.in_ok-said.ensures.went) c.new-messages.ensures.items
    c.in_ok-reply.ensures.reply refl)

pub returns-clause-decides : goal.returns-clause-decides
returns-clause-decides c = λ header events at.
    let s = c.self.inside in
    let event = event_of c.args.event.now in
    let yes = c.follow.new.is_genuine in
    let To : ExpectedState → Type 0 = λ t. IsDecided yes (IsGenuineEvent (world_of header) t.history t.issued event) in
    subst To c.self.view_is (event_decided s.chronicle s.issued.items event yes header events
    (rw c.as_slice.ensures.value at c.in_ok-said.ensures.decides) (subst (IsAfter header events) (sym c.self.view_is) at))

pub returns-clause-grows : goal.returns-clause-grows
returns-clause-grows c = omega (
  arith,
  grown_one _ _ _ c.in_ok-reply.ensures.issued,
  ap (λ (t : ExpectedState). length t.issued) c.self.view_is,
)

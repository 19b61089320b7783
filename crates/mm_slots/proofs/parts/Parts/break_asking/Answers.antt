use Rattle.std.proofs.Common.{ap, ◌∙◌, ℕ}
use Rattle.mm_ask.specs.WholeAsk.{write_step_of}
use Rattle.mm_digest.specs.declared.variant.Variant.{Variant}
use Rattle.mm_machine.specs.OpSteps.{number_of}
use Rattle.mm_slots.proofs.Stepping.{ask_broken, ask_next, breaks_next}
use Rattle.mm_slots.specs.declared.flight.Flight.TheVariants as code
use Rattle.mm_slots.proofs.parts.Parts.break_asking.Goals as goal

pub break_off-called-requires-clause-next : goal.break_off-called-requires-clause-next
break_off-called-requires-clause-next c =
    let is = c.next_step.ensures ∙ ap (λ (k : ℕ). number_of k c.args.asking.call) c.write_step.ensures.is
    ∙ ap (λ (v : Variant). number_of (write_step_of v) c.args.asking.call) c.ask-ask.ensures.variant in
    rw c.stop_at-stop.ensures (breaks_next c.args.how c.args.self.now (code.Asks c.args.asking) c.next_step.result c.requires.fits
    (ask_next c.args.self.now c.args.asking c.next_step.result c.requires.fits is))

pub returns : goal.returns
returns c =
    ask_broken c.args.how c.args.self.now c.end.new.self c.args.asking c.break_off-called.new.keys _ _ c.break_off-called.new.platform
    c.next_step.result c.break_off-called.result c.end.result c.requires.idle c.requires.few c.requires.fits
    (c.next_step.ensures ∙ ap (λ (k : ℕ). number_of k c.args.asking.call) c.write_step.ensures.is
    ∙ ap (λ (v : Variant). number_of (write_step_of v) c.args.asking.call) c.ask-ask.ensures.variant)
    (rw (
      c.stop_at-stop.ensures,
      c.ask-ask.ensures.variant,
      c.ask-ask.ensures.module_,
      c.ask-ask.ensures.offer,
      c.ask-ask.ensures.batch,
    ) at c.break_off-called.ensures) c.end.ensures

use Rattle.std.proofs.Common.{ap, ◌∙◌, ℕ}
use Rattle.mm_machine.specs.OpSteps.{number_of}
use Rattle.mm_slots.proofs.Stepping.{breaks_next, broken_quiet, close_broken, close_next, needs_none}
use Rattle.mm_slots.specs.declared.flight.Flight.TheVariants as code
use Rattle.mm_slots.proofs.parts.Parts.break_closing.Goals as goal

pub break_off-called-requires-clause-next : goal.break_off-called-requires-clause-next
break_off-called-requires-clause-next c =
    let is = c.next_step.ensures ∙ ap (λ (k : ℕ). number_of k c.args.closing.call) c.write_step.ensures.is in
    rw c.stop_at-stop.ensures (breaks_next c.args.how c.args.self.now (code.Closes c.args.closing) c.next_step.result c.requires.fits
    (close_next c.args.self.now c.args.closing c.next_step.result c.requires.fits is))

pub returns : goal.returns
returns c =
    close_broken c.args.how c.args.self.now c.end.new.self c.args.closing c.break_off-called.new.keys _ _ c.break_off-called.new.platform
    c.next_step.result c.break_off-called.result c.end.result c.requires.idle c.requires.few c.requires.fits
    (c.next_step.ensures ∙ ap (λ (k : ℕ). number_of k c.args.closing.call) c.write_step.ensures.is)
    (rw c.stop_at-stop.ensures at c.break_off-called.ensures) c.end.ensures

pub end-requires : goal.end-requires
end-requires c =
    needs_none c.break_off-called.result.snapshot (broken_quiet c.args.how c.args.self.now c.args.closing c.break_off-called.new.platform
    c.next_step.result c.break_off-called.result c.requires.fits
    (c.next_step.ensures ∙ ap (λ (k : ℕ). number_of k c.args.closing.call) c.write_step.ensures.is)
    (rw c.stop_at-stop.ensures at c.break_off-called.ensures))

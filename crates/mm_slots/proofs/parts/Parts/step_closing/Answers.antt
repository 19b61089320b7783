use Rattle.mm_slots.proofs.Below.{rules}
use Rattle.mm_slots.proofs.Stepping.{close_goes, close_over, closes_whole, needs_none, over_quiet}
use Rattle.mm_slots.proofs.parts.Parts.step_closing.Goals as goal

pub returns-in-Ok-Over : goal.returns-in-Ok-Over
returns-in-Ok-Over c =
    close_over c.args.self.now c.end.new.self c.args.closing c.step.new.keys _ _ c.step.new.platform c.in-Ok-Over.called c.end.result
    c.requires.idle c.requires.few c.requires.fits
    (record { steps = rw c.in-Ok-Over.field-0-is at c.in-Ok-Over.ensures.steps; room = tt }) c.end.ensures

pub returns-in-Ok-Going : goal.returns-in-Ok-Going
returns-in-Ok-Going c =
    rw c.fly.ensures (close_goes c.args.self.now c.args.closing c.in-Ok-Going.call c.step.new.keys _ _ c.step.new.platform _ c.requires.fits
    (record {
      steps = rw c.in-Ok-Going.field-0-is at c.in-Ok-Going.ensures.steps;
      room = rw c.in-Ok-Going.field-0-is at c.in-Ok-Going.ensures.room;
    }) (search rules))

pub unreachable-requires : goal.unreachable-requires
unreachable-requires c =
    closes_whole c.args.self.now c.args.closing c.step.new.platform c.in-Err.field-0 c.requires.fits
    (record { steps = c.in-Err.ensures.steps; room = tt })

pub end-requires : goal.end-requires
end-requires c =
    needs_none c.in-Ok-Over.called.snapshot (over_quiet c.args.self.now c.args.closing c.step.new.platform
    c.in-Ok-Over.called c.requires.fits
    (record { steps = rw c.in-Ok-Over.field-0-is at c.in-Ok-Over.ensures.steps; room = tt }))

use Rattle.mm_slots.proofs.Below.{refl, rules}
use Rattle.mm_slots.proofs.Stepping.{ask_goes, ask_over, ask_lacks}
use Rattle.mm_slots.proofs.parts.Parts.step_asking.Goals as goal

pub returns-in-Err : goal.returns-in-Err
returns-in-Err c =
    ask_lacks c.args.self.now _ c.args.asking c.in-Err.memory c.requires.fits
    (record {
      steps = rw (c.ask-ask.ensures.variant, c.ask-ask.ensures.module_, c.ask-ask.ensures.offer, c.ask-ask.ensures.batch)
          at c.in-Err.ensures.steps;
      room = tt;
    }) refl refl refl
    c.requires.idle refl c.register.ensures

pub returns-in-Ok-Over : goal.returns-in-Ok-Over
returns-in-Ok-Over c =
    ask_over c.args.self.now c.end.new.self c.args.asking c.step.new.keys _ _ c.step.new.platform c.in-Ok-Over.called c.end.result
    c.requires.idle c.requires.few c.requires.fits
    (record {
      steps = rw (
        c.in-Ok-Over.field-0-is,
        c.ask-ask.ensures.variant,
        c.ask-ask.ensures.module_,
        c.ask-ask.ensures.offer,
        c.ask-ask.ensures.batch,
      ) at c.in-Ok-Over.ensures.steps;
      room = tt;
    }) c.end.ensures

pub returns-in-Ok-Going : goal.returns-in-Ok-Going
returns-in-Ok-Going c =
    rw c.fly.ensures (ask_goes c.args.self.now c.args.asking c.in-Ok-Going.call c.step.new.keys _ _ c.step.new.platform _ c.requires.fits
    (record {
      steps = rw (
        c.in-Ok-Going.field-0-is,
        c.ask-ask.ensures.variant,
        c.ask-ask.ensures.module_,
        c.ask-ask.ensures.offer,
        c.ask-ask.ensures.batch,
      ) at c.in-Ok-Going.ensures.steps;
      room = rw c.in-Ok-Going.field-0-is at c.in-Ok-Going.ensures.room;
    }) (search rules))

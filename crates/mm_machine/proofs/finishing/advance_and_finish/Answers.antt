use Rattle.std.specs.Prelude.{refl}
use Rattle.mm_machine.specs.declared.call.StepResult.TheVariants.{Going, Over}
use Rattle.mm_machine.proofs.Joining.{joins}
use Rattle.mm_machine.proofs.finishing.advance_and_finish.Goals as goal

pub returns-in-Going : goal.returns-in-Going
returns-in-Going g c =
    joins (g.O.Operation.asked c.args.op.now) c.args.call (g.P.Device.standing c.args.platform.now)
    (g.P.Device.standing c.advance.new.platform) (g.P.Device.standing c.finish.new.platform) (Going c.in-Going.call) c.finish.result
    c.in-Going.ensures.steps c.finish.ensures

pub returns-in-Over : goal.returns-in-Over
returns-in-Over g c =
    joins (g.O.Operation.asked c.args.op.now) c.args.call (g.P.Device.standing c.args.platform.now)
    (g.P.Device.standing c.advance.new.platform) (g.P.Device.standing c.advance.new.platform) (Over c.in-Over.ended) c.in-Over.ended
    c.in-Over.ensures.steps (refl, refl)

use Rattle.std.specs.Prelude.{refl}
use Rattle.mm_platform.specs.Standing.{WriteCell}
use Rattle.mm_machine.specs.OpSteps.{goes_on, breaks_off}
use Rattle.mm_machine.proofs.Joining.{ends_at_last}
use Rattle.mm_machine.proofs.finishing.place_and_write.Goals as goal

pub returns-in-Err : goal.returns-in-Err
returns-in-Err g c = breaks_off c.in-Err.fault c.in-Err.ensures refl

pub returns-in-Ok : goal.returns-in-Ok
returns-in-Ok g c =
    goes_on (g.P.Device.standing c.reg_extend.new.self) c.in-Ok.ensures
    (ends_at_last c.args.position (WriteCell c.args.opening.now.next) c.args.answer c.nv_write.result
    (g.P.Device.standing c.reg_extend.new.self) (g.P.Device.standing c.nv_write.new.self) c.ended_last.result c.nv_write.ensures
    c.ended_last.ensures)

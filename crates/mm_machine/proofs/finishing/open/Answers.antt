use Rattle.std.specs.Prelude.{refl}
use Rattle.mm_machine.specs.OpSteps.{goes_on, breaks_off}
use Rattle.mm_machine.proofs.finishing.open.Goals as goal

pub returns-in-Err : goal.returns-in-Err
returns-in-Err g c = breaks_off c.in-Err.fault c.in-Err.ensures refl

pub returns-in-Ok : goal.returns-in-Ok
returns-in-Ok g c = goes_on (g.P.Device.standing c.reg_reset.new.self) c.in-Ok.ensures c.place_and_write.ensures

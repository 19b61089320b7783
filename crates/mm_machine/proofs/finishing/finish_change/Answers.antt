use Rattle.mm_platform.specs.Standing.{ExtendRegister, WriteCell}
use Rattle.mm_machine.proofs.Joining.{ends_at_last}
use Rattle.mm_machine.proofs.finishing.finish_change.Goals as goal

pub returns-in-Extending : goal.returns-in-Extending
returns-in-Extending g c =
    rw c.in-Extending.is
    (ends_at_last c.args.position (ExtendRegister c.in-Extending.value.bytes) c.args.ready.answer c.reg_extend.result
    (g.P.Device.standing c.args.platform.now) (g.P.Device.standing c.reg_extend.new.self) c.ended_last.result c.reg_extend.ensures
    c.ended_last.ensures)

pub returns-in-Emptying : goal.returns-in-Emptying
returns-in-Emptying g c = rw c.in-Emptying.is c.open.ensures

pub returns-in-Placing : goal.returns-in-Placing
returns-in-Placing g c = rw c.in-Placing.is c.place_and_write.ensures

pub returns-in-Writing : goal.returns-in-Writing
returns-in-Writing g c =
    rw c.in-Writing.is
    (ends_at_last c.args.position (WriteCell c.in-Writing.next) c.args.ready.answer c.nv_write.result
    (g.P.Device.standing c.args.platform.now) (g.P.Device.standing c.nv_write.new.self) c.ended_last-in-Writing.result c.nv_write.ensures
    c.ended_last-in-Writing.ensures)

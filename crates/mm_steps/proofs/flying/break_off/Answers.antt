use Rattle.mm_steps.proofs.Steps.{broken_off, may_stop, wants_none}
use Rattle.mm_steps.proofs.flying.break_off.Goals as goal

pub finish-ended-requires : goal.finish-ended-requires
finish-ended-requires g c =
    record { room = may_stop c.args.call c.args.platform.now c.stop_with.new.self c.args.stop c.stop_with.ensures c.requires.room }

pub unreachable-requires : goal.unreachable-requires
unreachable-requires g c =
    wants_none (g.O.Operation.asked c.args.op.now) c.args.call c.args.platform.now c.stop_with.new.self c.finish-ended.new.platform
    c.args.stop c.finish-ended.result c.stop_with.ensures c.finish-ended.ensures (g.O.CallTeller.tells c.args.op.now) c.settled.result
    c.in-Err.field-0 (g.met.O.CallTeller.breaks c.args.op.now c.args.stop) c.requires.next c.settled.ensures.told c.in-Err.is

pub returns : goal.returns
returns g c =
    broken_off (g.O.Operation.asked c.args.op.now) c.args.call c.args.platform.now c.stop_with.new.self c.finish-ended.new.platform
    c.args.stop c.finish-ended.result c.stop_with.ensures c.finish-ended.ensures (g.O.CallTeller.tells c.args.op.now)
    c.settled.new.platform c.settled.result c.in-Ok.called c.settled.ensures.settles c.settled.ensures.told c.in-Ok.is

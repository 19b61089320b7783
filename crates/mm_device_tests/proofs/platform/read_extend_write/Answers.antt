use Rattle.std.specs.Result.{result_err}
use Rattle.mm_platform.specs.Standing.{ReadCell, WriteCell, ExtendRegister, plan_after}
use Rattle.mm_platform.proofs.Above.{plan_then, told_failed, told_last, told_then}
use Rattle.mm_platform.specs.CallLaws.{first_failed, second_failed, all_called}
use Rattle.mm_device_tests.proofs.platform.read_extend_write.Goals as goal

pub returns-in-Err-clause-untold : goal.returns-in-Err-clause-untold
returns-in-Err-clause-untold g c =
    first_failed c.args.value.now.bytes c.args.bytes.now (g.P.Device.standing c.args.platform.now)
    (g.P.Device.standing c.nv_read.new.self) c.in-Err.fault c.in-Err.ensures.goes

pub returns-in-Err-clause-told : goal.returns-in-Err-clause-told
returns-in-Err-clause-told g c plan known =
    told_failed ReadCell _ (g.P.Device.standing c.args.platform.now) (g.P.Device.standing c.nv_read.new.self) c.in-Err.fault
    c.in-Err.ensures.goes plan known

pub returns-in-Err-reg_extend-clause-untold : goal.returns-in-Err-reg_extend-clause-untold
returns-in-Err-reg_extend-clause-untold g c =
    second_failed c.args.value.now.bytes c.args.bytes.now (g.P.Device.standing c.args.platform.now)
    (g.P.Device.standing c.nv_read.new.self) (g.P.Device.standing c.reg_extend.new.self) c.in-Err-reg_extend.fault
    c.in_default.ensures.goes c.in-Err-reg_extend.ensures

pub returns-in-Err-reg_extend-clause-told : goal.returns-in-Err-reg_extend-clause-told
returns-in-Err-reg_extend-clause-told g c plan known =
    told_then ReadCell _ (g.P.Device.standing c.args.platform.now) (g.P.Device.standing c.nv_read.new.self)
    (g.P.Device.standing c.reg_extend.new.self) _ c.in_default.ensures.goes plan known
    (told_failed (ExtendRegister c.args.value.now.bytes) _ (g.P.Device.standing c.nv_read.new.self)
    (g.P.Device.standing c.reg_extend.new.self) c.in-Err-reg_extend.fault c.in-Err-reg_extend.ensures (plan_after plan)
    (plan_then _ _ _ _ c.in_default.ensures.goes plan known))

pub returns-clause-untold : goal.returns-clause-untold
returns-clause-untold g c =
    all_called c.args.value.now.bytes c.args.bytes.now (g.P.Device.standing c.args.platform.now)
    (g.P.Device.standing c.nv_read.new.self) (g.P.Device.standing c.reg_extend.new.self) (g.P.Device.standing c.nv_write.new.self)
    (result_err c.nv_write.result) c.in_default.ensures.goes c.in_default-reg_extend.ensures c.nv_write.ensures

pub returns-clause-told : goal.returns-clause-told
returns-clause-told g c plan known =
    let one = plan_then _ _ _ _ c.in_default.ensures.goes plan known in
    told_then ReadCell _ (g.P.Device.standing c.args.platform.now) (g.P.Device.standing c.nv_read.new.self)
    (g.P.Device.standing c.nv_write.new.self) _ c.in_default.ensures.goes plan known
    (told_then (ExtendRegister c.args.value.now.bytes) _ (g.P.Device.standing c.nv_read.new.self)
    (g.P.Device.standing c.reg_extend.new.self) (g.P.Device.standing c.nv_write.new.self) _ c.in_default-reg_extend.ensures
    (plan_after plan) one
    (told_last (WriteCell c.args.bytes.now) (g.P.Device.standing c.reg_extend.new.self) (g.P.Device.standing c.nv_write.new.self)
    (result_err c.nv_write.result) c.nv_write.ensures (plan_after (plan_after plan))
    (plan_then _ _ _ _ c.in_default-reg_extend.ensures (plan_after plan) one)))

use Rattle.mm_basic.proofs.Below.{◌≡◌, false, Ok, Err, One, basic_operation, is_long}
use Rattle.mm_call.proofs.Above.{reads_blamed}
use Rattle.mm_basic.proofs.Asking.{prepared}
use Rattle.mm_basic.proofs.Telling.{quiet, reads_extend}
use Rattle.mm_basic.proofs.whole.prepare.Goals as goal

pub returns-in-Err-clause-goes : goal.returns-in-Err-clause-goes
returns-in-Err-clause-goes g c =
    λ (short : is_long (One c.args.request.now) ≡ false).
    prepared (g.M.Module.meaning c.args.module.now) (g.P.Device.standing c.args.platform.now)
    (g.P.Device.standing c.read_call_alone.new.platform) c.args.offer.now (One c.args.request.now) (Err c.in-Err.refusal)
    c.in-Err.ensures.reads

pub returns-in-Ok-clause-goes : goal.returns-in-Ok-clause-goes
returns-in-Ok-clause-goes g c =
    λ (short : is_long (One c.args.request.now) ≡ false).
    prepared (g.M.Module.meaning c.args.module.now) (g.P.Device.standing c.args.platform.now)
    (g.P.Device.standing c.read_call_alone.new.platform) c.args.offer.now (One c.args.request.now)
    (Ok c.in-Ok.prepared.found) c.in-Ok.ensures.reads

pub returns-in-Err-clause-faults : goal.returns-in-Err-clause-faults
returns-in-Err-clause-faults g c =
    let meaning = g.M.Module.meaning c.args.module.now in
    reads_blamed (basic_operation meaning c.args.offer.now (One c.args.request.now))
    (quiet meaning c.args.offer.now (One c.args.request.now))
    (g.P.Device.standing c.args.platform.now) (g.P.Device.standing c.read_call_alone.new.platform) (Err c.in-Err.refusal)
    c.in-Err.ensures.reads

pub returns-in-Ok-clause-faults : goal.returns-in-Ok-clause-faults
returns-in-Ok-clause-faults g c =
    let meaning = g.M.Module.meaning c.args.module.now in
    reads_blamed (basic_operation meaning c.args.offer.now (One c.args.request.now))
    (quiet meaning c.args.offer.now (One c.args.request.now))
    (g.P.Device.standing c.args.platform.now) (g.P.Device.standing c.read_call_alone.new.platform) (Ok c.in-Ok.prepared.found)
    c.in-Ok.ensures.reads

pub invariant_of-result : goal.invariant_of-result
invariant_of-result g c =
    reads_extend (g.M.Module.meaning c.args.module.now) c.args.offer.now (One c.args.request.now)
    (g.P.Device.standing c.args.platform.now) (g.P.Device.standing c.read_call_alone.new.platform) c.in-Ok.prepared.found
    c.in-Ok.ensures.reads

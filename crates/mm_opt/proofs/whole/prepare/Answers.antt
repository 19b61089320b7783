use Rattle.mm_opt.proofs.Below.{Err, Ok, One}
use Rattle.mm_opt.proofs.Going.{prepared}
use Rattle.mm_opt.proofs.whole.prepare.Goals as goal

pub returns-in-Err-clause-goes : goal.returns-in-Err-clause-goes
returns-in-Err-clause-goes g c =
    λ short. prepared (g.M.Module.meaning c.args.module.now) (g.P.Device.standing c.args.platform.now)
    (g.P.Device.standing c.read_call_alone.new.platform) c.args.offer.now (One c.args.request.now) (Err c.in-Err.refusal)
    c.in-Err.ensures.reads

pub returns-in-Ok-clause-goes : goal.returns-in-Ok-clause-goes
returns-in-Ok-clause-goes g c =
    λ short. prepared (g.M.Module.meaning c.args.module.now) (g.P.Device.standing c.args.platform.now)
    (g.P.Device.standing c.read_call_alone.new.platform) c.args.offer.now (One c.args.request.now)
    (Ok c.in-Ok.prepared.found) c.in-Ok.ensures.reads

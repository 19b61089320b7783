use Rattle.mm_basic.proofs.Below.{Ok, subst, One, BatchAnswer, wholly, BasicAskPromise}
use Rattle.mm_basic.proofs.whole.ask_keeping.Goals as goal

pub returns-in-Ok : goal.returns-in-Ok
returns-in-Ok g c =
    subst
    (λ (a : BatchAnswer). BasicAskPromise (g.M.Module.meaning c.args.module.now) (g.P.Device.standing c.args.platform.now)
    (g.P.Device.standing c.ask_batch_keeping.new.platform) c.args.offer.now (One c.args.request.now) (Ok a))
    (wholly c.in-Ok.answer c.into_one.result c.into_one.ensures.again c.into_one.ensures.position
    c.into_one.ensures.output c.into_one.ensures.snapshot)
    c.in-Ok.ensures

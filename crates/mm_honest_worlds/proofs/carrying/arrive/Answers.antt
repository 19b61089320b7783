use Rattle.std.proofs.Common.{Ok, Err, refl}
use Rattle.mm_honest_worlds.proofs.Stopping.{tried}
use Rattle.mm_honest_worlds.proofs.carrying.arrive.Goals as goal

pub returns-in-Err-accept : goal.returns-in-Err-accept
returns-in-Err-accept g c =
    tried c.args.variant (g.M.Module.meaning c.args.module.now) c.args.link.now c.args.request.now c.args.given c.in-Ok.ticket
    c.as_slice.result.now c.in-Ok.is c.as_slice.ensures.value (Err c.in-Err-accept.refusal) (g.P.Device.standing c.args.platform.now)
    (g.P.Device.standing c.accept.new.platform) (g.T.Store.kept c.args.store.now) (g.T.Store.kept c.empty_records.new.store)
    (g.T.Store.kept c.empty_records.new.store) _ c.in-Ok-empty_records.ensures.goes c.in-Err-accept.ensures (refl, refl)

pub returns : goal.returns
returns g c =
    tried c.args.variant (g.M.Module.meaning c.args.module.now) c.args.link.now c.args.request.now c.args.given c.in-Ok.ticket
    c.as_slice.result.now c.in-Ok.is c.as_slice.ensures.value (Ok c.in-Ok-accept.accepted) (g.P.Device.standing c.args.platform.now)
    (g.P.Device.standing c.accept.new.platform) (g.T.Store.kept c.args.store.now) (g.T.Store.kept c.empty_records.new.store)
    (g.T.Store.kept c.keep_arrival.new.store) c.keep_arrival.result c.in-Ok-empty_records.ensures.goes c.in-Ok-accept.ensures
    c.keep_arrival.ensures

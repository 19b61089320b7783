use Rattle.mm_worlds.specs.Journey.{site_standing}
use Rattle.mm_worlds.proofs.Decided.{crosses, stops}
use Rattle.mm_worlds.proofs.crossing.cross_over.Goals as goal

pub returns-in-Ok : goal.returns-in-Ok
returns-in-Ok g c =
    crosses c.world_is_one_or_evidence.ensures (g.M.Module.meaning c.args.module.now) (g.met.M.Module.is_lawful c.args.module.now)
    c.args.link.now c.args.nonce.now c.args.key.now c.args.offer.now c.told-nonce c.told-key
    (site_standing (g.P.Device.standing c.args.first.now) (g.T.Store.kept c.args.first_store.now)
    (g.S.Source.left c.args.first_input.now) (g.K.Sink.received c.args.first_out.now))
    (site_standing (g.P.Device.standing c.retire.new.platform) (g.T.Store.kept c.session-served.new.store)
    (g.S.Source.left c.session-served.new.input) (g.K.Sink.received c.session-served.new.out))
    (site_standing (g.Q.Device.standing c.args.second.now) (g.U.Store.kept c.args.second_store.now)
    (g.R.Source.left c.args.second_input.now) (g.L.Sink.received c.args.second_out.now))
    (site_standing (g.Q.Device.standing c.session-again.new.platform) (g.U.Store.kept c.session-again.new.store)
    (g.R.Source.left c.session-again.new.input) (g.L.Sink.received c.session-again.new.out))
    (record {
      first = c.session-served.result;
      invited = c.invite-invited.result;
      accepted = c.accept-accepted.result;
      second = c.session-again.result;
    }) (g.P.Device.standing c.session-served.new.platform) (g.Q.Device.standing c.invite-invited.new.platform)
    (g.Q.Device.standing c.accept-accepted.new.platform) c.in-Ok.ticket c.as_slice.result.now c.as_slice.ensures.value
    c.id.result c.id.ensures c.session-served.ensures.sessions c.invite-invited.ensures.moved c.in-Ok.ensures
    c.accept-accepted.ensures c.session-again.ensures.sessions

pub returns-in-Err : goal.returns-in-Err
returns-in-Err g c =
    stops (g.M.Module.meaning c.args.module.now) c.args.link.now c.args.nonce.now c.args.key.now c.args.offer.now c.told-nonce c.told-key
    (site_standing (g.P.Device.standing c.args.first.now) (g.T.Store.kept c.args.first_store.now)
    (g.S.Source.left c.args.first_input.now) (g.K.Sink.received c.args.first_out.now))
    (site_standing (g.P.Device.standing c.retire.new.platform) (g.T.Store.kept c.session-served.new.store)
    (g.S.Source.left c.session-served.new.input) (g.K.Sink.received c.session-served.new.out))
    (site_standing (g.Q.Device.standing c.args.second.now) (g.U.Store.kept c.args.second_store.now)
    (g.R.Source.left c.args.second_input.now) (g.L.Sink.received c.args.second_out.now))
    c.invite-invited.result c.in-Err.refusal c.session-served.result (g.P.Device.standing c.session-served.new.platform)
    (g.Q.Device.standing c.invite-invited.new.platform) c.id.result c.id.ensures c.session-served.ensures.sessions
    c.invite-invited.ensures.moved c.in-Err.ensures

use Rattle.mm_worlds.specs.Journey.{site_standing}
use Rattle.mm_honest_worlds.proofs.Stopping.{carried, goes_on_in, stops}
use Rattle.mm_honest_worlds.proofs.carrying.carry_over.Goals as goal

pub returns-in-Err : goal.returns-in-Err
returns-in-Err g c =
    stops c.args.variant (g.M.Module.meaning c.args.module.now) c.args.link.now c.args.nonce.now c.args.key.now c.args.offer.now
    c.args.request.now c.told-nonce c.told-key
    (site_standing (g.P.Device.standing c.args.first.now) (g.T.Store.kept c.args.first_store.now)
    (g.S.Source.left c.args.first_input.now) (g.K.Sink.received c.args.first_out.now))
    (site_standing (g.P.Device.standing c.retire-given.new.platform) (g.T.Store.kept c.session-served.new.store)
    (g.S.Source.left c.session-served.new.input) (g.K.Sink.received c.session-served.new.out))
    (site_standing (g.Q.Device.standing c.args.second.now) (g.U.Store.kept c.args.second_store.now)
    (g.R.Source.left c.args.second_input.now) (g.L.Sink.received c.args.second_out.now))
    (g.Q.Device.standing c.arrive.new.platform) (g.U.Store.kept c.arrive.new.store)
    (g.P.Device.standing c.session-served.new.platform) (g.P.Device.standing c.checkpoint_of-closed.new.platform)
    (g.Q.Device.standing c.invite-invited.new.platform) c.session-served.result c.checkpoint_of-closed.result c.invite-invited.result
    c.retire-given.result c.in-Err.fault c.id.result c.id.ensures
    c.session-served.ensures.sessions c.checkpoint_of-closed.ensures c.invite-invited.ensures.moved c.retire-given.ensures c.in-Err.ensures

pub returns-in-Ok : goal.returns-in-Ok
returns-in-Ok g c =
    carried c.args.variant (goes_on_in c.world_goes_on_or_evidence.ensures c.opt_world_goes_on_or_evidence.ensures c.args.variant)
    (g.M.Module.meaning c.args.module.now) (g.met.M.Module.is_lawful c.args.module.now)
    c.args.link.now c.args.nonce.now c.args.key.now c.args.offer.now c.args.request.now c.requires.line c.told-nonce c.told-key
    (site_standing (g.P.Device.standing c.args.first.now) (g.T.Store.kept c.args.first_store.now)
    (g.S.Source.left c.args.first_input.now) (g.K.Sink.received c.args.first_out.now))
    (site_standing (g.P.Device.standing c.retire-given.new.platform) (g.T.Store.kept c.session-served.new.store)
    (g.S.Source.left c.session-served.new.input) (g.K.Sink.received c.session-served.new.out))
    (site_standing (g.Q.Device.standing c.args.second.now) (g.U.Store.kept c.args.second_store.now)
    (g.R.Source.left c.args.second_input.now) (g.L.Sink.received c.args.second_out.now))
    (site_standing (g.Q.Device.standing c.session-again.new.platform) (g.U.Store.kept c.session-again.new.store)
    (g.R.Source.left c.session-again.new.input) (g.L.Sink.received c.session-again.new.out))
    (g.P.Device.standing c.session-served.new.platform) (g.P.Device.standing c.checkpoint_of-closed.new.platform)
    (g.Q.Device.standing c.invite-invited.new.platform)
    (g.Q.Device.standing c.arrive.new.platform) (g.U.Store.kept c.arrive.new.store) c.retire-given.result
    (record {
      first = c.session-served.result;
      closed = c.checkpoint_of-closed.result;
      invited = c.invite-invited.result;
      accepted = c.in-Ok.accepted;
      second = c.session-again.result;
    }) c.id.result c.id.ensures c.session-served.ensures.sessions c.checkpoint_of-closed.ensures c.invite-invited.ensures.moved
    c.retire-given.ensures c.in-Ok.ensures c.session-again.ensures.sessions

use Rattle.mm_worlds.specs.Journey.{errand, three_sites}
use Rattle.mm_worlds.proofs.Between.{asks_there, leg_by, travels}
use Rattle.mm_worlds.proofs.journey.travel_round.Goals as goal

pub returns : goal.returns
returns g c =
    let meaning = g.M.Module.meaning c.args.module.now in
    travels c.world_is_one_or_evidence.ensures meaning (g.met.M.Module.is_lawful c.args.module.now) c.args.link.now
    (errand c.args.out.now c.args.across.now c.args.home.now c.args.request.now) c.args.offer.now
    (three_sites (g.P.Device.standing c.args.first.now) (g.Q.Device.standing c.args.second.now)
    (g.R.Device.standing c.args.third.now))
    (three_sites (g.P.Device.standing c.go_on-by_home.new.ahead) (g.Q.Device.standing c.go_on-by_across.new.behind)
    (g.R.Device.standing c.go_on-by_home.new.behind)) (record {
      asked = c.ask-asked.result;
      out = c.go_on-by_out.result;
      across = c.go_on-by_across.result;
      home = c.go_on-by_home.result;
    }) (record {
      asked = g.P.Device.standing c.ask-asked.new.platform;
      left = g.P.Device.standing c.go_on-by_out.new.behind;
      second = g.Q.Device.standing c.go_on-by_out.new.ahead;
      third = g.R.Device.standing c.go_on-by_across.new.ahead;
    }) (record {
      asks = asks_there c.batch_calls_are_deeds.ensures.calls meaning c.args.link.now (g.P.Device.standing c.args.first.now)
          (g.P.Device.standing c.ask-asked.new.platform) c.args.offer.now c.args.request.now c.ask-asked.result c.ask-asked.ensures;
      out = leg_by meaning c.args.link.now _ _ _ _ c.answered.result.now _ c.args.request.now c.answered.ensures
          c.go_on-by_out.ensures;
      across = leg_by meaning c.args.link.now _ _ _ _ c.answered-2.result.now _ c.args.request.now c.answered-2.ensures
          c.go_on-by_across.ensures;
      home = leg_by meaning c.args.link.now _ _ _ _ c.answered-3.result.now _ c.args.request.now c.answered-3.ensures
          c.go_on-by_home.ensures;
    })

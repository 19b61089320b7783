use Rattle.mm_worlds.specs.Journey.{both_ends}
use Rattle.mm_worlds.proofs.Between.{goes_on}
use Rattle.mm_worlds.proofs.journey.go_on.Goals as goal

pub returns : goal.returns
returns g c =
    goes_on c.batch_calls_are_deeds.ensures.calls (g.M.Module.meaning c.args.module.now) c.args.link.now c.args.nonce.now
    c.args.key.now c.args.offer.now c.args.request.now c.told-nonce c.told-key
    (both_ends (g.P.Device.standing c.args.behind.now) (g.Q.Device.standing c.args.ahead.now))
    (both_ends (g.P.Device.standing c.retire-left.new.platform) (g.Q.Device.standing c.ask-asked.new.platform)) (record {
      invited = c.invite-invited.result;
      left = c.retire-left.result;
      arrived = c.accept-arrived.result;
      asked = c.ask-asked.result;
    }) (g.Q.Device.standing c.invite-invited.new.platform) (g.Q.Device.standing c.accept-arrived.new.platform) c.id.result
    c.id.ensures c.given.result.now c.accepted.result.now c.given.ensures c.accepted.ensures c.invite-invited.ensures.moved
    c.retire-left.ensures c.accept-arrived.ensures c.ask-asked.ensures

use Rattle.mm_replay.proofs.Telling.{keeps_on, keeps_still}
use Rattle.mm_world.specs.Lengths.{event_of_view}
use Rattle.mm_replay.proofs.replaying.FollowedWorld.follow.Goals as goal

pub invariant_of-self : goal.invariant_of-self
invariant_of-self c = keeps_still (event_of_view c.args.event) _ _ _ c.self.invariant c.in_err-reply.ensures.wants

pub invariant_of-self-2 : goal.invariant_of-self-2
invariant_of-self-2 c =
    keeps_on _ _ (event_of_view c.args.event) _ c.args.self.now _ c.self.invariant c.self.view_is c.requires c.follow.ensures.grows
    c.follow.ensures.few c.in_ok-reply.ensures.ok

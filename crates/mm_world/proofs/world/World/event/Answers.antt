use Rattle.mm_world.proofs.Below.{IfOk, OnErr, subst, Event, event_of, WorldFollows, outcome_in, WorldLacksMemory, world_few}
use Rattle.mm_world.proofs.world.World.event.Goals as goal

pub returns-clause-ok : goal.returns-clause-ok
returns-clause-ok c =
    subst (λ (e : Event). IfOk c.follow.result (WorldFollows (outcome_in c.args.self.now e) c.args.self.now c.follow.new.self))
    c.owned_view.ensures c.follow.ensures.ok

pub returns-clause-wants : goal.returns-clause-wants
returns-clause-wants c =
    subst (λ (e : Event). OnErr c.follow.result (WorldLacksMemory e c.args.self.now c.follow.new.self)) c.owned_view.ensures
    c.follow.ensures.wants

pub returns-clause-few : goal.returns-clause-few
returns-clause-few c = world_few c.args.self.now (event_of c.args.event.now)

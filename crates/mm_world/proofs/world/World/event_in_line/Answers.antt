use Rattle.mm_world.proofs.Below.{IfOk, OnErr, subst, Event, WorldFollows, outcome_in, meddles_of, WorldLacksMemory, world_few}
use Rattle.mm_schedule.specs.Events.{event_in}
use Rattle.mm_world.proofs.world.World.event_in_line.Goals as goal

pub returns-clause-ok : goal.returns-clause-ok
returns-clause-ok c =
    subst (λ (e : Event). IfOk c.follow.result (WorldFollows (outcome_in c.args.self.now e) c.args.self.now c.follow.new.self))
    c.line_view.ensures c.follow.ensures.ok

pub returns-clause-wants : goal.returns-clause-wants
returns-clause-wants c =
    subst (λ (e : Event). OnErr c.follow.result (WorldLacksMemory e c.args.self.now c.follow.new.self)) c.line_view.ensures
    c.follow.ensures.wants

pub returns-clause-few : goal.returns-clause-few
returns-clause-few c = world_few c.args.self.now (event_in (meddles_of c.args.meddles.now) c.args.text)

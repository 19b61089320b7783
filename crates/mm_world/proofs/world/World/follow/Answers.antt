use Rattle.mm_world.proofs.Below.{world_few}
use Rattle.mm_world.specs.Lengths.{event_of_view}
use Rattle.mm_world.proofs.Worlds.{keeps_world, follows_world, wants_world, printed_world, grown_world}
use Rattle.mm_world.proofs.world.World.follow.Goals as goal

pub invariant_of-self : goal.invariant_of-self
invariant_of-self c =
    keeps_world _ _ _ c.self.view_is c.self.invariant (event_of_view c.args.event) c.follow.result c.follow.ensures c.requires

pub returns-clause-ok : goal.returns-clause-ok
returns-clause-ok c = follows_world _ _ _ c.self.view_is c.self.invariant (event_of_view c.args.event) c.follow.result c.follow.ensures

pub returns-clause-wants : goal.returns-clause-wants
returns-clause-wants c = wants_world _ _ _ c.self.view_is c.self.invariant (event_of_view c.args.event) c.follow.result c.follow.ensures

pub returns-clause-printable : goal.returns-clause-printable
returns-clause-printable c = printed_world _ _ _ c.self.view_is c.self.invariant (event_of_view c.args.event)
    c.follow.result c.follow.ensures

pub returns-clause-grows : goal.returns-clause-grows
returns-clause-grows c = grown_world _ _ _ c.self.view_is c.self.invariant (event_of_view c.args.event) c.follow.result c.follow.ensures

pub returns-clause-few : goal.returns-clause-few
returns-clause-few c = world_few c.args.self.now (event_of_view c.args.event)

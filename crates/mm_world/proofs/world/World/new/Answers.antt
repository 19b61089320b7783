use Rattle.mm_world.proofs.Worlds.{first_keeps, first_world}
use Rattle.mm_world.proofs.world.World.new.Goals as goal

pub invariant_of-result : goal.invariant_of-result
invariant_of-result c = first_keeps _ _ _ _ c.world_secrets.ensures.key c.world_secrets.ensures.barrier c.in-Ok.ensures

pub returns-in-Ok : goal.returns-in-Ok
returns-in-Ok c = first_world _ _ _ _ c.world_secrets.ensures.key c.world_secrets.ensures.barrier c.in-Ok.ensures

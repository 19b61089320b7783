use Rattle.mm_transfer.proofs.SideEvents.{live_new}
use Rattle.mm_transfer.proofs.side.Side.live.Goals as goal

pub returns-in-Ok : goal.returns-in-Ok
returns-in-Ok c = live_new c.args.header.now _ _ _ c.world_secrets.ensures.key c.world_secrets.ensures.barrier c.in-Ok.ensures

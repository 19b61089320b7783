use Rattle.mm_told_moves.proofs.Sizing.{read_failed}
use Rattle.mm_told_moves.proofs.following.read.Goals as goal

pub returns-in-Err : goal.returns-in-Err
returns-in-Err g c =
    rw c.in-Err.is (rw c.ended.ensures (rw c.device.ensures
    (read_failed (g.V.HostMove.finds c.args.it.now) c.in-Err.fault c.args.more.now)))

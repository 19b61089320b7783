use Rattle.std.proofs.Common.{rules}
use Rattle.mm_told_moves.proofs.Sizing.{read_found}
use Rattle.mm_told_moves.proofs.following.seen.Goals as goal

pub returns : goal.returns
returns g c =
    read_found (g.V.HostMove.finds c.args.it.now) c.args.bytes.now (search rules) c.find.result c.args.more.now c.told.result
    c.find.ensures c.told.ensures

use Rattle.mm_told_moves.proofs.Sizing.{read_none}
use Rattle.mm_told_moves.proofs.following.behind.Goals as goal

pub returns-in_default : goal.returns-in_default
returns-in_default g c = read_none (g.V.HostMove.finds c.args.it.now) c.args.first.now c.args.more.now c.in_default.not-ReadCell

use Rattle.std.proofs.Common.{refl}
use Rattle.mm_told_moves.proofs.Sizing.{slice_tells}
use Rattle.mm_told_moves.proofs.following.follow.Goals as goal

pub returns-in-len1-up : goal.returns-in-len1-up
returns-in-len1-up g c =
    slice_tells (g.V.HostMove.finds c.args.it.now) c.args.made.now _ _ _ c.behind.result c.in-len1-up.len_at_least refl refl
    c.behind.ensures

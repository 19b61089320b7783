use Rattle.std.proofs.Common.{refl}
use Rattle.mm_told.proofs.Playing.{slice_on, slice_ends, slice_other}
use Rattle.mm_told.proofs.told.+tell.Goals as goal

pub returns-in-To : goal.returns-in-To
returns-in-To g t c =
    slice_on (g.O.Operation.asked c.args.op.now) c.args.stage _ c.args.made.now _ _ c.in-To.stage c.tell.result c.in-len1-up.len_at_least
    refl refl c.in-To.ensures c.tell.ensures

pub returns-in-End : goal.returns-in-End
returns-in-End g t c =
    rw c.over.ensures
    (slice_ends (g.O.Operation.asked c.args.op.now) c.args.stage _ c.args.made.now _ _ c.in-End.end c.in-len1-up.len_at_least
    refl refl c.in-End.ensures)

pub returns-in-Other : goal.returns-in-Other
returns-in-Other g t c =
    slice_other (g.O.Operation.asked c.args.op.now) c.args.stage _ c.args.made.now c.in-len1-up.len_at_least c.in-Other.ensures

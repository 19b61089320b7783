use Rattle.mm_sides.proofs.OneRun.{one_is_live}
use Rattle.mm_sides.proofs.laws.one_side_is_live.Goals as goal

pub returns : goal.returns
returns c = one_is_live

use Rattle.mm_sides.proofs.BothAgree.{pairs_go_on}
use Rattle.mm_sides.proofs.laws.both_go_on.Goals as goal

pub returns : goal.returns
returns c = pairs_go_on

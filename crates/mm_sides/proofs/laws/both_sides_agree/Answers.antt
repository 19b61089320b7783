use Rattle.mm_sides.proofs.BothAgree.{pairs_agree}
use Rattle.mm_sides.proofs.laws.both_sides_agree.Goals as goal

pub returns : goal.returns
returns c = pairs_agree

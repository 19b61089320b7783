use Rattle.mm_check.proofs.ClearLaws.{premise_fixed}
use Rattle.mm_check.proofs.laws.premise_is_fixed.Goals as goal

pub returns : goal.returns
returns c = premise_fixed

use Rattle.mm_model.proofs.OptJudge.{lost_is_zero}
use Rattle.mm_model.proofs.laws.zero_is_lost.Goals as goal

pub returns : goal.returns
returns c = lost_is_zero

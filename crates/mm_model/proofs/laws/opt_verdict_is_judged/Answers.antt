use Rattle.mm_model.proofs.OptJudge.{opt_is_judged}
use Rattle.mm_model.proofs.laws.opt_verdict_is_judged.Goals as goal

pub returns : goal.returns
returns c = opt_is_judged

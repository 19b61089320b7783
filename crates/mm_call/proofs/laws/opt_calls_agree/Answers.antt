use Rattle.mm_call.proofs.OptLaw.{opt_calls_agree}
use Rattle.mm_call.proofs.laws.opt_calls_agree.Goals as goal

pub returns : goal.returns
returns c = opt_calls_agree

use Rattle.mm_call.proofs.BasicLaw.{basic_calls_agree}
use Rattle.mm_call.proofs.laws.basic_calls_agree.Goals as goal

pub returns : goal.returns
returns c = basic_calls_agree

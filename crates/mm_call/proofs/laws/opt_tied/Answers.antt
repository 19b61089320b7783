use Rattle.mm_call.proofs.OptShapes.{opt_tied}
use Rattle.mm_call.proofs.laws.opt_tied.Goals as goal

pub returns : goal.returns
returns c = opt_tied

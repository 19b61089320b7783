use Rattle.mm_call.proofs.Checkpoints.{opt_checkpoints_agree}
use Rattle.mm_call.proofs.laws.opt_checkpoints_agree.Goals as goal

pub returns : goal.returns
returns c = opt_checkpoints_agree

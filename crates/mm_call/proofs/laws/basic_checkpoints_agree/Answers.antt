use Rattle.mm_call.proofs.Checkpoints.{basic_checkpoints_agree}
use Rattle.mm_call.proofs.laws.basic_checkpoints_agree.Goals as goal

pub returns : goal.returns
returns c = basic_checkpoints_agree

use Rattle.mm_client.proofs.AnyLives.{own_outputs_tell}
use Rattle.mm_client.proofs.laws.own_outputs_tell.Goals as goal

pub returns : goal.returns
returns c = own_outputs_tell

use Rattle.mm_client.proofs.AnyLives.{replies_tell}
use Rattle.mm_client.proofs.laws.replies_tell_requests.Goals as goal

pub returns : goal.returns
returns c = replies_tell

use Rattle.mm_client.proofs.AnyLives.{whole_sessions_tell}
use Rattle.mm_client.proofs.laws.whole_sessions_tell_all.Goals as goal

pub returns : goal.returns
returns c = whole_sessions_tell

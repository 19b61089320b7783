use Rattle.mm_client.proofs.AnyLives.{sessions_send}
use Rattle.mm_client.proofs.laws.sessions_send_replies.Goals as goal

pub returns : goal.returns
returns c = sessions_send

use Rattle.mm_client.proofs.AnyLives.{asking_tells}
use Rattle.mm_client.proofs.laws.asking_tells.Goals as goal

pub returns : goal.returns
returns c = asking_tells

use Rattle.mm_outcome.proofs.Expecting.{events_agree}
use Rattle.mm_outcome.proofs.laws.events_agree.Goals as goal

pub returns : goal.returns
returns c = events_agree

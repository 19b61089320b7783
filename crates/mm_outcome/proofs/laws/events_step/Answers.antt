use Rattle.mm_outcome.proofs.Counting.{event_steps}
use Rattle.mm_outcome.proofs.laws.events_step.Goals as goal

pub returns : goal.returns
returns c = event_steps

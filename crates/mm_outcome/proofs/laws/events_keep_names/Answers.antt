use Rattle.mm_outcome.proofs.Naming.{events_keep_names}
use Rattle.mm_outcome.proofs.laws.events_keep_names.Goals as goal

pub returns : goal.returns
returns c = events_keep_names

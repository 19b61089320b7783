use Rattle.mm_moments.proofs.LineStops.{may_be_killed}
use Rattle.mm_moments.proofs.moments.sessions_may_be_killed.Goals as goal

pub returns : goal.returns
returns c = may_be_killed

use Rattle.mm_killed.proofs.Failing.{any_stops}
use Rattle.mm_killed.proofs.any_program_stops.Goals as goal

pub returns : goal.returns
returns g c = any_stops

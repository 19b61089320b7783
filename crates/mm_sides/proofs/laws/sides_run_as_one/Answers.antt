use Rattle.mm_sides.proofs.OneRun.{sides_run}
use Rattle.mm_sides.proofs.laws.sides_run_as_one.Goals as goal

pub returns : goal.returns
returns c = sides_run

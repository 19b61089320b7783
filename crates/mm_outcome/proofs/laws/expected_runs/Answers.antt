use Rattle.mm_outcome.proofs.Counting.{expected_runs}
use Rattle.mm_outcome.proofs.laws.expected_runs.Goals as goal

pub returns : goal.returns
returns c = expected_runs

use Rattle.mm_outcome.proofs.FirstBytes.{clear_fronts, fronts_run, genuine_fronts}
use Rattle.mm_outcome.proofs.laws.fronts_are_one_run.Goals as goal

pub returns : goal.returns
returns c = record { one = fronts_run; clear = clear_fronts; genuine = genuine_fronts }

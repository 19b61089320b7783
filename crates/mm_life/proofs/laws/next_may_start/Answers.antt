use Rattle.mm_life.proofs.KilledPrograms.{next_starts}
use Rattle.mm_life.proofs.laws.next_may_start.Goals as goal

pub returns : goal.returns
returns c = next_starts

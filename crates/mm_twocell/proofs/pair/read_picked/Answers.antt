use Rattle.mm_twocell.proofs.Writing.{reads_then}
use Rattle.mm_twocell.proofs.pair.read_picked.Goals as goal

pub returns-clause-goes : goal.returns-clause-goes
returns-clause-goes g c = reads_then _ _ _ _ c.in_ok-selector.ensures.goes c.raw_read.ensures.goes

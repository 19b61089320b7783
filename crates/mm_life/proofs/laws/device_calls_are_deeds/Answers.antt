use Rattle.mm_life.proofs.KilledPrograms.{cycles_are_deeds, reads_are_deeds}
use Rattle.mm_life.proofs.laws.device_calls_are_deeds.Goals as goal

pub returns-clause-reads : goal.returns-clause-reads
returns-clause-reads c = reads_are_deeds

pub returns-clause-cycles : goal.returns-clause-cycles
returns-clause-cycles c = cycles_are_deeds

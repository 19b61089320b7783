use Rattle.mm_life.proofs.KilledPrograms.{batch_calls_lead, parts_lead}
use Rattle.mm_life.proofs.laws.batch_calls_are_deeds.Goals as goal

pub returns-clause-calls : goal.returns-clause-calls
returns-clause-calls c = batch_calls_lead c.nothing_is_done_elsewhere.ensures.calls

pub returns-clause-parts : goal.returns-clause-parts
returns-clause-parts c = parts_lead c.nothing_is_done_elsewhere.ensures.calls

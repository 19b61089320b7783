use Rattle.std.proofs.Common.{arith}
use Rattle.mm_schedule.proofs.ReadIsSpelled.{event_spelled}
use Rattle.mm_schedule.proofs.read.read_event.Goals as goal

pub returns-in-Some-clause-spelled : goal.returns-in-Some-clause-spelled
returns-in-Some-clause-spelled c = grind (arith, event_spelled)

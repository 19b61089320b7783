use Rattle.std.proofs.Common.{rules}
use Rattle.mm_slots.proofs.put.put_said.Goals as goal

pub returns-in-Busy : goal.returns-in-Busy
returns-in-Busy c = search rules

use Rattle.std.proofs.Common.{arith}
use Rattle.std.proofs.lemmas.Grind.{common_steps}
use Rattle.mm_slots.proofs.parts.Parts.begin.Goals as goal

pub begin_asking-requires-clause-room : goal.begin_asking-requires-clause-room
begin_asking-requires-clause-room c = grind (arith, common_steps)

pub begin_asking-requires-clause-offered : goal.begin_asking-requires-clause-offered
begin_asking-requires-clause-offered c = grind (arith, common_steps)

use Rattle.std.proofs.Common.{arith}
use Rattle.std.proofs.lemmas.Grind.{common_steps}
use Rattle.mm_base.proofs.lines.HeldBytes.make_room.Goals as goal

pub move_to_front-requires-clause-apart : goal.move_to_front-requires-clause-apart
move_to_front-requires-clause-apart c = grind (arith, common_steps)

pub returns-clause-same : goal.returns-clause-same
returns-clause-same c = grind (arith, common_steps)

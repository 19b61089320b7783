use Rattle.std.proofs.Common.{arith}
use Rattle.std.proofs.lemmas.Grind.{common_steps}
use Rattle.mm_platform.proofs.memory.let_in_due.Goals as goal

pub push-requires : goal.push-requires
push-requires c = grind (arith, common_steps)

pub loop-meddle-preserved : goal.loop-meddle-preserved
loop-meddle-preserved c = grind (arith, common_steps)

pub returns-clause-items : goal.returns-clause-items
returns-clause-items c = grind (arith, common_steps)

pub returns-clause-room : goal.returns-clause-room
returns-clause-room c = grind (arith, common_steps)

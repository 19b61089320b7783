use Rattle.std.proofs.Common.{arith}
use Rattle.std.proofs.lemmas.Grind.{common_steps}
use Rattle.mm_transfer.proofs.text.owned_act.Goals as goal

pub returns-in-Checkpoint : goal.returns-in-Checkpoint
returns-in-Checkpoint c = grind (arith, common_steps)

pub returns-in_ok-request-in-Ask : goal.returns-in_ok-request-in-Ask
returns-in_ok-request-in-Ask c = grind (arith, common_steps)

pub returns-in-Extend : goal.returns-in-Extend
returns-in-Extend c = grind (arith, common_steps)

pub returns-in-Power : goal.returns-in-Power
returns-in-Power c = grind (arith, common_steps)

pub returns-in_ok-command-in-Moves : goal.returns-in_ok-command-in-Moves
returns-in_ok-command-in-Moves c = grind (arith, common_steps)

use Rattle.std.proofs.Common.{arith}
use Rattle.std.proofs.lemmas.Grind.{common_steps}
use Rattle.mm_expect.proofs.chronicle.Chronicle.hand_messages.Goals as goal

pub returns-clause-messages : goal.returns-clause-messages
returns-clause-messages c = grind (arith, common_steps)

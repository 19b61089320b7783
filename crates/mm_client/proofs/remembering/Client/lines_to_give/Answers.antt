use Rattle.std.proofs.Common.{arith}
use Rattle.std.proofs.lemmas.Grind.{common_steps}
use Rattle.mm_client.proofs.remembering.Client.lines_to_give.Goals as goal

pub returns : goal.returns
returns c = grind (arith, common_steps)

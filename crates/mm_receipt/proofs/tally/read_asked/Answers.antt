use Rattle.std.proofs.Common.{arith}
use Rattle.std.proofs.lemmas.Grind.{common_steps}
use Rattle.mm_receipt.proofs.tally.read_asked.Goals as goal

pub returns-then-request-le-LONGEST_REQUEST-clause-asked : goal.returns-then-request-le-LONGEST_REQUEST-clause-asked
returns-then-request-le-LONGEST_REQUEST-clause-asked c = grind (arith, common_steps)

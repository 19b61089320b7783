use Rattle.std.proofs.Common.{arith}
use Rattle.std.proofs.lemmas.Grind.{common_steps}
use Rattle.memoir_c.proofs.asking.put_both.Goals as goal

pub returns-then-rest-behind-clause-unwritten : goal.returns-then-rest-behind-clause-unwritten
returns-then-rest-behind-clause-unwritten c = grind (arith, common_steps)

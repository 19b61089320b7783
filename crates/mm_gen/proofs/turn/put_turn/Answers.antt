use Rattle.std.proofs.Common.{arith}
use Rattle.std.proofs.lemmas.Grind.{common_steps}
use Rattle.mm_gen.proofs.turn.put_turn.Goals as goal

pub returns-in_ok-put_line-in-Pair-2-clause-lines : goal.returns-in_ok-put_line-in-Pair-2-clause-lines
returns-in_ok-put_line-in-Pair-2-clause-lines c = grind (arith, common_steps)

pub returns-in_ok-put_line-in-Pair-2-clause-count : goal.returns-in_ok-put_line-in-Pair-2-clause-count
returns-in_ok-put_line-in-Pair-2-clause-count c = grind (arith, common_steps)

use Rattle.std.proofs.Common.{arith}
use Rattle.std.proofs.lemmas.Grind.{common_steps}
use Rattle.mm_slots.proofs.heading.add_head.Goals as goal

pub new-requires-2-clause-some : goal.new-requires-2-clause-some
new-requires-2-clause-some c = grind (arith, common_steps)

pub new-requires-2-clause-few : goal.new-requires-2-clause-few
new-requires-2-clause-few c = grind (arith, common_steps)

pub overflow_add-len : goal.overflow_add-len
overflow_add-len c = grind (arith, common_steps)

pub invariant_of-heads : goal.invariant_of-heads
invariant_of-heads c = grind (arith, common_steps)

pub invariant_of-heads-2 : goal.invariant_of-heads-2
invariant_of-heads-2 c = grind (arith, common_steps)

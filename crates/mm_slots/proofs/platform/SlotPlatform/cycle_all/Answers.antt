use Rattle.std.proofs.Common.{arith, rules}
use Rattle.std.proofs.lemmas.Grind.{common_steps}
use Rattle.mm_slots.proofs.Growing.{one_more}
use Rattle.mm_slots.proofs.platform.SlotPlatform.cycle_all.Goals as goal

pub loop-slot-preserved : goal.loop-slot-preserved
loop-slot-preserved c =
    one_more c.deref_mut-slot-items.result.now c.loop-slot.slot-items c.loop-slot.slot-index c.lose_power.new.self c.slot-item.result
    (search rules) (search rules) c.lose_power.ensures c.loop-slot.invariant

pub invariant_of-self : goal.invariant_of-self
invariant_of-self c = grind (arith, common_steps)

pub returns-clause-all : goal.returns-clause-all
returns-clause-all c = grind (arith, common_steps)

pub returns-clause-inside : goal.returns-clause-inside
returns-clause-inside c = grind (arith, common_steps)

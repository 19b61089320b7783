use Rattle.mm_slots.proofs.Below.{◌≡◌, map, take, drop, standing_after_cycle}
use Rattle.mm_slots.proofs.platform.SlotPlatform.cycle_all.Given as goal

-- the slots behind the ones that lost their power are as they were
abbrev pub invariant-loop-slot : goal.invariant-loop-slot
invariant-loop-slot l = (take l.slot-index l.slot-items ≡ map standing_after_cycle (take l.slot-index l.initial.slot-items))
    × (drop l.slot-index l.slot-items ≡ drop l.slot-index l.initial.slot-items)

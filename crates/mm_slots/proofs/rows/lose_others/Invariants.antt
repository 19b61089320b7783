use Rattle.mm_slots.proofs.Below.{◌≡◌, length, losses_of_others}
use Rattle.mm_slots.proofs.Rowing.{AreMetBelow}
use Rattle.mm_slots.proofs.rows.lose_others.Given as goal

-- the slots before this one lost their power, but for that one
abbrev pub invariant-loop-place : goal.invariant-loop-place
invariant-loop-place l = (length l.slots ≡ length l.fn.slots) × AreMetBelow (losses_of_others l.but) l.place l.fn.slots l.slots

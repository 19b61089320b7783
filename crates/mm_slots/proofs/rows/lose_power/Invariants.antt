use Rattle.mm_slots.proofs.Below.{◌≡◌, [], ◌∷◌, length, Loses}
use Rattle.mm_slots.proofs.Rowing.{AreMetBelow}
use Rattle.mm_slots.proofs.rows.lose_power.Given as goal

-- the slots before this one lost their power
abbrev pub invariant-loop-place : goal.invariant-loop-place
invariant-loop-place l = (length l.slots ≡ length l.fn.slots) × AreMetBelow (λ _. Loses ∷ []) l.place l.fn.slots l.slots

use Rattle.mm_slots.proofs.Below.{◌≡◌, take, first_rows}
use Rattle.mm_slots.proofs.first.first_slots.Given as goal

abbrev pub invariant-loop-place : goal.invariant-loop-place
invariant-loop-place l = l.slots.items ≡ first_rows (take l.place l.headers)

use Rattle.mm_slots.proofs.Below.{◌≡◌, ◌++◌, take, end_lines}
use Rattle.mm_slots.proofs.totals.put_ends.Given as goal

abbrev pub invariant-loop-place : goal.invariant-loop-place
invariant-loop-place l = l.into ≡ l.fn.into ++ end_lines 0 (take l.place l.slots)

use Rattle.mm_slots.proofs.Below.{◌≡◌, take, within_64, kept_bytes_in}
use Rattle.mm_slots.proofs.totals.bytes_in.Given as goal

abbrev pub invariant-loop-slot : goal.invariant-loop-slot
invariant-loop-slot l = l.total ≡ within_64 (kept_bytes_in (take l.slot-index l.slots))

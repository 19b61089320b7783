use Rattle.mm_slots.proofs.Below.{◌≡◌, take, within_64}
use Rattle.mm_slots.specs.Stage.{issued_count_in}
use Rattle.mm_slots.proofs.totals.snapshots_in.Given as goal

abbrev pub invariant-loop-slot : goal.invariant-loop-slot
invariant-loop-slot l = l.total ≡ within_64 (issued_count_in (take l.slot-index l.slots))

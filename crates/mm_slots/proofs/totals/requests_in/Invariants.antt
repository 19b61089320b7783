use Rattle.mm_slots.proofs.Below.{◌≡◌, take, within_64}
use Rattle.mm_slots.specs.Stage.{committed_count_in}
use Rattle.mm_slots.proofs.totals.requests_in.Given as goal

abbrev pub invariant-loop-slot : goal.invariant-loop-slot
invariant-loop-slot l = l.total ≡ within_64 (committed_count_in (take l.slot-index l.slots))

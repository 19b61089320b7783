use Rattle.mm_slots.proofs.Below.{◌≡◌, map, take, new_platform}
use Rattle.mm_slots.proofs.platform.SlotPlatform.new.Given as goal

abbrev pub invariant-loop-cell : goal.invariant-loop-cell
invariant-loop-cell l = l.slots.items ≡ map new_platform (take l.cell-index l.cells)

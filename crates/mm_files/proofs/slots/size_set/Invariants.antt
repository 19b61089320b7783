use Rattle.std.proofs.Common.{◌≤◌}
use Rattle.mm_files.proofs.slots.size_set.Given as goal

abbrev pub invariant-loop-at : goal.invariant-loop-at
invariant-loop-at l = l.size ≤ 256

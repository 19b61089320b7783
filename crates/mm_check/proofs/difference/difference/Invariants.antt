use Rattle.mm_check.proofs.Below.{◌≡◌, ◌+◌, drop, difference_from, first_difference}
use Rattle.mm_check.proofs.difference.difference.Given as goal

abbrev pub invariant-lines : goal.invariant-lines
invariant-lines l = first_difference l.tested l.expected ≡ difference_from (l.index + 1) (drop l.index l.tested) (drop l.index l.expected)

use Rattle.mm_expect.proofs.Below.{◌≡◌, take}
use Rattle.mm_expect.proofs.answering.copy_into.Given as goal

abbrev pub invariant-outputs : goal.invariant-outputs
invariant-outputs l = l.copy ≡ take l.i l.outputs

use Rattle.std.proofs.Common.{◌≡◌, length, take}
use Rattle.memoir_c.specs.CallReplies.{AreSteps}
use Rattle.memoir_c.proofs.made.put_made.Given as goal

abbrev pub invariant-steps : goal.invariant-steps
invariant-steps l = AreSteps (take l.i l.steps) (take l.i l.into) × (length l.into ≡ 5)

use Rattle.std.proofs.Common.{◌≡◌, take}
use Rattle.memoir_c.specs.CallReplies.{lines_of}
use Rattle.memoir_c.proofs.batch.put_lines.Given as goal

abbrev pub invariant-outputs : goal.invariant-outputs
invariant-outputs l = l.text ≡ lines_of (take l.i l.outputs)

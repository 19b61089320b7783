use Rattle.std.proofs.Common.{◌≡◌, take}
use Rattle.mm_base.specs.Input.{joined_lines}
use Rattle.mm_client.proofs.local.joined.Given as goal

abbrev pub invariant-loop-line : goal.invariant-loop-line
invariant-loop-line l = l.text ≡ joined_lines (take l.line-index l.lines)

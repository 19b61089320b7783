use Rattle.std.proofs.Common.{◌≡◌, ◌++◌, length}
use Rattle.mm_client.specs.LocalLife.{replies_in}
use Rattle.mm_client.proofs.output.replies_in.Given as goal

abbrev pub invariant-lines : goal.invariant-lines
invariant-lines l = l.replies.items ++ replies_in l.rest ≡ replies_in l.fn.output

abbrev pub decreases-lines : goal.decreases-lines
decreases-lines l = length l.rest

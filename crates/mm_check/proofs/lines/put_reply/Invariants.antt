use Rattle.mm_check.proofs.Below.{◌≡◌, ◌++◌, take, lines_of_reply}
use Rattle.mm_check.proofs.lines.put_reply.Given as goal

abbrev pub invariant-lines : goal.invariant-lines
invariant-lines l = l.lines ≡ l.fn.lines ++ take l.index (lines_of_reply l.reply)

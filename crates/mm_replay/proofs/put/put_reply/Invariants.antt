use Rattle.mm_replay.proofs.Below.{◌≡◌, ◌++◌, drop, concat, lines_of_reply}
use Rattle.mm_replay.proofs.put.put_reply.Given as goal

-- the lines from the index on are to come
abbrev pub invariant-lines : goal.invariant-lines
invariant-lines l = l.into ++ concat (drop l.index (lines_of_reply l.reply)) ≡ l.fn.into ++ concat (lines_of_reply l.reply)

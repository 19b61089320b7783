use Rattle.mm_gen.proofs.Below.{◌≡◌, length, lines_of, running_replay}
use Rattle.mm_gen.proofs.Tallying.{Going}
use Rattle.mm_gen.proofs.run.summary_of.Given as goal

abbrev pub invariant-lines : goal.invariant-lines
invariant-lines l = record {
  going : Going (lines_of l.text) l.rest (running_replay l.progress) l.counts l.replies;
  header : (running_replay l.progress).header ≡ (running_replay l.fn.progress).header;
}

abbrev pub decreases-lines : goal.decreases-lines
decreases-lines l = length l.rest

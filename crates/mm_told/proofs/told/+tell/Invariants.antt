use Rattle.std.specs.Prelude.{length}
use Rattle.mm_told.proofs.told.+tell.Given as goal

abbrev pub decreases-tell : goal.decreases-tell
decreases-tell g l = length l.made.now

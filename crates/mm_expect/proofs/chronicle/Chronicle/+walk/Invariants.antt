use Rattle.std.proofs.Common.{length}
use Rattle.mm_expect.proofs.chronicle.Chronicle.+walk.Given as goal

-- proposed from what the function passes where it calls itself
abbrev pub decreases-walk : goal.decreases-walk
decreases-walk l = length l.steps.now

use Rattle.std.proofs.Common.{◌≡◌, ℕ, ◌+◌, ◌<◌, get_or, length}
use Rattle.mm_outcome.proofs.keys.rising.Given as goal

-- the bytes below this place are right
abbrev pub invariant-loop-place : goal.invariant-loop-place
invariant-loop-place l = (length l.bytes ≡ 32) × ((k : ℕ) → k < l.place → get_or l.bytes k 0 ≡ l.first + k)

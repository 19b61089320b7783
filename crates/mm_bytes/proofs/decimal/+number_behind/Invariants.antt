use Rattle.mm_bytes.proofs.Below.{length}
use Rattle.mm_bytes.proofs.decimal.+number_behind.Given as goal

abbrev pub decreases-number_behind : goal.decreases-number_behind
decreases-number_behind l = length l.digits.now

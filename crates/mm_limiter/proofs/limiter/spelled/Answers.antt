use Rattle.std.proofs.Common.{rules}
use Rattle.mm_limiter.proofs.limiter.spelled.Goals as goal

pub returns-in_ok-append-in-Guarded : goal.returns-in_ok-append-in-Guarded
returns-in_ok-append-in-Guarded c = search rules

use Rattle.std.proofs.Common.{rules}
use Rattle.mm_limiter.proofs.limiter.outcome.Goals as goal

pub returns-in-Guarded-default-eq0-default-Guess : goal.returns-in-Guarded-default-eq0-default-Guess
returns-in-Guarded-default-eq0-default-Guess c = search rules

pub returns-else-eq : goal.returns-else-eq
returns-else-eq c = search rules

use Rattle.mm_limiter.specs.LimiterLaws.{guesses-limited}
use Rattle.mm_limiter.proofs.laws.guesses_are_limited.Goals as goal

pub returns : goal.returns
returns c requests from size none = guesses-limited requests from size none

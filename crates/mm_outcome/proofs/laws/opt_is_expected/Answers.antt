use Rattle.mm_outcome.proofs.Below.{Opt}
use Rattle.mm_outcome.proofs.Expecting.{is_expected}
use Rattle.mm_outcome.proofs.laws.opt_is_expected.Goals as goal

pub returns : goal.returns
returns c = is_expected Opt

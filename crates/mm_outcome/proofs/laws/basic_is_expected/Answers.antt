use Rattle.mm_outcome.proofs.Below.{Basic, zero_bytes}
use Rattle.mm_outcome.proofs.Expecting.{is_expected}
use Rattle.mm_outcome.proofs.laws.basic_is_expected.Goals as goal

pub returns : goal.returns
returns c = λ meaning key. is_expected Basic meaning key zero_bytes

use Rattle.mm_call.specs.CallFinding.{list_level, digest_level}
use Rattle.mm_outcome.proofs.FirstBytes.{goes_on, messages-append}
use Rattle.mm_outcome.proofs.laws.schedules_go_on.Goals as goal

pub returns : goal.returns
returns c = λ i es fs y d issued.
    (goes_on i (list_level i) es fs y issued, goes_on i (digest_level i) es fs d issued, messages-append i es fs y issued)

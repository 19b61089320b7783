use Rattle.mm_callers.proofs.Below.{basic_instance, opt_instance}
use Rattle.mm_callers.proofs.OptCalls.{complete}
use Rattle.mm_callers.proofs.laws.calls_are_complete.Goals as goal

pub returns-clause-basic : goal.returns-clause-basic
returns-clause-basic c meaning key = complete (basic_instance meaning key)

pub returns-clause-opt : goal.returns-clause-opt
returns-clause-opt c meaning key barrier = complete (opt_instance meaning key barrier)

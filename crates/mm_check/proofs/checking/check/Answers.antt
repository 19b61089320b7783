use Rattle.mm_check.proofs.CheckingLaws.{checked_err}
use Rattle.mm_check.proofs.checking.check.Goals as goal

pub returns-in-Err-clause-checks : goal.returns-in-Err-clause-checks
returns-in-Err-clause-checks g c = checked_err _ _ _ c.in-Err.fault c.in-Err.ensures.judges

use Rattle.mm_check.specs.Checks.{ChecksRun}
use Rattle.mm_app.proofs.Completing.{plays_and_stops}
use Rattle.mm_app.proofs.check.check_run.Goals as goal

pub returns-clause-checks : goal.returns-clause-checks
returns-clause-checks g c rest =
    let it = c.check-answer in
    plays_and_stops ChecksRun _ _ _ _ it.result _ it.ensures.checks it.ensures.read it.ensures.wrote
    c.answered.ensures.ends c.answered.ensures.stops

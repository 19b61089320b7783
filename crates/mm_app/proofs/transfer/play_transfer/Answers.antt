use Rattle.mm_transfer.specs.Stage.{PlaysTransfer}
use Rattle.mm_app.proofs.Completing.{plays_and_stops}
use Rattle.mm_app.proofs.transfer.play_transfer.Goals as goal

pub returns-clause-plays : goal.returns-clause-plays
returns-clause-plays g c rest =
    let it = c.transfer-answer in
    plays_and_stops PlaysTransfer _ _ _ _ it.result _ it.ensures.plays it.ensures.read it.ensures.wrote
    c.answered.ensures.ends c.answered.ensures.stops

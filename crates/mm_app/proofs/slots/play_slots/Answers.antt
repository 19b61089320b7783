use Rattle.mm_slots.specs.Stage.{PlaysSlots}
use Rattle.mm_app.proofs.Completing.{plays_and_stops}
use Rattle.mm_app.proofs.slots.play_slots.Goals as goal

pub returns-clause-plays : goal.returns-clause-plays
returns-clause-plays g c rest =
    let it = c.slots-answer in
    plays_and_stops PlaysSlots _ _ _ _ it.result _ it.ensures.plays it.ensures.read it.ensures.wrote
    c.answered.ensures.ends c.answered.ensures.stops

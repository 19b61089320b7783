use Rattle.mm_replay.specs.Schedule.{ReplaysSchedule}
use Rattle.mm_app.proofs.Completing.{plays_and_stops}
use Rattle.mm_app.proofs.replay.replay_and_stop.Goals as goal

pub returns-clause-replays : goal.returns-clause-replays
returns-clause-replays g c rest =
    let it = c.replay-answer in
    plays_and_stops ReplaysSchedule _ _ _ _ it.result _ it.ensures.replays it.ensures.read it.ensures.wrote
    c.answered.ensures.ends c.answered.ensures.stops

use Rattle.mm_replay.proofs.Telling.{replays_go_on}
use Rattle.mm_replay.proofs.laws.replays_go_on.Goals as goal

pub returns : goal.returns
returns c = replays_go_on c.schedules_go_on.ensures

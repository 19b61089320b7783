use Rattle.mm_replay.proofs.Telling.{premises_give, until_evidence}
use Rattle.mm_replay.proofs.laws.replays_are_one_run.Goals as goal

pub returns : goal.returns
returns c = record { premises = premises_give c.premises_or_evidence.ensures; until = until_evidence c.premises_or_evidence.ensures }

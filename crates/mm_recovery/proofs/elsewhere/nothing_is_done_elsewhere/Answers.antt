use Rattle.mm_recovery.proofs.Exits.{calls_are_refused, checkpoints_are_refused}
use Rattle.mm_recovery.proofs.elsewhere.nothing_is_done_elsewhere.Goals as goal

pub returns-clause-calls : goal.returns-clause-calls
returns-clause-calls c = calls_are_refused

pub returns-clause-checkpoints : goal.returns-clause-checkpoints
returns-clause-checkpoints c = checkpoints_are_refused

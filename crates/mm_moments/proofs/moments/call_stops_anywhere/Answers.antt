use Rattle.mm_moments.proofs.Counting.{calls_stop_anywhere, all_are_counted}
use Rattle.mm_moments.proofs.LineStops.{checkpoints_stop_anywhere, killed_between}
use Rattle.mm_moments.proofs.moments.call_stops_anywhere.Goals as goal

pub returns-clause-calls : goal.returns-clause-calls
returns-clause-calls c = calls_stop_anywhere

pub returns-clause-counted : goal.returns-clause-counted
returns-clause-counted c = all_are_counted

pub returns-clause-checkpoints : goal.returns-clause-checkpoints
returns-clause-checkpoints c = checkpoints_stop_anywhere

pub returns-clause-between : goal.returns-clause-between
returns-clause-between c = killed_between

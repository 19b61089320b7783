use Rattle.mm_replay.proofs.Below.{events_err, events_ok, plays_err, unrefused}
use Rattle.mm_replay.specs.Schedule.{IsByDigests, replay_player, run_result_by_digests, ReportsReplay, first_replay_state, replay_heads}
use Rattle.mm_replay.specs.Schedule.{replay_stage, replay_steps}
use Rattle.mm_replay.specs.declared.report.Report.{Report}
use Rattle.mm_replay.proofs.Telling.{by_digests_so, shows}
use Rattle.mm_replay.proofs.schedules.replay.Goals as goal

pub returns-in-Err-clause-replays : goal.returns-in-Err-clause-replays
returns-in-Err-clause-replays g c =
    events_err replay_player replay_heads replay_stage replay_steps first_replay_state run_result_by_digests shows IsByDigests
    (by_digests_so c.fronts_are_one_run.ensures.one c.premises_or_evidence.ensures) ReportsReplay c.new-player.ensures
    c.play-played.ensures.plays c.in-Err.fault c.in-Err.is

pub returns-in-Ok-clause-replays : goal.returns-in-Ok-clause-replays
returns-in-Ok-clause-replays g c =
    events_ok replay_player replay_heads replay_stage replay_steps first_replay_state run_result_by_digests shows IsByDigests
    (by_digests_so c.fronts_are_one_run.ensures.one c.premises_or_evidence.ensures) ReportsReplay c.new-player.ensures
    c.play-played.ensures.plays tt c.in-Ok.is c.report_of-report.result c.report_of-report.ensures

pub returns-in-Err-clause-complete : goal.returns-in-Err-clause-complete
returns-in-Err-clause-complete g c =
    unrefused (plays_err {R = Report} c.new-player.ensures c.play-played.ensures.plays c.in-Err.fault c.in-Err.is)

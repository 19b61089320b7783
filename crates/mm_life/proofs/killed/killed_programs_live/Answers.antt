use Rattle.mm_life.proofs.KilledPrograms.{checkpoints_live, cycling_lives, losses_live, sessions_live, starts_leave}
use Rattle.mm_life.proofs.killed.killed_programs_live.Goals as goal

pub returns-clause-sessions : goal.returns-clause-sessions
returns-clause-sessions c = sessions_live c.any_program_stops.ensures

pub returns-clause-checkpoints : goal.returns-clause-checkpoints
returns-clause-checkpoints c = checkpoints_live c.any_program_stops-2.ensures

pub returns-clause-losses : goal.returns-clause-losses
returns-clause-losses c = losses_live c.any_program_stops-3.ensures

pub returns-clause-starts : goal.returns-clause-starts
returns-clause-starts c = starts_leave c.any_program_stops-4.ensures

pub returns-clause-cycling : goal.returns-clause-cycling
returns-clause-cycling c = cycling_lives c.any_program_stops-3.ensures

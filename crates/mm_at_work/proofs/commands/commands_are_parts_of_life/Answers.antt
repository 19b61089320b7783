use Rattle.mm_at_work.proofs.WholeLives.{checkpoints_are_parts, init_begins, losses_are_parts, runs_are_parts, runs_find}
use Rattle.mm_at_work.proofs.commands.commands_are_parts_of_life.Goals as goal

pub returns-clause-init : goal.returns-clause-init
returns-clause-init c = init_begins

pub returns-clause-run : goal.returns-clause-run
returns-clause-run c = runs_are_parts c.device_calls_are_deeds.ensures.reads

pub returns-clause-finds : goal.returns-clause-finds
returns-clause-finds c = runs_find

pub returns-clause-checkpoint : goal.returns-clause-checkpoint
returns-clause-checkpoint c = checkpoints_are_parts

pub returns-clause-power : goal.returns-clause-power
returns-clause-power c = losses_are_parts c.device_calls_are_deeds.ensures.cycles

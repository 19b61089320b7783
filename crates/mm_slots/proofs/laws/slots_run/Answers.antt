use Rattle.mm_slots.proofs.Alone.{slots_run}
use Rattle.mm_slots.proofs.laws.slots_run.Goals as goal

pub returns : goal.returns
returns c = slots_run c.basic_is_expected.ensures c.opt_is_expected.ensures c.expected_runs.ensures c.schedules_go_on.ensures

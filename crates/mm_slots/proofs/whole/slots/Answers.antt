use Rattle.std.proofs.Common.{◌∙◌, ap}
use Rattle.mm_play.specs.Stage.{AtHeading}
use Rattle.mm_slots.proofs.Below.{events_err, events_ok, slots_steps, plays_err, unrefused, ReportsSlots}
use Rattle.mm_slots.specs.Stage.{AreSlotRuns, slots_player, first_slots_state, slots_heads, slots_stage}
use Rattle.mm_slots.specs.declared.report.SlotReport.{SlotReport}
use Rattle.mm_slots.proofs.Telling.{are_slot_runs, shown_in, shows}
use Rattle.mm_slots.proofs.whole.slots.Goals as goal

pub returns-clause-plays : goal.returns-clause-plays
returns-clause-plays g c =
    events_err slots_player slots_heads slots_stage slots_steps first_slots_state shown_in shows AreSlotRuns
    (are_slot_runs c.slots_run.ensures c.premises_or_evidence.ensures) ReportsSlots
    (c.new-player.ensures ∙ ap AtHeading c.new.ensures) c.play.ensures.plays c.in-Err.fault c.in-Err.is

pub returns-in-Ok-clause-plays : goal.returns-in-Ok-clause-plays
returns-in-Ok-clause-plays g c =
    events_ok slots_player slots_heads slots_stage slots_steps first_slots_state shown_in shows AreSlotRuns
    (are_slot_runs c.slots_run.ensures c.premises_or_evidence.ensures) ReportsSlots
    (c.new-player.ensures ∙ ap AtHeading c.new.ensures) c.play.ensures.plays tt c.in-Ok.is c.report_of.result c.report_of.ensures

pub returns-clause-complete : goal.returns-clause-complete
returns-clause-complete g c =
    unrefused (plays_err {R = SlotReport} (c.new-player.ensures ∙ ap AtHeading c.new.ensures) c.play.ensures.plays
    c.in-Err.fault c.in-Err.is)

use Rattle.std.proofs.Common.{subst}
use Rattle.mm_schedule.specs.Events.{event_at}
use Rattle.mm_check.specs.CheckStage.{RecordedRun, InEvents, answer_to_event}
use Rattle.mm_check.specs.Steps.{LineComesTo}
use Rattle.mm_check.proofs.Below.{Err}
use Rattle.mm_check.proofs.reading.ScheduleReader.add_event.Goals as goal

pub invariant_of-self : goal.invariant_of-self
invariant_of-self c = c.in-Ok.ensures.runs c.self.inside.header c.self.invariant

pub returns-in-Err : goal.returns-in-Err
returns-in-Err c =
    let line = c.args.line.now in
    subst (λ (r : RecordedRun). LineComesTo {A = RecordedRun} (λ x. InEvents x) (answer_to_event r line (event_at line))
    (Err c.in-Err.fault))
    c.self.view_is (c.in-Err.ensures.comes c.self.inside.header)

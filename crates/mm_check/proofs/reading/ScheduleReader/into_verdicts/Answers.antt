use Rattle.std.specs.Prelude.{◌≡◌}
use Rattle.std.proofs.Common.{rules}
use Rattle.mm_check.proofs.Below.{ap, arith, event_of, events_of, length, length-map}
use Rattle.mm_replay.specs.Progress.{running_replay}
use Rattle.mm_check.proofs.FewLaws.{run_verdicts}
use Rattle.mm_check.proofs.reading.ScheduleReader.into_verdicts.Goals as goal

pub verdicts_on-requires : goal.verdicts_on-requires
verdicts_on-requires c =
    omega (
      arith,
      c.self.invariant.few,
      c.self.invariant.count,
      ap length c.as_slice.ensures.value,
      length-map c.self.inside.events.items event_of,
    )

pub returns : goal.returns
returns c =
    let header : c.self.inside.header ≡ c.args.self.header = search rules in
    let events : events_of c.self.inside.events.items ≡ c.args.self.events = search rules in
    rw (← header, ← events)
    (run_verdicts c.verdicts_on.result c.self.inside.header (running_replay c.self.inside.progress) c.self.inside.events.items
    c.as_slice.result.now c.self.inside.told c.self.invariant c.as_slice.ensures.value c.report-report.ensures.committed
    c.report-report.ensures.issued c.verdicts_on.ensures)

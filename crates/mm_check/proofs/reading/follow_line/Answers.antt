use Rattle.mm_check.proofs.FewLaws.{is_run_next}
use Rattle.mm_check.proofs.reading.follow_line.Goals as goal

pub returns-in-Ok-clause-runs : goal.returns-in-Ok-clause-runs
returns-in-Ok-clause-runs c = λ header h.
    let a = c.in_ok-reply.ensures.answers in
    is_run_next header c.args.events.now.items c.args.line.now c.in_ok-event.event h a.0 a.1 a.2 c.in-Ok.ensures.events
    c.in-Ok.ensures.told

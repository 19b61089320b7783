use Rattle.mm_recovery.proofs.Below.{ap, ◌∙◌, PendingRecord}
use Rattle.mm_recovery.proofs.BatchMeeting.{askable}
use Rattle.mm_recovery.proofs.resuming.repeat.Goals as goal

pub ask_and_keep-requires : goal.ask_and_keep-requires
ask_and_keep-requires g c =
    rw (c.as_slice-in-Ok.ensures.value ∙ ap (λ (p : PendingRecord). p.request) c.waiting.view_is)
    (askable c.args.waiting.now.request c.requires.line)

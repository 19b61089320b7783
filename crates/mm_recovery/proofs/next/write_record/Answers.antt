use Rattle.std.proofs.Common.{◌∙◌}
use Rattle.mm_recovery.proofs.BatchMeeting.{record_short}
use Rattle.mm_recovery.proofs.next.write_record.Goals as goal

pub write-requires-clause-short : goal.write-requires-clause-short
write-requires-clause-short g c =
    record_short (record { position = c.args.position; request = c.args.request.now }) c.as_slice.result.now
    (c.as_slice.ensures.value ∙ c.in_ok-bytes.ensures) c.requires.line.short

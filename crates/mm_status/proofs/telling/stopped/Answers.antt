use Rattle.std.proofs.Common.{refl}
use Rattle.mm_status.proofs.telling.stopped.Goals as goal

pub returns-clause-told : goal.returns-clause-told
returns-clause-told g c = record {
  ends = refl;
  stops = record {
    result = c.write_stop.result;
    sends = c.write_stop.ensures.sent;
    counts = c.write_stop.ensures.counted;
    done = c.write_stop.ensures.done;
    failed = c.write_stop.ensures.failed;
  };
}

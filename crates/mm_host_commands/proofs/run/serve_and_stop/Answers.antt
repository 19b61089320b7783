use Rattle.std.proofs.Common.{◌∙◌}
use Rattle.mm_host_commands.proofs.run.serve_and_stop.Goals as goal

pub returns : goal.returns
returns g c entropy takes =
    let it = c.session-answer.ensures in
    let ends = c.stopped.ensures.status ∙ c.of_session.ensures in
    record {
      between = _;
      count = _;
      served = record {
        answer = c.session-answer.result;
        sessions = it.sessions;
        lines = it.lines;
        continues = it.continues;
        cell = it.writes;
        platform = it.platform;
        store = it.store;
        read = it.read;
        wrote = it.wrote;
        named = it.named;
        ends = ends;
      };
      stops = rw c.stopped.ensures.status c.stopped.ensures.told.stops;
    }

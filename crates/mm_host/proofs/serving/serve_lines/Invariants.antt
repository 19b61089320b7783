use Rattle.mm_host.proofs.Below.{◌≡◌, ◌+◌, ◌-◌, ◌≤◌, [], Result, IsSized, SessionFault, SessionStanding}
use Rattle.mm_host.proofs.Below.{most_lines, ServesInput, session_standing}
use Rattle.mm_host.proofs.serving.serve_lines.Given as goal

-- the rest of the session makes up the whole; the sizes of what was answered last; and the counts are as before
abbrev pub invariant-lines : goal.invariant-lines
invariant-lines g l = record {
  rests : (new : SessionStanding) (result : Result Unit SessionFault)
      → ServesInput l.caller.variant (g.M.Module.meaning l.caller.module.now) l.turn.number l.turn.last
      (session_standing (g.P.Device.standing l.platform) (g.T.Store.kept l.store) (g.S.Source.left l.input) (g.K.Sink.received l.out))
      new l.reader result
      → ServesInput l.caller.variant (g.M.Module.meaning l.caller.module.now) 1 l.fn.first
      (session_standing (g.P.Device.standing l.fn.platform) (g.T.Store.kept l.fn.store) (g.S.Source.left l.fn.input)
      (g.K.Sink.received l.fn.out)) new [] result;
  few : l.turn.number ≤ most_lines + 1;
  sized : IsSized l.turn.last;
  input : g.S.Source.faults l.input ≡ g.S.Source.faults l.fn.input;
  output : g.K.Sink.faults l.out ≡ g.K.Sink.faults l.fn.out;
}

abbrev pub decreases-lines : goal.decreases-lines
decreases-lines g l = 1000002 - l.turn.number

use Rattle.std.proofs.Common.{◌≡◌, ◌+◌, ◌≤◌, ◌^◌}
use Rattle.mm_play.proofs.Stopped.{Stands}
use Rattle.mm_play.proofs.lines.play.Given as goal

-- where the run stands; the counts are as before; and the lines left keep the number small
abbrev pub invariant-lines : goal.invariant-lines
invariant-lines g l = record {
  stands : Stands g.P.Player.answer l.fn.player l.player l.number (g.S.Source.left l.fn.input) (g.S.Source.left l.input)
      (g.K.Sink.received l.fn.out) (g.K.Sink.received l.out) l.reader l.pending;
  input : g.S.Source.faults l.input ≡ g.S.Source.faults l.fn.input;
  output : g.K.Sink.faults l.out ≡ g.K.Sink.faults l.fn.out;
  few : l.number + g.P.Player.lines_left l.player ≤ 2 ^ 31;
}

abbrev pub decreases-lines : goal.decreases-lines
decreases-lines g l = g.P.Player.lines_left l.player

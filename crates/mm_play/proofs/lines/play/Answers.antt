use Rattle.std.proofs.Common.{◌<◌, ◌∙◌, refl, ap, Ok, arith}
use Rattle.std.proofs.lemmas.Result.{err_from_is_err_and}
use Rattle.mm_play.proofs.Stopped.{stands_first, stands_on, plays_stopped, plays_ended, plays_nothing, answered_line}
use Rattle.mm_play.proofs.lines.play.Goals as goal

pub returns-in_err-reader-clause-plays : goal.returns-in_err-reader-clause-plays
returns-in_err-reader-clause-plays g c =
    let p = err_from_is_err_and c.from_residual.result c.from_residual.ensures.1 in
    rw (p.1, p.2) (plays_nothing g.P.Player.answer g.P.Player.closing c.args.player.now _ _)

pub returns-in_err-play_next-clause-plays : goal.returns-in_err-play_next-clause-plays
returns-in_err-play_next-clause-plays g c =
    let p = err_from_is_err_and c.from_residual-in_err-play_next.result c.from_residual-in_err-play_next.ensures.1 in
    rw (p.1, p.2) (plays_stopped c.lines.invariant.stands c.play_next.ensures.turns _ c.in_err-play_next.was)

pub lines-init : goal.lines-init
lines-init g c = record {
  stands =
      stands_first g.P.Player.answer c.args.player.now _ _ c.in_ok-reader.reader c.new-pending.result c.in_ok-reader.ensures
      c.new-pending.ensures;
  input = refl;
  output = refl;
  few = omega (arith, g.met.P.Player.few c.args.player.now);
}

pub lines-preserved : goal.lines-preserved
lines-preserved g c =
    let went = c.in_ok-play_next.was ∙ ap Ok c.if-branch.true in
    let s = stands_on c.lines.invariant.stands c.play_next.ensures.turns went in
    let a = answered_line c.lines.invariant.stands c.play_next.ensures.turns went in
    let fewer : g.P.Player.lines_left c.play_next.new.player < g.P.Player.lines_left c.lines.player =
    g.met.P.Player.counts_down c.lines.player c.play_next.new.player a.0 a.1 a.2 in
    record {
      stands = s;
      input = c.in_ok-play_next.ensures.read ∙ c.lines.invariant.input;
      output = c.in_ok-play_next.ensures.wrote ∙ c.lines.invariant.output;
      few = omega arith;
    }

pub returns-clause-plays : goal.returns-clause-plays
returns-clause-plays g c = plays_ended c.lines.invariant.stands c.play_next.ensures.turns (c.in_ok-play_next.was ∙ ap Ok c.if-branch.false)

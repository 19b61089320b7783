use Rattle.mm_gen.proofs.Below.{◌∙◌, refl, sym, ap, Err, sha256, running_replay}
use Rattle.std.proofs.lemmas.Result.{err_from_is_err_and}
use Rattle.mm_gen.proofs.Tallying.{ended, goes_on, next, starts, stops, within}
use Rattle.mm_gen.proofs.run.summary_of.Goals as goal

pub lines-init : goal.lines-init
lines-init c = record {
  going = starts _ (running_replay c.args.progress.now).header c.args.text.now (running_replay c.args.progress.now) _ _ c.requires.few
      c.requires.events (sym c.requires.whole) c.requires.first c.none-counts.ensures c.requires.nothing;
  header = refl;
}

pub answered-requires-clause-short : goal.answered-requires-clause-short
answered-requires-clause-short c = (next _ _ _ _ _ _ _ c.lines.invariant.going (sym c.in-Some.ensures)).short

pub answered-requires-clause-known : goal.answered-requires-clause-known
answered-requires-clause-known c = (next _ _ _ _ _ _ _ c.lines.invariant.going (sym c.in-Some.ensures)).known

pub tally-requires-clause-room : goal.tally-requires-clause-room
tally-requires-clause-room c = (next _ _ _ _ _ _ _ c.lines.invariant.going (sym c.in-Some.ensures)).room

pub lines-smaller : goal.lines-smaller
lines-smaller c = (next _ _ _ _ _ _ _ c.lines.invariant.going (sym c.in-Some.ensures)).less

pub lines-preserved : goal.lines-preserved
lines-preserved c =
    let step = next _ _ _ _ _ _ _ c.lines.invariant.going (sym c.in-Some.ensures) in
    record {
      going = goes_on _ _ _ (running_replay c.answered.new.progress) _ _ _ _ c.in-Some.line.now c.in-Some.behind.now
          c.in_ok-reply.reply step
          c.in_ok-reply.ensures.reply c.tally.ensures.counted c.in_ok-tally.ensures.put;
      header = step.header c.in_ok-reply.reply (running_replay c.answered.new.progress) c.in_ok-reply.ensures.reply
          ∙ c.lines.invariant.header;
    }

pub returns-clause-sums : goal.returns-clause-sums
returns-clause-sums c =
    ended _ _ (running_replay c.lines.progress) _ _ _ _ _ c.digest_of.result c.lines.invariant.going (sym c.in_default.ensures)
    c.lines.invariant.header c.report-report.ensures.committed c.report-report.ensures.issued
    (c.digest_of.ensures ∙ ap sha256 (c.as_slice.ensures.value ∙ c.in_ok-put_last_line.ensures))

pub returns-in_err-reply-clause-limit : goal.returns-in_err-reply-clause-limit
returns-in_err-reply-clause-limit c =
    let p = err_from_is_err_and c.from_residual.result c.from_residual.ensures.1 in
    let step = next _ _ _ _ _ _ _ c.lines.invariant.going (sym c.in-Some.ensures) in
    rw (p.1, p.2) (stops _ _ _ _ _ _ _ _ c.in_err-reply.field-0.0 step c.lines.invariant.header
    (λ much. c.in_err-reply.ensures.limit (ap Err much)))

pub returns-clause-limit : goal.returns-clause-limit
returns-clause-limit c = within _ _ _ _ _ _ c.lines.invariant.going c.lines.invariant.header (sym c.in_default.ensures)

use Rattle.mm_host.proofs.Below.{◌∙◌, ap, Ok, Err, refl, arith, err_from_is_err_and}
use Rattle.mm_host.proofs.Turning.{one_more_few, rest_ends, rest_on}
use Rattle.mm_host.proofs.serving.serve_lines.Goals as goal

pub returns-in_err-next-clause-serves : goal.returns-in_err-next-clause-serves
returns-in_err-next-clause-serves g c =
    let p = err_from_is_err_and c.from_residual.result c.from_residual.ensures.1 in
    rw (p.1, p.2) (c.lines.invariant.rests _ _
    (rest_ends c.serve_next.ensures.turns (Err _) c.lines.invariant.few c.in_err-next.was))

pub lines-init : goal.lines-init
lines-init g c = record {
  rests = λ new result r. rw c.requires.nothing at r;
  few = omega arith;
  sized = c.requires.sized;
  input = refl;
  output = refl;
}

pub lines-preserved : goal.lines-preserved
lines-preserved g c =
    let went = c.in_ok-next.was ∙ ap Ok c.in-Some.is in
    record {
      rests = λ new result r.
          c.lines.invariant.rests new result (rest_on c.serve_next.ensures.turns c.in-Some.next went r);
      few = one_more_few c.serve_next.ensures.turns c.in-Some.next went;
      sized = rw c.in-Some.is at c.in_ok-next.ensures.sized;
      input = c.in_ok-next.ensures.read ∙ c.lines.invariant.input;
      output = c.in_ok-next.ensures.wrote ∙ c.lines.invariant.output;
    }

pub returns-clause-serves : goal.returns-clause-serves
returns-clause-serves g c =
    c.lines.invariant.rests _ _
    (rest_ends c.serve_next.ensures.turns (Ok _) c.lines.invariant.few (c.in_ok-next.was ∙ ap Ok c.in_default.is))

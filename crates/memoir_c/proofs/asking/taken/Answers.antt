use Rattle.std.proofs.Common.{refl, inl, inr, arith}
use Rattle.std.proofs.lemmas.Result.{err_from_is_err_and}
use Rattle.memoir_c.proofs.asking.taken.Goals as goal

pub returns-then-steps-gt-MOST_STEPS-clause-err : goal.returns-then-steps-gt-MOST_STEPS-clause-err
returns-then-steps-gt-MOST_STEPS-clause-err c = inr (
  (c.in_ok-variant.variant, c.in_ok-variant.module),
  c.in_ok-variant.ensures,
  inl (refl, omega (arith, c.if-steps-gt-MOST_STEPS.true)),
)

pub returns-in_err-put_made-clause-err : goal.returns-in_err-put_made-clause-err
returns-in_err-put_made-clause-err c =
    let p = err_from_is_err_and c.from_residual-in_err-put_made.result c.from_residual-in_err-put_made.ensures.1 in
    rw (p.1, p.2) (inr (
      (c.in_ok-variant.variant, c.in_ok-variant.module),
      c.in_ok-variant.ensures,
      inr (c.in_err-put_made.ensures.err.0, (omega (arith, c.if-steps-gt-MOST_STEPS.false), c.in_err-put_made.ensures.err.1)),
    ))

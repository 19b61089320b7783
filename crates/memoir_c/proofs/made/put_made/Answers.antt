use Rattle.std.proofs.Common.{arith, length-set, ◌∙◌}
use Rattle.memoir_c.proofs.Batching.{none_at, step_more}
use Rattle.memoir_c.proofs.made.put_made.Goals as goal

pub returns-in-Err-clause-err : goal.returns-in-Err-clause-err
returns-in-Err-clause-err c =
    (c.in-Err.ensures.err.0, none_at c.args.steps.now c.steps.i _ c.steps-test.true c.in-Err.ensures.err.1)

pub steps-preserved : goal.steps-preserved
steps-preserved c = (
  step_more c.args.steps.now c.steps.into c.steps.i _ _ c.in-Ok.it c.steps-test.true
      (omega (arith, c.steps-test.true, c.requires, c.steps.invariant.1))
      c.steps.invariant.0 c.in-Ok.ensures.ok (omega arith),
  length-set _ _ _ ∙ c.steps.invariant.1,
)

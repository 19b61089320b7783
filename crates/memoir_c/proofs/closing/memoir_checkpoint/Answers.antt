use Rattle.memoir_c.proofs.Rooming.{closing_few_by}
use Rattle.memoir_c.proofs.closing.memoir_checkpoint.Goals as goal

pub returns-clause-few : goal.returns-clause-few
returns-clause-few c e =
    closing_few_by c.args.steps.now c.closed.result c.args.step.now c.tell.new.into c.tell.result c.closed.ensures c.tell.ensures
    (c.code.ensures.next.0 e)

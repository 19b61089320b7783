use Rattle.std.proofs.Common.{sym, ◌∙◌}
use Rattle.memoir_c.proofs.Batching.{batch_enough_by, batch_few_by}
use Rattle.memoir_c.proofs.Rooming.{only_room}
use Rattle.memoir_c.proofs.batch.memoir_ask_batch.Goals as goal

pub returns-clause-few : goal.returns-clause-few
returns-clause-few c e =
    batch_few_by c.args.instance.now c.args.steps.now c.args.offer.now c.args.requests.now c.asked-asked.result _ c.asked-asked.ensures
    c.tell.ensures.tells (c.code.ensures.next.0 e)

pub returns-clause-enough : goal.returns-clause-enough
returns-clause-enough c h e =
    batch_enough_by c.args.instance.now c.args.steps.now c.args.offer.now c.args.requests.now c.asked-asked.result _ c.asked-asked.ensures
    c.tell.ensures.tells h (only_room _ (sym c.code.ensures.number ∙ e))

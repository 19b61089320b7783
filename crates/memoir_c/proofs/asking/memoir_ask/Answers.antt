use Rattle.std.proofs.Common.{sym, ◌∙◌}
use Rattle.memoir_c.proofs.Rooming.{enough_by, only_room, few_by}
use Rattle.memoir_c.proofs.asking.memoir_ask.Goals as goal

pub returns-clause-few : goal.returns-clause-few
returns-clause-few c e =
    few_by c.args.instance.now c.args.steps.now c.args.offer.now c.args.request.now c.asked.result _ c.asked.ensures
    c.tell.ensures.tells (c.code.ensures.next.0 e)

pub returns-clause-enough : goal.returns-clause-enough
returns-clause-enough c h e =
    enough_by c.args.instance.now c.args.steps.now c.args.offer.now c.args.request.now c.asked.result _ c.asked.ensures
    c.tell.ensures.tells h (only_room _ (sym c.code.ensures.number ∙ e))

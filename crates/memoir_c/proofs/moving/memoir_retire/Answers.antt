use Rattle.std.proofs.Common.{sym, ◌∙◌}
use Rattle.memoir_c.proofs.Rooming.{retired_enough, retired_few, only_room}
use Rattle.memoir_c.proofs.moving.memoir_retire.Goals as goal

pub returns-clause-few : goal.returns-clause-few
returns-clause-few c e =
    retired_few c.args.instance.now c.args.steps.now c.args.link.now c.args.nonce.now.bytes c.args.offer.now c.retired-came.result _
    c.retired-came.ensures c.tell_moved.ensures.tells (c.code.ensures.next.0 e)

pub returns-clause-enough : goal.returns-clause-enough
returns-clause-enough c h e =
    retired_enough c.args.instance.now c.args.steps.now c.args.link.now c.args.nonce.now.bytes c.args.offer.now c.retired-came.result _
    c.retired-came.ensures c.tell_moved.ensures.tells h (only_room _ (sym c.code.ensures.number ∙ e))

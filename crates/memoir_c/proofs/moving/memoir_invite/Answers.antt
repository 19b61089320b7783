use Rattle.memoir_c.proofs.Rooming.{invited_few}
use Rattle.memoir_c.proofs.moving.memoir_invite.Goals as goal

pub returns-clause-few : goal.returns-clause-few
returns-clause-few c e =
    invited_few c.args.instance.now c.args.steps.now c.args.link.now c.args.nonce.now.bytes c.args.key.now.bytes c.invited.result
    c.args.step.now c.tell_invited.new.into c.tell_invited.result c.invited.ensures c.tell_invited.ensures (c.code.ensures.next.0 e)

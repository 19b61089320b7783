use Rattle.std.proofs.Common.{subst}
use Rattle.mm_move.specs.declared.link.Link.{Link}
use Rattle.mm_told.specs.HostLaws.{is_worn_host, worn_host}
use Rattle.mm_told_moves.specs.ToldMovePromise.{ToldMovePromise, invitation_finds}
use Rattle.memoir_c.proofs.moving.await_module.Goals as goal

pub invite-requires : goal.invite-requires
invite-requires c = is_worn_host _

pub returns : goal.returns
returns c =
    subst
    (λ (link : Link). ToldMovePromise (invitation_finds link c.args.variant c.args.id c.args.nonce.now c.args.key.now)
    (worn_host c.args.made.now) c.args.made.now c.invite.result) c.link_of-link.ensures c.invite.ensures

use Rattle.mm_move.specs.Cells.{moved_cell_of}
use Rattle.mm_move.specs.Orders.{waiting_for}
use Rattle.mm_told_moves.specs.ToldMovePromise.{invitation_finds}
use Rattle.mm_told_moves.proofs.Moving.{invites_no_fault, promised}
use Rattle.mm_told_moves.proofs.moves.invite.Goals as goal

pub returns : goal.returns
returns g c =
    promised (invitation_finds c.args.link.now c.args.variant c.args.module c.args.nonce.now c.args.key.now)
    (λ bytes. invites_no_fault (waiting_for c.args.link.now c.args.variant c.args.module c.args.nonce.now c.args.key.now)
    (moved_cell_of bytes)) g.host c.args.made.now c.follow.result c.requires c.follow.ensures

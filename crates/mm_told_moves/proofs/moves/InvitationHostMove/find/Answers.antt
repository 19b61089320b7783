use Rattle.std.proofs.Common.{subst}
use Rattle.mm_platform.specs.Standing.{Standing}
use Rattle.mm_move.specs.Cells.{AreMoveSteps}
use Rattle.mm_told_moves.specs.ToldMovePromise.{invitation_finds}
use Rattle.mm_told_moves.proofs.Reading.{found_in}
use Rattle.mm_told_moves.proofs.moves.InvitationHostMove.find.Goals as goal

pub returns : goal.returns
returns c =
    let it = c.args.self.now in
    let finds = invitation_finds it.link.now it.variant it.module it.nonce.now it.key.now in
    rw c.found.ensures
    (found_in finds c.args.bytes.now c.invite-came.new.platform c.invite-came.result
    (subst (λ (old : Standing). AreMoveSteps finds old c.invite-came.new.platform c.invite-came.result) c.new-platform.ensures
    c.invite-came.ensures.moved.moves))

use Rattle.std.proofs.Common.{subst}
use Rattle.mm_platform.specs.Standing.{Standing}
use Rattle.mm_move.specs.Cells.{AreMoveSteps}
use Rattle.mm_told_moves.specs.ToldMovePromise.{retirement_finds}
use Rattle.mm_told_moves.proofs.Reading.{found_in}
use Rattle.mm_told_moves.proofs.moves.RetirementHostMove.find.Goals as goal

pub returns : goal.returns
returns g c =
    let it = c.args.self.now in
    let finds = retirement_finds (g.M.Module.meaning it.module.now) it.variant it.link.now it.nonce.now it.offer.now in
    rw c.found.ensures
    (found_in finds c.args.bytes.now c.retire-came.new.platform c.retire-came.result
    (subst (λ (old : Standing). AreMoveSteps finds old c.retire-came.new.platform c.retire-came.result) c.new-platform.ensures
    c.retire-came.ensures.moves))

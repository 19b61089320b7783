use Rattle.std.proofs.Common.{subst}
use Rattle.mm_platform.specs.Standing.{Standing}
use Rattle.mm_move.specs.Cells.{AreMoveSteps}
use Rattle.mm_told_moves.specs.ToldMovePromise.{acceptance_finds}
use Rattle.mm_told_moves.proofs.Reading.{found_in}
use Rattle.mm_told_moves.proofs.moves.AcceptanceHostMove.find.Goals as goal

pub returns : goal.returns
returns g c =
    let it = c.args.self.now in
    let finds = acceptance_finds (g.M.Module.meaning it.module.now) it.variant it.link.now it.ticket.now in
    rw c.found.ensures
    (found_in finds c.args.bytes.now c.accept-came.new.platform c.accept-came.result
    (subst (λ (old : Standing). AreMoveSteps finds old c.accept-came.new.platform c.accept-came.result) c.new-platform.ensures
    c.accept-came.ensures.moves))

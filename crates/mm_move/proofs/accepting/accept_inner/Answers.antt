use Rattle.mm_move.proofs.Below.{List, ℕ, Result, subst, CellFault, MovedCell, moved_cell_of, acceptance_in, IsOrNoMemory}
use Rattle.mm_move.proofs.Moving.{read_done}
use Rattle.mm_move.proofs.accepting.accept_inner.Goals as goal

pub returns-in-Ok : goal.returns-in-Ok
returns-in-Ok g c =
    read_done (λ (bytes : List ℕ). acceptance_in (g.M.Module.meaning c.args.module.now) c.args.variant c.args.link.now c.args.ticket.now
    (moved_cell_of bytes)) (g.P.Device.standing c.args.platform.now) (g.P.Device.standing c.read.new.platform)
    (g.P.Device.standing c.go_on.new.platform) c.in-Ok.bytes c.arrive.result c.go_on.result c.in-Ok.ensures
    (subst (λ (cell : Result MovedCell CellFault). IsOrNoMemory (acceptance_in (g.M.Module.meaning c.args.module.now) c.args.variant
    c.args.link.now c.args.ticket.now cell) c.arrive.result) c.read_moved-cell.ensures.cell c.arrive.ensures) c.go_on.ensures

use Rattle.mm_move.proofs.Above.{accepts_no_fault}
use Rattle.mm_move.specs.Cells.{moved_cell_of}
use Rattle.mm_told_moves.specs.ToldMovePromise.{acceptance_finds}
use Rattle.mm_told_moves.proofs.Moving.{promised}
use Rattle.mm_told_moves.proofs.Sizing.{snapshot_within}
use Rattle.mm_told_moves.proofs.moves.accept.Goals as goal

pub returns-clause-accepts : goal.returns-clause-accepts
returns-clause-accepts g c =
    let meaning = g.M.Module.meaning c.args.module.now in
    promised (acceptance_finds meaning c.args.variant c.args.link.now c.args.ticket.now)
    (λ bytes. accepts_no_fault meaning c.args.variant c.args.link.now c.args.ticket.now (moved_cell_of bytes))
    g.host c.args.made.now c.follow.result c.requires.1 c.follow.ensures

pub returns-clause-room : goal.returns-clause-room
returns-clause-room g c =
    snapshot_within (g.M.Module.meaning c.args.module.now) c.args.variant c.args.link.now c.args.ticket.now c.args.made.now
    c.follow.result c.follow.ensures

use Rattle.std.proofs.Common.{rules}
use Rattle.mm_move.proofs.Above.{retires_no_fault}
use Rattle.mm_move.specs.Cells.{moved_cell_of}
use Rattle.mm_told_moves.specs.ToldMovePromise.{retirement_finds}
use Rattle.mm_told_moves.proofs.Moving.{promised}
use Rattle.mm_told_moves.proofs.Sizing.{ticket_within}
use Rattle.mm_told_moves.proofs.moves.retire.Goals as goal

pub returns-clause-retires : goal.returns-clause-retires
returns-clause-retires g c =
    let meaning = g.M.Module.meaning c.args.module.now in
    promised (retirement_finds meaning c.args.variant c.args.link.now c.args.nonce.now c.args.offer.now)
    (λ bytes. retires_no_fault meaning c.args.variant c.args.link.now c.args.nonce.now c.args.offer.now (moved_cell_of bytes))
    g.host c.args.made.now c.follow.result c.requires.1 c.follow.ensures

pub returns-clause-room : goal.returns-clause-room
returns-clause-room g c =
    ticket_within (g.M.Module.meaning c.args.module.now) c.args.variant c.args.link.now c.args.nonce.now c.args.offer.now c.args.made.now
    c.follow.result (search rules) c.follow.ensures

use Rattle.mm_move.proofs.Above.{accepts_no_fault, retires_no_fault}
use Rattle.mm_move.specs.Cells.{moved_cell_of}
use Rattle.mm_move.specs.Orders.{waiting_for}
use Rattle.mm_told_moves.specs.ToldMovePromise.{acceptance_finds, invitation_finds, retirement_finds}
use Rattle.mm_told_moves.proofs.Moving.{on_host, invites_no_fault}
use Rattle.mm_told_moves.proofs.laws.told_moves_are_moves.Goals as goal

pub returns-clause-invitations : goal.returns-clause-invitations
returns-clause-invitations c link variant id nonce key host steps came h told =
    on_host (invitation_finds link variant id nonce key)
    (λ bytes. invites_no_fault (waiting_for link variant id nonce key) (moved_cell_of bytes)) host steps came h told

pub returns-clause-retirements : goal.returns-clause-retirements
returns-clause-retirements c meaning variant link nonce offer host steps came h told =
    on_host (retirement_finds meaning variant link nonce offer)
    (λ bytes. retires_no_fault meaning variant link nonce offer (moved_cell_of bytes)) host steps came h told

pub returns-clause-acceptances : goal.returns-clause-acceptances
returns-clause-acceptances c meaning variant link ticket host steps came h told =
    on_host (acceptance_finds meaning variant link ticket)
    (λ bytes. accepts_no_fault meaning variant link ticket (moved_cell_of bytes)) host steps came h told

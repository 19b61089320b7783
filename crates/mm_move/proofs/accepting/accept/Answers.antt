use Rattle.mm_move.proofs.Below.{List, ℕ, moved_cell_of, acceptance_in}
use Rattle.mm_move.proofs.Moving.{moved_as, accepts_no_fault}
use Rattle.mm_move.proofs.accepting.accept.Goals as goal

pub returns : goal.returns
returns g c =
    moved_as (λ (bytes : List ℕ). acceptance_in (g.M.Module.meaning c.args.module.now) c.args.variant c.args.link.now c.args.ticket.now
    (moved_cell_of bytes)) (λ (bytes : List ℕ). accepts_no_fault (g.M.Module.meaning c.args.module.now) c.args.variant c.args.link.now
    c.args.ticket.now (moved_cell_of bytes)) (g.P.Device.standing c.args.platform.now) (g.P.Device.standing c.accept_inner.new.platform)
    c.accept_inner.result c.accept_inner.ensures

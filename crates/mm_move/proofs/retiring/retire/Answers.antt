use Rattle.mm_move.proofs.Below.{List, ℕ, moved_cell_of, retirement_in}
use Rattle.mm_move.proofs.Moving.{moved_as, retires_no_fault}
use Rattle.mm_move.proofs.retiring.retire.Goals as goal

pub returns : goal.returns
returns g c =
    moved_as (λ (bytes : List ℕ). retirement_in (g.M.Module.meaning c.args.module.now) c.args.variant c.args.link.now c.args.nonce.now
    c.args.offer.now (moved_cell_of bytes)) (λ (bytes : List ℕ). retires_no_fault (g.M.Module.meaning c.args.module.now) c.args.variant
    c.args.link.now c.args.nonce.now c.args.offer.now (moved_cell_of bytes)) (g.P.Device.standing c.args.platform.now)
    (g.P.Device.standing c.retire_inner.new.platform) c.retire_inner.result c.retire_inner.ensures

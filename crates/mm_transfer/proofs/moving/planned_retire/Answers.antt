use Rattle.mm_transfer.proofs.Below.{List, ℕ, meaning_of, moved_cell_of, retirement_in, retires_no_fault}
use Rattle.mm_transfer.proofs.Planning.{moves_planned}
use Rattle.mm_transfer.proofs.moving.planned_retire.Goals as goal

pub returns-in-Ok : goal.returns-in-Ok
returns-in-Ok c =
    let meaning = meaning_of c.args.mover.now.header.module in
    moves_planned (λ (bytes : List ℕ). retirement_in meaning c.args.mover.now.header.variant c.args.link.now
    c.args.nonce.now.bytes c.args.offer.now
    (moved_cell_of bytes))
    c.args.course.now.stop
    c.args.course.now.meddles.now c.args.platform.now c.plan.new.self c.retire-came.new.platform c.settle.new.platform c.is_broken.result
    c.retire-came.result
    (λ bytes. retires_no_fault meaning c.args.mover.now.header.variant c.args.link.now c.args.nonce.now.bytes c.args.offer.now
    (moved_cell_of bytes))
    c.in-Ok.ensures.ok
    c.retire-came.ensures c.is_broken.ensures c.settle.ensures

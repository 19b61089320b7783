use Rattle.mm_transfer.proofs.Below.{List, ℕ, meaning_of, moved_cell_of, acceptance_in, accepts_no_fault}
use Rattle.mm_transfer.proofs.Planning.{moves_planned}
use Rattle.mm_transfer.proofs.moving.planned_accept.Goals as goal

pub returns-in-Ok : goal.returns-in-Ok
returns-in-Ok c =
    let meaning = meaning_of c.args.mover.now.header.module in
    moves_planned (λ (bytes : List ℕ). acceptance_in meaning c.args.mover.now.header.variant c.args.link.now c.args.ticket.now
    (moved_cell_of bytes))
    c.args.course.now.stop
    c.args.course.now.meddles.now
    c.args.platform.now c.plan.new.self c.accept-came.new.platform c.settle.new.platform c.is_broken.result c.accept-came.result
    (λ bytes. accepts_no_fault meaning c.args.mover.now.header.variant c.args.link.now c.args.ticket.now (moved_cell_of bytes))
    c.in-Ok.ensures.ok
    c.accept-came.ensures c.is_broken.ensures c.settle.ensures

use Rattle.mm_transfer.proofs.Below.{◌∙◌, List, ℕ, subst, sym, moved_cell_of, waiting_for, invitation_in, MovesByPlan}
use Rattle.mm_transfer.proofs.Planning.{moves_planned, invites_no_fault}
use Rattle.mm_transfer.proofs.moving.planned_invite.Goals as goal

pub returns-in-Ok : goal.returns-in-Ok
returns-in-Ok c = λ id is.
    let next = λ (id : ℕ). waiting_for c.args.link.now c.args.header.now.variant id c.args.nonce.now.bytes c.args.key.now in
    subst (λ (id : ℕ). MovesByPlan (λ (bytes : List ℕ). invitation_in (next id) (moved_cell_of bytes)) c.args.course.now.stop
    c.args.course.now.meddles.now c.args.platform.now c.settle.new.platform c.invite-came.result) (c.id.ensures ∙ sym is)
    (moves_planned (λ (bytes : List ℕ). invitation_in (next c.id.result) (moved_cell_of bytes)) c.args.course.now.stop
    c.args.course.now.meddles.now c.args.platform.now c.plan.new.self
    c.invite-came.new.platform c.settle.new.platform c.is_broken.result c.invite-came.result
    (λ bytes. invites_no_fault (next c.id.result) (moved_cell_of bytes)) c.in-Ok.ensures.ok c.invite-came.ensures.moved c.is_broken.ensures
    c.settle.ensures)

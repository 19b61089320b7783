use Rattle.mm_transfer.proofs.Below.{List, ℕ, refl, ap, subst, Header, meaning_of, moved_cell_of, waiting_for, invitation_in, MovesByPlan}
use Rattle.mm_transfer.proofs.Below.{which_of, pair_of}
use Rattle.mm_world.specs.declared.seat.Seat.{Seat}
use Rattle.mm_transfer.proofs.Retiring.{invited_done, invites_planned}
use Rattle.mm_transfer.proofs.commands.invite.Goals as goal

pub returns-clause-made : goal.returns-clause-made
returns-clause-made c = λ between fits counted.
    let header = c.args.here.now.seat.header in
    let pair = pair_of header in
    let which = which_of c.args.which in
    let mid = c.keep_digest.new.here in
    let planned = subst (λ (h : Header). MovesByPlan (λ (bytes : List ℕ). invitation_in
    (waiting_for c.link.result h.variant (meaning_of h.module).id c.args.nonce.now.bytes c.key_on.result) (moved_cell_of bytes))
    c.args.course.now.stop c.args.course.now.meddles.now mid.seat.platform c.planned_invite-came.new.platform
    c.planned_invite-came.result) (ap (λ (s : Seat). s.header) c.keep_digest.ensures.seat) (c.planned_invite-came.ensures _ refl) in
    invited_done pair which c.args.nonce.now.bytes c.args.course.now.stop c.args.course.now.meddles.now c.args.here.now mid _ between
    c.planned_invite-came.result c.invited.result c.told-nonce c.keep_digest.ensures
    (invites_planned pair which c.args.nonce.now.bytes c.args.course.now.stop c.args.course.now.meddles.now c.link.result pair.meaning.id
    c.key_on.result mid.seat.platform c.planned_invite-came.new.platform c.planned_invite-came.result (c.link.ensures header) refl
    (c.key_on.ensures header) planned)
    (record { digest = refl; issued = refl; committed = refl }) c.invited.ensures fits counted

use Rattle.mm_transfer.proofs.Below.{◌∙◌, List, ℕ, Some, ap, refl, moved_cell_of, acceptance_in, link_of, pair_of}
use Rattle.mm_transfer.proofs.Commanded.{nothing_named, named_by}
use Rattle.mm_transfer.proofs.Retiring.{still_lacks}
use Rattle.mm_transfer.proofs.AcceptMatching.{accepted_done, accepted_unissued}
use Rattle.mm_transfer.proofs.commands.accept.Goals as goal

pub returns-in-Err-clause-made : goal.returns-in-Err-clause-made
returns-in-Err-clause-made c = λ which fits counted.
    still_lacks (pair_of c.args.here.now.seat.header) which c.args.course.now.stop c.args.course.now.meddles.now c.args.here.now _
    c.args.between.now _ fits refl
    (record { digest = refl; issued = c.reserve.ensures.items; committed = refl })
    (record { tickets = refl; kept = refl; away = refl })

pub returns-in-Ok-None-clause-made : goal.returns-in-Ok-None-clause-made
returns-in-Ok-None-clause-made c = λ which fits counted.
    let pair = pair_of c.args.here.now.seat.header in
    let none = nothing_named c.args.between.now.tickets.items c.as_slice.result.now c.args.offer.now c.as_slice.ensures.value
    (rw c.in-Ok-None.field-0-is at c.in-Ok-None.ensures) in
    accepted_unissued pair which c.args.offer.now c.args.course.now.stop c.args.course.now.meddles.now c.args.here.now _
    c.args.between.now (none, refl)
    (record { digest = refl; issued = c.reserve.ensures.items; committed = refl }) fits counted

pub returns-in-Ok-Some-clause-made : goal.returns-in-Ok-Some-clause-made
returns-in-Ok-Some-clause-made c = λ which fits counted.
    let pair = pair_of c.args.here.now.seat.header in
    let found = rw c.in-Ok-Some.field-0-is at c.in-Ok-Some.ensures in
    let named = named_by c.args.between.now.tickets.items c.as_slice.result.now c.args.offer.now c.as_slice.ensures.value
    (λ link bytes (cell : List ℕ). acceptance_in pair.meaning pair.variant link bytes (moved_cell_of cell)) c.args.course.now.stop
    c.args.course.now.meddles.now c.args.here.now.seat.platform _ c.planned_accept-came.result c.link.result (link_of pair)
    c.bytes-bytes.result.now (c.link.ensures c.args.here.now.seat.header) (ap Some c.bytes-bytes.ensures ∙ found)
    c.planned_accept-came.ensures in
    accepted_done pair which c.args.offer.now c.args.course.now.stop c.args.course.now.meddles.now c.args.here.now _ c.enter.new.here
    c.args.between.now c.is_live-was_live.result c.cell.result.now c.planned_accept-came.result c.enter.result named
    c.is_live-was_live.ensures c.cell.ensures (record { digest = refl; issued = c.reserve.ensures.items; committed = refl })
    c.enter.ensures.entered fits counted

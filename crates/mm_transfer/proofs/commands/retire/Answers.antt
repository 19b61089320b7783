use Rattle.mm_transfer.proofs.Below.{◌∙◌, List, ℕ, Some, ap, refl, moved_cell_of, retirement_in, link_of, pair_of}
use Rattle.mm_transfer.proofs.Commanded.{nothing_named, named_by}
use Rattle.mm_transfer.proofs.Retiring.{still_lacks, retired_unissued, retired_done}
use Rattle.mm_transfer.proofs.commands.retire.Goals as goal
use Rattle.mm_transfer.proofs.commands.retire.Goals.{in-Made-1, in-Lent-1}

pub returns-in-Err-clause-made : goal.returns-in-Err-clause-made
returns-in-Err-clause-made c = λ which fits counted.
    still_lacks (pair_of c.args.here.now.seat.header) which c.args.course.now.stop c.args.course.now.meddles.now c.args.here.now _
    c.args.between.now _ fits refl
    (record { digest = refl; issued = refl; committed = refl })
    (record { tickets = c.reserve.ensures.items; kept = refl; away = refl })

pub returns-in-Ok-None-clause-made : goal.returns-in-Ok-None-clause-made
returns-in-Ok-None-clause-made c = λ which fits counted.
    let pair = pair_of c.args.here.now.seat.header in
    let none = nothing_named c.args.here.now.seat.issued.items c.as_slice.result.now c.args.offer.now c.as_slice.ensures.value
    (rw c.in-Ok-None.field-0-is at c.in-Ok-None.ensures) in
    retired_unissued pair which c.args.nonce.now.bytes c.args.offer.now c.args.course.now.stop c.args.course.now.meddles.now
    c.args.here.now _ c.args.between.now _ (none, refl) (record { digest = refl; issued = refl; committed = refl })
    (record { tickets = c.reserve.ensures.items; kept = refl; away = refl }) fits counted

pub returns-in-Ok-Some-clause-made : goal.returns-in-Ok-Some-clause-made
returns-in-Ok-Some-clause-made c = λ which fits counted.
    let pair = pair_of c.args.here.now.seat.header in
    let found = rw c.in-Ok-Some.field-0-is at c.in-Ok-Some.ensures in
    let named = named_by c.args.here.now.seat.issued.items c.as_slice.result.now c.args.offer.now c.as_slice.ensures.value
    (λ link bytes (cell : List ℕ). retirement_in pair.meaning pair.variant link c.args.nonce.now.bytes bytes (moved_cell_of cell))
    c.args.course.now.stop c.args.course.now.meddles.now c.args.here.now.seat.platform _ c.planned_retire-came.result c.link.result
    (link_of pair) c.bytes-bytes.result.now (c.link.ensures c.args.here.now.seat.header) (ap Some c.bytes-bytes.ensures ∙ found)
    c.planned_retire-came.ensures in
    let left = retired_done pair which c.args.nonce.now.bytes c.args.offer.now c.args.course.now.stop c.args.course.now.meddles.now
    c.args.here.now in
    elim c.match-offered-2.branch [
      | in-Made-1 w ↦ rw w.here-is (left _ c.args.between.now _ c.leave.new.self c.is_live-was_live.result c.cell.result.now
          c.planned_retire-came.result c.leave.result c.told-nonce named c.is_live-was_live.ensures c.cell.ensures
          (record { digest = refl; issued = refl; committed = refl })
          (record { tickets = c.reserve.ensures.items; kept = refl; away = refl }) c.leave.ensures fits counted)
      | in-Lent-1 w ↦ rw w.here-is (left _ c.args.between.now _ c.leave.new.self c.is_live-was_live.result c.cell.result.now
          c.planned_retire-came.result c.leave.result c.told-nonce named c.is_live-was_live.ensures c.cell.ensures
          (record { digest = refl; issued = refl; committed = refl })
          (record { tickets = c.reserve.ensures.items; kept = refl; away = refl }) c.leave.ensures fits counted)
    ]

use Rattle.std.proofs.Common.{◌≡◌, ◌∙◌, refl, rules}
use Rattle.mm_slots.proofs.Below.{losses_of_others, rows_after_meetings}
use Rattle.mm_slots.proofs.Rowing.{loses_none, loses_one, meetings_of_one, met_all, met_first, met_more}
use Rattle.mm_slots.proofs.rows.lose_others.Goals as goal
use Rattle.mm_slots.proofs.rows.lose_others.Goals.{then-ne, else-ne}

pub loop-place-init : goal.loop-place-init
loop-place-init c = (refl, met_first (losses_of_others c.args.but) c.args.slots.now)

pub loop-place-preserved : goal.loop-place-preserved
loop-place-preserved c =
    let mets = losses_of_others c.args.but in
    let met : c.if-ne.slots ≡ rows_after_meetings (meetings_of_one mets c.at-number.result) c.loop-place.slots = elim c.if-ne.branch [
      | then-ne w ↦ w.slots-is
          ∙ loses_one c.at-number.result c.args.but c.loop-place.slots w.lose_at.new.slots (search rules) w.lose_at.ensures
      | else-ne w ↦ w.slots-is ∙ loses_none c.at-number.result c.args.but c.loop-place.slots (search rules)
    ] in (
      c.if-ne.auto.slots ∙ c.loop-place.invariant.0,
      met_more mets c.loop-place.place c.at-number.result c.args.slots.now c.loop-place.slots c.if-ne.slots c.at-number.ensures
          c.loop-place.invariant.1 met,
    )

pub returns : goal.returns
returns c =
    met_all (losses_of_others c.args.but) c.args.slots.now c.loop-place.slots c.loop-place.place (search rules) c.loop-place.invariant.1

use Rattle.mm_slots.proofs.Below.{◌∙◌, refl, ap, rules, first_rows}
use Rattle.std.proofs.lemmas.List.{take_all}
use Rattle.mm_slots.proofs.Fitting.{one_more}
use Rattle.mm_slots.proofs.first.first_slots.Goals as goal

pub loop-place-preserved : goal.loop-place-preserved
loop-place-preserved c =
    one_more c.args.headers.now c.loop-place.place _ _ _ c.loop-place.slots.items c.add_slot.new.slots.items (search rules) c.at.ensures
    refl c.loop-place.invariant c.in_ok-add_slot.ensures

pub returns : goal.returns
returns c = c.loop-place.invariant ∙ ap first_rows (take_all c.loop-place.place c.args.headers.now (search rules))

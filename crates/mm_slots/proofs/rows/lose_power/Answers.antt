use Rattle.std.proofs.Common.{◌∙◌, refl, rules}
use Rattle.mm_slots.proofs.Below.{[], ◌∷◌, Loses}
use Rattle.mm_slots.proofs.Rowing.{met_first, met_more, met_all}
use Rattle.mm_slots.proofs.rows.lose_power.Goals as goal

pub loop-place-init : goal.loop-place-init
loop-place-init c = (refl, met_first (λ _. Loses ∷ []) c.args.slots.now)

pub loop-place-preserved : goal.loop-place-preserved
loop-place-preserved c = (
  c.lose_at.auto.slots ∙ c.loop-place.invariant.0,
  met_more (λ _. Loses ∷ []) c.loop-place.place c.at.result c.args.slots.now c.loop-place.slots c.lose_at.new.slots c.at.ensures
      c.loop-place.invariant.1 c.lose_at.ensures,
)

pub returns : goal.returns
returns c = met_all (λ _. Loses ∷ []) c.args.slots.now c.loop-place.slots c.loop-place.place (search rules) c.loop-place.invariant.1

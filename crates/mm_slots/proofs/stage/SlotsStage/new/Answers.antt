use Rattle.mm_slots.proofs.Below.{List, Row, KeepsAll, subst, sym}
use Rattle.mm_slots.proofs.Growing.{keeps_first}
use Rattle.mm_slots.proofs.stage.SlotsStage.new.Goals as goal

pub invariant_of-result : goal.invariant_of-result
invariant_of-result c =
    subst (λ (rows : List Row). KeepsAll rows 0) (sym c.in_ok-slots.ensures) (keeps_first c.args.headers.now c.requires.some c.requires.few)

use Rattle.mm_slots.proofs.Growing.{all_most, are_counted}
use Rattle.mm_slots.proofs.stage.SlotsStage.put_last_lines.Goals as goal

pub put_ends-requires-clause-counted : goal.put_ends-requires-clause-counted
put_ends-requires-clause-counted c =
    let p = c.self.inside in
    rw c.as_slice.ensures.value (are_counted p.slots.items (all_most p.slots.items p.events c.self.invariant))

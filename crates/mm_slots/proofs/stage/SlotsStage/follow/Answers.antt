use Rattle.std.specs.Prelude.{vec_len}
use Rattle.mm_slots.proofs.Below.{◌<◌, ◌∙◌, ◌+◌, List, length, most_events, sym, ap, subst, Row, SlotsState, IsInside, KeepsAll}
use Rattle.mm_slots.proofs.Growing.{can_count, keeps_following, put_back}
use Rattle.mm_slots.proofs.stage.SlotsStage.follow.Goals as goal

pub follow-requires-clause-inside : goal.follow-requires-clause-inside
follow-requires-clause-inside c =
    rw c.as_mut_slice.ensures.value (subst (λ (r : SlotsState). IsInside (length r.rows) c.args.event) (sym c.self.view_is)
    c.requires.inside)

pub follow-requires-clause-few : goal.follow-requires-clause-few
follow-requires-clause-few c =
    let p = c.self.inside in
    rw c.as_mut_slice.ensures.value (can_count p.slots.items p.events c.self.invariant)

pub invariant_of-self : goal.invariant_of-self
invariant_of-self c =
    let p = c.self.inside in
    let size = c.follow.auto.slots ∙ ap (λ (x : List Row). length x) c.as_mut_slice.ensures.value in
    let back = put_back (vec_len p.slots) c.follow.new.slots p.slots.items size (sym (c.follow.auto.slots ∙ c.as_mut_slice.ensures.len)) in
    subst (λ (x : List Row). KeepsAll x (p.events + 1)) (sym back)
    (keeps_following c.follow.result p.slots.items c.follow.new.slots p.events c.args.event c.self.invariant
    (subst (λ (r : SlotsState). r.events < most_events) (sym c.self.view_is) c.requires.few)
    (rw c.as_mut_slice.ensures.value at c.follow.ensures.stands) (rw c.as_mut_slice.ensures.value at c.follow.ensures.wants))

use Rattle.std.proofs.Common.{◌≡◌, ℕ, subst, arith}
use Rattle.mm_slots.proofs.Below.{slice_set, Loses, meetings_at, rows_after_meetings}
use Rattle.mm_slots.proofs.Rowing.{set_row}
use Rattle.mm_slots.proofs.rows.lose_at.Goals as goal

pub returns : goal.returns
returns c =
    let after = slice_set c.args.slots.now c.place.result c.lose_power.new.self in
    subst (λ (n : ℕ). after ≡ rows_after_meetings (meetings_at n Loses) c.args.slots.now) c.place.ensures
    (set_row c.place.result Loses c.args.slots.now c.lose_power.new.self c.index-slots-place.result (omega arith) c.lose_power.ensures)

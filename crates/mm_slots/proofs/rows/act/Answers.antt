use Rattle.std.proofs.Common.{◌≡◌, ℕ, subst, arith}
use Rattle.mm_slots.proofs.Below.{is_cut_for_all}
use Rattle.mm_slots.proofs.Rowing.{tells, cuts_at}
use Rattle.mm_slots.proofs.rows.act.Goals as goal

pub returns-in-Ok-clause-ok : goal.returns-in-Ok-clause-ok
returns-in-Ok-clause-ok c =
    let cuts = c.is_cut-is_cut.result in
    tells c.args.number c.args.action cuts c.args.slots.now c.act_at.new.slots c.lose_if.new.slots c.in-Ok.said
    (subst (λ (n : ℕ). cuts ≡ is_cut_for_all c.args.slots.now n c.args.action) c.place.ensures
    (cuts_at c.place.result c.args.action c.args.slots.now c.index-slots-place.result cuts (omega arith) c.is_cut-is_cut.ensures))
    c.in-Ok.ensures.ok c.lose_if.ensures

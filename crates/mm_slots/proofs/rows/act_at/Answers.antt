use Rattle.std.proofs.Common.{ℕ, subst, arith}
use Rattle.mm_slots.proofs.Below.{get_or, slice_set, IfOk, OnErr, RowActs, RowLacksMemory, SlotActsAt, OneRowLacksMemory, CanCount}
use Rattle.mm_slots.proofs.Rowing.{acts_at, lacks_at, on_ok, on_err}
use Rattle.std.proofs.lemmas.List.Elements.{All-get_or}
use Rattle.mm_slots.proofs.rows.act_at.Goals as goal

pub act-requires : goal.act-requires
act-requires c =
    All-get_or CanCount c.args.slots.now c.place.result c.index-slots-place.result (omega arith) c.requires.few

pub returns-clause-ok : goal.returns-clause-ok
returns-clause-ok c =
    let slot = get_or c.args.slots.now c.place.result c.index-slots-place.result in
    let after = slice_set c.args.slots.now c.place.result c.act.new.self in
    subst (λ (n : ℕ). IfOk c.act.result (λ said. SlotActsAt n c.args.action c.args.slots.now after said)) c.place.ensures
    (on_ok c.act.result (λ said. RowActs c.args.action slot c.act.new.self said)
    (λ said. SlotActsAt c.place.result c.args.action c.args.slots.now after said)
    (λ said a. acts_at c.place.result c.args.action c.args.slots.now c.act.new.self c.index-slots-place.result said (omega arith) a)
    c.act.ensures.ok)

pub returns-clause-err : goal.returns-clause-err
returns-clause-err c =
    let slot = get_or c.args.slots.now c.place.result c.index-slots-place.result in
    let after = slice_set c.args.slots.now c.place.result c.act.new.self in
    subst (λ (n : ℕ). OnErr c.act.result (OneRowLacksMemory n c.args.action c.args.slots.now after)) c.place.ensures
    (on_err c.act.result (RowLacksMemory c.args.action slot c.act.new.self)
    (OneRowLacksMemory c.place.result c.args.action c.args.slots.now after)
    (λ l. lacks_at c.place.result c.args.action c.args.slots.now c.act.new.self c.index-slots-place.result (omega arith) l)
    c.act.ensures.err)

use Rattle.mm_history.proofs.Below.{◌∙◌, ap, list_any, meaning_of, content_of, is_long}
use Rattle.mm_history.proofs.PlaceLaws.{not_counted, other_place, stated_by}
use Rattle.mm_history.proofs.TakenLaws.{short_front}
use Rattle.mm_history.proofs.naming.is_named_anew.Goals as goal

pub returns-in-None : goal.returns-in-None
returns-in-None c = λ key. not_counted c.args.variant (meaning_of c.args.module.now) key c.args.barrier.now c.args.lists.now
    (content_of c.args.body.now) c.batches-batches.result.now c.batches-batches.ensures c.first_with.result c.first_with.ensures.front
    c.in-None.is

pub state_after-requires : goal.state_after-requires
state_after-requires c =
    short_front c.in-Some.count c.batches-batches.result.now (ap (list_any is_long) c.batches-batches.ensures ∙ c.requires.short)

pub returns-then-not-is_place : goal.returns-then-not-is_place
returns-then-not-is_place c = λ key. other_place c.args.variant (meaning_of c.args.module.now) key c.args.barrier.now c.args.lists.now
    (content_of c.args.body.now) c.batches-batches.result.now c.batches-batches.ensures c.first_with.result c.first_with.ensures.front
    c.in-Some.is c.id-id.ensures c.is_place.ensures c.if-not-is_place.true

pub returns : goal.returns
returns c = λ key. stated_by c.args.variant (meaning_of c.args.module.now) key c.args.barrier.now c.args.lists.now
    (content_of c.args.body.now) c.batches-batches.result.now c.batches-batches.ensures c.first_with.result c.first_with.ensures.front
    c.in-Some.is c.id-id.ensures c.is_place.ensures c.if-not-is_place.false (c.as_slice-2.ensures.value
    ∙ c.in_ok-state.ensures) c.same_bytes.ensures

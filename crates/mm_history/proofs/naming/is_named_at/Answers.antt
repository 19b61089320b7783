use Rattle.mm_history.proofs.Below.{◌∙◌, ap, refl, list_any, meaning_of, content_of, is_long}
use Rattle.std.proofs.lemmas.Result.{IfOk-weaker}
use Rattle.mm_history.proofs.PlaceLaws.{other_place, stated_by}
use Rattle.mm_history.proofs.TakenLaws.{short_front}
use Rattle.mm_history.proofs.KnownLaws.{front_counts, front_digest, front_state}
use Rattle.mm_history.proofs.naming.is_named_at.Goals as goal

pub is_place-requires-clause-digest : goal.is_place-requires-clause-digest
is_place-requires-clause-digest c = front_digest c.batches-batches.result.now c.batches-batches.ensures c.requires.mark c.id.ensures

pub is_state-requires-clause-short : goal.is_state-requires-clause-short
is_state-requires-clause-short c = short_front c.args.mark.now.count c.batches-batches.result.now
    (ap (list_any is_long) c.batches-batches.ensures ∙ c.requires.short)

pub is_state-requires-clause-kept : goal.is_state-requires-clause-kept
is_state-requires-clause-kept c = front_state c.batches-batches.result.now c.batches-batches.ensures c.requires.mark

pub returns-then-not-is_place : goal.returns-then-not-is_place
returns-then-not-is_place c = λ key. other_place c.args.variant (meaning_of c.args.module.now) key c.args.barrier.now c.args.lists.now
    (content_of c.args.body.now) c.batches-batches.result.now c.batches-batches.ensures _
    (front_counts c.batches-batches.result.now c.batches-batches.ensures c.requires.mark c.requires.position) refl c.id.ensures
    c.is_place.ensures c.if-not-is_place.true

pub returns : goal.returns
returns c = IfOk-weaker c.is_state.result _ _
    (λ yes same key. stated_by c.args.variant (meaning_of c.args.module.now) key c.args.barrier.now c.args.lists.now
    (content_of c.args.body.now) c.batches-batches.result.now c.batches-batches.ensures _
    (front_counts c.batches-batches.result.now c.batches-batches.ensures c.requires.mark c.requires.position) refl c.id.ensures
    c.is_place.ensures c.if-not-is_place.false refl same) c.is_state.ensures

use Rattle.mm_history.proofs.Below.{◌∙◌, ap, anchored_digest_of, register_of, values_of, kept_entries, anchor_at}
use Rattle.mm_model.specs.ListLaws.{anchor-nil}
use Rattle.mm_history.proofs.TakenLaws.{more_taken, anchor_more}
use Rattle.mm_history.proofs.naming.anchor_at.Goals as goal

pub closed-init : goal.closed-init
closed-init c = c.start-anchor.ensures ∙ anchor-nil c.args.id

pub closed-preserved : goal.closed-preserved
closed-preserved c =
    let barrier = c.args.barrier.now in
    more_taken (λ v. kept_entries v.items) (anchor_at c.args.id barrier) (λ a es. anchored_digest_of a (register_of (values_of barrier es)))
    (anchor_more c.args.id barrier) c.args.closed.now c.closed.segment-index c.segment-item.result c.closed-test.true c.segment-item.is
    c.closed.invariant (c.anchored-anchor.ensures ∙ ap (anchored_digest_of _) (c.register_of.ensures
    ∙ ap (λ xs. register_of (values_of barrier (kept_entries xs))) c.as_slice.ensures.value))

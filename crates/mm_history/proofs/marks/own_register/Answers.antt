use Rattle.mm_history.proofs.Below.{◌∙◌, sym, ap, guard, kept_batch, reads_zero, own_more, register_of, own_values}
use Rattle.mm_digest.specs.Messages.{extended_digest_of}
use Rattle.mm_history.proofs.TakenLaws.{more_taken}
use Rattle.mm_history.proofs.marks.own_register.Goals as goal

pub batches-init : goal.batches-init
batches-init c = c.zero-register.ensures ∙ sym reads_zero

pub batches-preserved : goal.batches-preserved
batches-preserved c =
    let barrier = c.args.barrier.now in
    more_taken kept_batch (λ bs. register_of (own_values barrier bs)) (λ r b. extended_digest_of r (guard barrier b)) (own_more barrier)
    c.args.batches.now c.batches.batch-index c.batch-item.result c.batches-test.true c.batch-item.is c.batches.invariant
    (c.extended-register.ensures ∙ ap (extended_digest_of _) (c.guard.ensures ∙ ap (guard barrier) c.lent.ensures))

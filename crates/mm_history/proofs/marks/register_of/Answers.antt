use Rattle.mm_history.proofs.Below.{◌∙◌, sym, ap, kept_entry, reads_zero, register_of, extension_value, values_of}
use Rattle.mm_digest.specs.Messages.{extended_digest_of}
use Rattle.mm_model.specs.SegmentLaws.{register_more}
use Rattle.mm_history.proofs.TakenLaws.{more_taken}
use Rattle.mm_history.proofs.marks.register_of.Goals as goal

pub entries-init : goal.entries-init
entries-init c = c.zero-register.ensures ∙ sym reads_zero

pub entries-preserved : goal.entries-preserved
entries-preserved c =
    let barrier = c.args.barrier.now in
    more_taken kept_entry (λ es. register_of (values_of barrier es)) (λ r e. extended_digest_of r (extension_value barrier e))
    (register_more barrier)
    c.args.entries.now c.entries.entry-index c.entry-item.result c.entries-test.true c.entry-item.is c.entries.invariant
    (c.extended-register.ensures ∙ ap (extended_digest_of _) c.value.ensures)

use Rattle.std.proofs.Common.{◌∙◌, sym, ap}
use Rattle.mm_model.specs.Standing.{has_value}
use Rattle.mm_model.specs.Verdicts.{kept_entries}
use Rattle.mm_reference.proofs.EntryLaws.{segment_tells}
use Rattle.mm_reference.proofs.entries.some_segment_has_value.Goals as goal

pub returns-then-some_value : goal.returns-then-some_value
returns-then-some_value c =
    segment_tells c.args.segments.now c.segments.segment-index c.segment-item.result _ c.segments-test.true c.segment-item.is
    (sym (ap (λ v. has_value (kept_entries v)) c.as_slice.ensures.value) ∙ sym c.some_value.ensures ∙ c.if-some_value.true)
    c.segments.invariant

pub segments-preserved : goal.segments-preserved
segments-preserved c =
    segment_tells c.args.segments.now c.segments.segment-index c.segment-item.result _ c.segments-test.true c.segment-item.is
    (sym (ap (λ v. has_value (kept_entries v)) c.as_slice.ensures.value) ∙ sym c.some_value.ensures ∙ c.if-some_value.false)
    c.segments.invariant

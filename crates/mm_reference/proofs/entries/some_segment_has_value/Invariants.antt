use Rattle.std.proofs.Common.{◌≡◌, drop}
use Rattle.mm_model.specs.History.{items_of_all}
use Rattle.mm_model.specs.Standing.{has_value}
use Rattle.mm_model.specs.Verdicts.{kept_segments}
use Rattle.mm_reference.proofs.entries.some_segment_has_value.Given as goal

abbrev pub invariant-segments : goal.invariant-segments
invariant-segments l = has_value (items_of_all (kept_segments (drop l.segment-index l.segments)))
    ≡ has_value (items_of_all (kept_segments l.segments))

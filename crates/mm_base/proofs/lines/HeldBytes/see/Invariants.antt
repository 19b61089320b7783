use Rattle.mm_base.proofs.Below.{◌≡◌, ◌-◌, [], length, TakesHeldBytes}
use Rattle.mm_base.specs.Streams.{held_bytes}
use Rattle.mm_base.proofs.lines.HeldBytes.see.Given as goal

abbrev pub invariant-refills : goal.invariant-refills
invariant-refills g l = record {
  takes : TakesHeldBytes (g.S.Source.left l.fn.source) (g.S.Source.left l.source) (held_bytes l.fn.self) [] (held_bytes l.self);
  kept : g.S.Source.faults l.source ≡ g.S.Source.faults l.fn.source;
}

abbrev pub decreases-refills : goal.decreases-refills
decreases-refills g l = 8401 - length (held_bytes l.self)

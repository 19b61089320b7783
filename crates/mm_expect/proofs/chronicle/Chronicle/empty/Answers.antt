use Rattle.mm_expect.proofs.Below.{◌∙◌, ap, emptied_marks}
use Rattle.mm_expect.proofs.Settling.{settled_emptied, ways_items}
use Rattle.mm_expect.proofs.chronicle.Chronicle.empty.Goals as goal

pub invariant_of-self : goal.invariant_of-self
invariant_of-self c = record {
  settled = settled_emptied c.self.invariant.settled c.empty.ensures
      (c.emptied-self-inside.ensures ∙ ap (emptied_marks c.self.inside.marks) c.is_clear.ensures);
  ways_are = ways_items c.self.invariant.ways_are _ c.empty.ensures;
}

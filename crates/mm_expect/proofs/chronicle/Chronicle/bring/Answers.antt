use Rattle.mm_expect.proofs.Settling.{settled_value, ways_items}
use Rattle.mm_expect.proofs.chronicle.Chronicle.bring.Goals as goal

pub invariant_of-self-2 : goal.invariant_of-self-2
invariant_of-self-2 c = record {
  settled = settled_value c.self.invariant.settled c.args.value.now.bytes c.in_ok-take_in.ensures.ok c.with_value-self-inside.ensures;
  ways_are = ways_items c.self.invariant.ways_are _ c.in_ok-take_in.ensures.ok;
}

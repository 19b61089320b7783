use Rattle.mm_expect.proofs.Below.{◌∙◌, ap, sym, guard, ChronicleView, state_after_batch, outputs_of_batch, barrier_of, batch_of}
use Rattle.mm_expect.proofs.Settling.{settled_grown, short_one, ways_grown}
use Rattle.mm_expect.proofs.chronicle.Chronicle.add_inside.Goals as goal

pub invariant_of-self-2 : goal.invariant_of-self-2
invariant_of-self-2 c = record {
  settled = settled_grown c.self.invariant.settled (batch_of c.args.batch) (
    c.swap.ensures.x_after ∙ c.requires.state
        ∙ ap (λ (r : ChronicleView). state_after_batch r (batch_of c.args.batch)) (sym c.self.view_is),
    c.swap-2.ensures.x_after ∙ c.requires.said
        ∙ ap (λ (r : ChronicleView). outputs_of_batch r (batch_of c.args.batch)) (sym c.self.view_is),
    short_one (batch_of c.args.batch) c.requires.short,
  ) (ap (λ (r : ChronicleView). r.variant) c.self.view_is ∙ c.requires.variant) c.in_ok-add_inside.ensures.ok c.requires.size
      (c.requires.guards ∙ ap (λ (r : ChronicleView). guard (barrier_of r.variant) (batch_of c.args.batch)) (sym c.self.view_is))
      c.grown-self-inside.ensures;
  ways_are = ways_grown c.self.invariant.ways_are (batch_of c.args.batch) c.in_ok-add_inside.ensures.ok;
}

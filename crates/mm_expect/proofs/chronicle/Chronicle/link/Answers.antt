use Rattle.mm_expect.proofs.Below.{◌∙◌, ap, sym, ChronicleView, state_after_batch, outputs_of_batch, batch_of}
use Rattle.mm_expect.proofs.Settling.{settled_linked, short_one, ways_linked}
use Rattle.mm_expect.proofs.chronicle.Chronicle.link.Goals as goal

pub invariant_of-self-2 : goal.invariant_of-self-2
invariant_of-self-2 c = record {
  settled = settled_linked c.self.invariant.settled (batch_of c.args.batch) (
    c.swap.ensures.x_after ∙ c.requires.state
        ∙ ap (λ (r : ChronicleView). state_after_batch r (batch_of c.args.batch)) (sym c.self.view_is),
    c.swap-2.ensures.x_after ∙ c.requires.said
        ∙ ap (λ (r : ChronicleView). outputs_of_batch r (batch_of c.args.batch)) (sym c.self.view_is),
    short_one (batch_of c.args.batch) c.requires.short,
  ) (ap (λ (r : ChronicleView). r.variant) c.self.view_is ∙ c.requires.variant) c.in_ok-add.ensures.ok c.linked-self-inside.ensures;
  ways_are = ways_linked c.self.invariant.ways_are (batch_of c.args.batch) (ap (λ (r : ChronicleView). r.variant) c.self.view_is
      ∙ c.requires.variant) c.in_ok-add.ensures.ok;
}

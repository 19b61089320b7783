use Rattle.mm_expect.proofs.Below.{◌∙◌, ap, sym, opened_marks, ChronicleView, state_after_batch, outputs_of_batch, batch_of}
use Rattle.mm_expect.proofs.Settling.{settled_opened, short_one, ways_opened}
use Rattle.mm_expect.proofs.chronicle.Chronicle.begin_segment.Goals as goal

pub invariant_of-self-2 : goal.invariant_of-self-2
invariant_of-self-2 c = record {
  settled = settled_opened c.self.invariant.settled (batch_of c.args.batch) (
    c.swap.ensures.x_after ∙ c.requires.state
        ∙ ap (λ (r : ChronicleView). state_after_batch r (batch_of c.args.batch)) (sym c.self.view_is),
    c.swap-2.ensures.x_after ∙ c.requires.said
        ∙ ap (λ (r : ChronicleView). outputs_of_batch r (batch_of c.args.batch)) (sym c.self.view_is),
    short_one (batch_of c.args.batch) c.requires.short,
  ) (ap (λ (r : ChronicleView). r.variant) c.self.view_is ∙ c.requires.variant) c.in_ok-open.ensures.ok c.requires.size
      c.guard-value.ensures
      c.register-register.ensures (c.opened-self-inside.ensures
      ∙ ap (opened_marks c.self.inside.marks c.args.size c.guard-value.result.bytes c.register-register.result.bytes)
      c.is_alone-is_alone.ensures);
  ways_are = ways_opened c.self.invariant.ways_are (batch_of c.args.batch) c.in_ok-open.ensures.ok;
}

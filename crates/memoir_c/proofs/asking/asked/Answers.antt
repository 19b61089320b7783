use Rattle.memoir_c.proofs.asking.asked.Goals as goal

pub returns : goal.returns
returns c = record {
  parts = (c.in_ok-variant.variant, c.in_ok-variant.module);
  made = _;
  are_parts = c.in_ok-variant.ensures.ok;
  are_steps = c.in_ok-variant.ensures.steps;
  asks = c.come_to.ensures;
}

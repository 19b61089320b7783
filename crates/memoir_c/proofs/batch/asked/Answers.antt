use Rattle.memoir_c.proofs.batch.asked.Goals as goal

pub returns : goal.returns
returns c = record {
  parts = (c.in_ok-variant.variant, c.in_ok-variant.module);
  made = _;
  are_parts = c.in_ok-variant.ensures.ok;
  are_steps = c.in_ok-variant.ensures.steps;
  came = c.come_to-came.result;
  asks = c.come_to-came.ensures;
  lined = c.lined.ensures;
}

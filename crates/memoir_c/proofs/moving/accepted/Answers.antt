use Rattle.memoir_c.proofs.moving.accepted.Goals as goal

pub returns : goal.returns
returns c = record {
  parts = (c.in_ok-variant.variant, c.in_ok-variant.module);
  made = _;
  are_parts = c.in_ok-variant.ensures.ok;
  are_steps = c.in_ok-variant.ensures.steps;
  accepts = c.arrive.ensures.arrives;
  room = c.arrive.ensures.room;
}

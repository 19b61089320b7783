use Rattle.memoir_c.proofs.moving.invited.Goals as goal

pub returns : goal.returns
returns c = record {
  parts = (c.in_ok-variant.variant, _);
  made = _;
  are_parts = c.in_ok-variant.ensures.ok;
  are_steps = c.in_ok-variant.ensures.steps;
  invites = c.await_module.ensures;
}

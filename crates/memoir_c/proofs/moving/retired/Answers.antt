use Rattle.memoir_c.proofs.moving.retired.Goals as goal

pub returns : goal.returns
returns c = record {
  parts = (c.in_ok-variant.variant, c.in_ok-variant.module);
  made = _;
  are_parts = c.in_ok-variant.ensures.ok;
  are_steps = c.in_ok-variant.ensures.steps;
  came = c.leave-came.result;
  retires = c.leave-came.ensures.leaves;
  room = c.leave-came.ensures.room;
  told_is = c.with_ticket.ensures;
}

use Rattle.mm_host_commands.proofs.checkpoint.close_segment.Goals as goal

pub returns : goal.returns
returns g c it = record {
  answer = c.checkpoint-answer.result;
  closes = c.checkpoint-answer.ensures.closes;
  goes = c.checkpoint-answer.ensures.goes;
  untouched = c.checkpoint-answer.ensures.untouched;
  steps = c.checkpoint-answer.ensures.steps;
  faults = c.checkpoint-answer.ensures.faults;
  tells = c.tell_checkpoint.ensures;
}

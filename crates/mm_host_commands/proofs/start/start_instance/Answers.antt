use Rattle.mm_host_commands.proofs.start.start_instance.Goals as goal

pub returns : goal.returns
returns g c left reads = record {
  answer = c.init-answer.result;
  steps = c.init-answer.ensures.steps;
  leaves = c.init-answer.ensures.leaves;
  uses = c.init-answer.ensures.tells;
  faults = c.init-answer.ensures.faults;
  tells = c.tell_start.ensures;
}

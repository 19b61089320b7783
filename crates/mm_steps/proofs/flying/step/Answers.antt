use Rattle.mm_steps.proofs.Below.{Err, Ok, ap, number_of, ◌∙◌, ℕ}
use Rattle.mm_steps.proofs.Steps.{few_writes, going_on, is_over}
use Rattle.mm_steps.proofs.flying.step.Goals as goal

pub returns-in-Going-clause-steps : goal.returns-in-Going-clause-steps
returns-in-Going-clause-steps g c =
    going_on (g.O.Operation.asked c.args.op.now) (g.O.Operation.writes c.args.op.now) c.args.call c.args.platform.now c.advance.new.platform
    c.advance.result c.advance.ensures.steps
    (few_writes c.write_step.result (g.O.Operation.writes c.args.op.now) c.write_step.ensures.is c.write_step.ensures.few) c.in-Going.call
    c.in-Going.is

pub returns-in-Ok-clause-steps : goal.returns-in-Ok-clause-steps
returns-in-Ok-clause-steps g c =
    is_over (g.O.Operation.asked c.args.op.now) (g.O.Operation.writes c.args.op.now) c.args.call c.args.platform.now c.advance.new.platform
    c.advance.result c.advance.ensures.steps (g.O.CallTeller.tells c.args.op.now) c.next_step.result c.settled.new.platform c.in-Over.ended
    c.settled.result (Ok c.in-Ok.called)
    (c.next_step.ensures ∙ ap (λ (k : ℕ). number_of k c.args.call) c.write_step.ensures.is) c.in-Over.is c.settled.ensures.settles
    c.settled.ensures.told c.in-Ok.is

pub returns-in-Err-clause-steps : goal.returns-in-Err-clause-steps
returns-in-Err-clause-steps g c =
    is_over (g.O.Operation.asked c.args.op.now) (g.O.Operation.writes c.args.op.now) c.args.call c.args.platform.now c.advance.new.platform
    c.advance.result c.advance.ensures.steps (g.O.CallTeller.tells c.args.op.now) c.next_step.result c.settled.new.platform c.in-Over.ended
    c.settled.result (Err c.in-Err.memory)
    (c.next_step.ensures ∙ ap (λ (k : ℕ). number_of k c.args.call) c.write_step.ensures.is) c.in-Over.is c.settled.ensures.settles
    c.settled.ensures.told c.in-Err.is

use Rattle.std.proofs.Common.{arith}
use Rattle.std.proofs.lemmas.Grind.{common_steps}
use Rattle.mm_module.specs.Batch.{members_of}
use Rattle.mm_module.specs.Batches.{batch_of}
use Rattle.mm_model.proofs.Moves.{ran_on}
use Rattle.mm_model.proofs.running.run_batch_in.Goals as goal

pub members-preserved : goal.members-preserved
members-preserved g c =
    ran_on (g.M.Module.meaning c.args.module.now) (g.met.M.Module.is_lawful c.args.module.now) c.args.state.now
    (members_of (batch_of c.args.batch)) c.members.i c.members.ran.state c.run_next.new.ran.state
    c.members.ran.outputs c.run_next.new.ran.outputs c.request_at.result.now
    c.members.invariant c.request_at.ensures.at c.in_ok-run_next.ensures.state c.in_ok-run_next.ensures.outputs

pub returns-clause-state : goal.returns-clause-state
returns-clause-state g c = grind (arith, common_steps)

pub returns-clause-outputs : goal.returns-clause-outputs
returns-clause-outputs g c = grind (arith, common_steps)

use Rattle.mm_module.specs.Batch.{members_of}
use Rattle.mm_module.specs.Batches.{batch_of}
use Rattle.mm_model.specs.Moves.{IsPartialRun}
use Rattle.mm_model.proofs.running.run_batch_in.Given as goal

abbrev pub invariant-members : goal.invariant-members
invariant-members g l = IsPartialRun (g.M.Module.meaning l.module) l.state (members_of (batch_of l.batch)) l.i l.ran.state l.ran.outputs

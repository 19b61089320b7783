-- What a whole call of Basic promises. With it: what Basic gives of its calls; what a call of Basic
-- promises that is moved by one step.
use Rattle.std.specs.Prelude.{ℕ, List, Result}
use Rattle.mm_machine.specs.declared.call.OpStage.{OpStage}
use Rattle.mm_machine.specs.declared.call.StepResult.{StepResult}
use Rattle.mm_machine.specs.declared.call.StepResult.TheVariants.{Going, Over}
use Rattle.mm_machine.specs.declared.operation.OpFinding.{OpFinding}
use Rattle.mm_call.specs.Checkpoints.{AskPromise, CallTurn, IsCallTurn, turn_fault}
use Rattle.mm_basic.specs.Below.{Basic, BatchAnswer, CallKind, call_kind, Standing, Batch, Meaning, Refusal, CountsHandedFault}
use Rattle.mm_basic.specs.Operation.{basic_operation, ExtendsNothing}

-- What Basic gives of its calls.

abbrev pub basic_call : CallKind (OpFinding BatchAnswer)
basic_call = call_kind Basic basic_operation

-- What a whole call of Basic promises.

abbrev pub BasicAskPromise : Meaning → Standing → Standing → List ℕ → Batch
    → Result BatchAnswer Refusal
    → Type 0
BasicAskPromise = AskPromise basic_call

-- What a call of Basic promises that is moved by one step.

-- no own extension is to come, if the call goes on
abbrev pub StepExtendsNothing : StepResult BatchAnswer Refusal → Type 0
StepExtendsNothing (Going stage) = ExtendsNothing stage
StepExtendsNothing (Over end) = Unit {0}

-- One turn of a call that stands so.
pub record BasicTurnPromise (meaning : Meaning) (stage : OpStage BatchAnswer) (old new : Standing)
    (offer : List ℕ) (b : Batch) (turn : CallTurn) : Type 0 where
  -- what its step did, and what the turn gives
  pub turns : IsCallTurn (basic_operation meaning offer b) stage old new turn
  -- the count of faults rose exactly where a device's fault is handed on
  pub faults : CountsHandedFault (turn_fault turn) old.faults new.faults

-- A whole call of either core. With it: a call of either core, as the machine makes it.
use Rattle.std.specs.Prelude.{ℕ, List, ◌≡◌}
use Rattle.mm_digest.specs.declared.variant.Variant.{Variant}
use Rattle.mm_digest.specs.declared.variant.Variant.TheVariants.{Basic, Opt}
use Rattle.mm_platform.specs.Standing.{Standing}
use Rattle.mm_module.specs.Batch.{Batch}
use Rattle.mm_module.specs.Meaning.{Meaning}
use Rattle.mm_machine.specs.OpSteps.{OpMeaning, OpEnds}
use Rattle.mm_machine.specs.declared.call.OpResult.{OpResult as End}
use Rattle.mm_machine.specs.declared.call.OpStage.{OpStage}
use Rattle.mm_machine.specs.declared.call.OpStage.TheVariants.{Begun}
use Rattle.mm_machine.specs.declared.operation.OpFinding.{OpFinding}
use Rattle.mm_model.specs.declared.answer.BatchAnswer.{BatchAnswer}
use Rattle.mm_model.specs.declared.refusal.Refusal.{Refusal}
use Rattle.mm_call.specs.CallFinding.{CountsHandedFault, fault_in}
use Rattle.mm_call.specs.CallKind.{EndsAsCall, result_of, call_kind, end_of_machine, CallKind}
use Rattle.mm_call.specs.declared.ended.AskResult.{AskResult}
use Rattle.mm_basic.specs.Operation.{basic_operation, ExtendsNothing}
use Rattle.mm_opt.specs.AskPromise.{opt_operation}

-- A call of either core, as the machine makes it.

-- what it asks
abbrev pub ask_operation : Variant → Meaning → List ℕ → Batch → OpMeaning BatchAnswer Refusal
ask_operation Basic meaning offer b = basic_operation meaning offer b
ask_operation Opt meaning offer b = opt_operation meaning offer b

-- the number of the step that writes the cell
abbrev pub write_step_of : Variant → ℕ
write_step_of Basic = 2
write_step_of Opt = 5

-- where it can stand: a call of Basic extends nothing
abbrev pub IsStageOf : Variant → OpStage BatchAnswer → Type 0
IsStageOf Basic stage = ExtendsNothing stage
IsStageOf Opt stage = Unit {0}

-- A whole call of either core.

-- what a variant gives of its calls
abbrev pub ask_call : Variant → CallKind (OpFinding BatchAnswer)
ask_call variant = call_kind variant (ask_operation variant)

-- Its steps are those of the machine.
pub record AskFinishes (variant : Variant) (meaning : Meaning) (old new : Standing)
    (offer : List ℕ) (b : Batch) (ended : AskResult) : Type 0 where
  pub end : End BatchAnswer Refusal
  pub finishes : OpEnds (ask_operation variant meaning offer b) Begun old new end
  pub gives : ended ≡ end_of_machine end

-- A whole call that asks for a batch in a variant.
pub record IsWholeAsk (variant : Variant) (meaning : Meaning) (old new : Standing)
    (offer : List ℕ) (b : Batch) (ended : AskResult) : Type 0 where
  -- the steps that were made, and what each gave
  pub finishes : AskFinishes variant meaning old new offer b ended
  -- it is the call that the definitions give, on some course, by digests and by lists
  pub calls : EndsAsCall variant meaning old new offer b ended
  -- the count of faults rose exactly where a device's fault is handed on
  pub faults : CountsHandedFault (fault_in (result_of ended)) old.faults new.faults

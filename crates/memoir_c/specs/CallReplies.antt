-- What the functions tell of what a call came to. With it: device steps, as C has them; what a call
-- from C comes to; what a call from C comes to that asks for a batch.
use Rattle.std.specs.Int.{from_bool}
use Rattle.std.specs.Prelude.{◌≡◌, ℕ, ◌<◌, List, [], ◌∷◌, ◌++◌, Option, None, Some, Ok, replicate, take, ◌⊎◌, ◌≤◌, Result, Err, length}
use Rattle.std.specs.Prelude.{drop, ◌≢◌}
use Rattle.mm_digest.specs.Messages.{variant_byte}
use Rattle.mm_digest.specs.declared.variant.Variant.{Variant}
use Rattle.mm_platform.specs.declared.fault.StepFault.{StepFault}
use Rattle.mm_platform.specs.declared.fault.StepFault.TheVariants.{Failed, Off}
use Rattle.mm_module.specs.Batch.{Many}
use Rattle.mm_modules.specs.Modules.{meaning_of, module_of_id}
use Rattle.mm_modules.specs.declared.any.AnyModule.{AnyModule}
use Rattle.mm_model.specs.declared.answer.Answer.{Answer}
use Rattle.mm_model.specs.declared.answer.BatchAnswer.{BatchAnswer}
use Rattle.mm_model.specs.declared.refusal.Refusal.{Refusal}
use Rattle.mm_model.specs.declared.refusal.Refusal.TheVariants as refusal
use Rattle.mm_opt.specs.declared.segment.Checkpointed.{Checkpointed}
use Rattle.mm_opt.specs.declared.segment.Checkpointed.TheVariants as closed
use Rattle.mm_opt.specs.declared.segment.CheckpointRefusal.{CheckpointRefusal}
use Rattle.mm_told.specs.CallPath.{fault_of_answer}
use Rattle.mm_told.specs.HostLaws.{worn_host}
use Rattle.mm_told.specs.ToldAskPromise.{ToldAskPromise, ToldBatchPromise}
use Rattle.mm_told.specs.ToldCheckpointPromise.{ToldCheckpointPromise}
use Rattle.mm_told.specs.declared.outcome.StepsOutcome.{StepsOutcome}
use Rattle.mm_told.specs.declared.outcome.StepsOutcome.TheVariants as outcome
use Rattle.mm_told.specs.declared.step.HostStep as told
use Rattle.mm_told.specs.declared.step.HostStep.TheVariants as step
use Rattle.mm_told.specs.declared.step.MadeStep.{MadeStep}
use Rattle.mm_told.specs.declared.step.MadeStep.TheVariants as made
use Rattle.memoir_c.specs.declared.asking.Instance.{Instance}
use Rattle.memoir_c.specs.declared.asking.Reply.{Reply}
use Rattle.memoir_c.specs.declared.made.Step.{Step}
use Rattle.memoir_c.specs.declared.said.ReturnStatus.{ReturnStatus}
use Rattle.memoir_c.specs.declared.said.ReturnStatus.TheVariants as said
use Rattle.memoir_c.specs.Numbers.{closing_status, number_of}

-- Device steps, as C has them.

-- the number of a step's kind; and of what a device answered
abbrev pub kind_of : MadeStep → ℕ
kind_of (made.ReadCell answer) = 1
kind_of (made.WriteCell bytes answer) = 2
kind_of (made.ReadRegister answer) = 3
kind_of (made.ResetRegister answer) = 4
kind_of (made.ExtendRegister value answer) = 5

abbrev pub answer_by : Option StepFault → ℕ
answer_by None = 0
answer_by (Some Failed) = 1
answer_by (Some Off) = 2

-- the bytes that were read or written stand in front of these
abbrev pub CarriesBytes : MadeStep → List ℕ → Type 0
CarriesBytes (made.ReadCell (Ok read)) bytes = read ≡ bytes
CarriesBytes (made.WriteCell written answer) bytes = written ≡ bytes
CarriesBytes (made.ReadRegister (Ok value)) bytes = value.bytes ≡ take 32 bytes
CarriesBytes (made.ExtendRegister value answer) bytes = value.bytes ≡ take 32 bytes
CarriesBytes _ bytes = Unit {0}

-- This is the step, as C has it.
pub record IsStep (step : Step) (it : MadeStep) : Type 0 where
  pub kind : step.kind ≡ kind_of it
  pub answer : step.answer ≡ answer_by (fault_of_answer it)
  pub carries : CarriesBytes it step.bytes

-- these are the steps, one after another
abbrev pub AreSteps : List Step → List MadeStep → Type 0
AreSteps [] [] = Unit {0}
AreSteps (step ∷ steps) (it ∷ made) = IsStep step it × AreSteps steps made
AreSteps _ _ = ⊥

-- the step that is to be made, as C has it: unanswered, and with zeros behind a register's value
abbrev pub next_step_of : told.HostStep → Step
next_step_of step.ReadCell = record { kind = 1; answer = 0; bytes = replicate 104 0 }
next_step_of (step.WriteCell bytes) = record { kind = 2; answer = 0; bytes = bytes }
next_step_of step.ReadRegister = record { kind = 3; answer = 0; bytes = replicate 104 0 }
next_step_of step.ResetRegister = record { kind = 4; answer = 0; bytes = replicate 104 0 }
next_step_of (step.ExtendRegister value) =
    record { kind = 5; answer = 0; bytes = value.bytes ++ replicate 72 0 }

-- no device step has this kind, or no device answers this
abbrev pub IsNoStep : Step → Type 0
IsNoStep step = (2 < step.answer) ⊎ ((step.kind ≡ 0) ⊎ (5 < step.kind))

-- one of these is no step
abbrev pub HasNoStep : List Step → Type 0
HasNoStep [] = ⊥
HasNoStep (step ∷ steps) = IsNoStep step ⊎ HasNoStep steps

-- What the functions tell of what a call came to.

-- the bytes of an answer: its output, and its snapshot behind that
abbrev pub bytes_of : Answer → List ℕ
bytes_of answer = answer.output ++ answer.snapshot

-- a reply with an answer; and one with a step that is to be made
abbrev pub reply_with_answer : Answer → Reply → Reply
reply_with_answer answer old = record old {
  position = answer.position;
  output_length = length answer.output;
  snapshot_length = length answer.snapshot;
  again = from_bool answer.again;
}

abbrev pub reply_with_step : Step → Reply → Reply
reply_with_step step old = record old { next = step }

-- What a call writes to: the reply, and the room.
pub record ReplyRoom : Type 0 where
  pub reply : Reply
  pub room : List ℕ

abbrev pub reply_room : Reply → List ℕ → ReplyRoom
reply_room reply room = record { reply = reply; room = room }

-- What a call leaves: the reply and the room before and behind it, and what it says.
pub record ReplyState : Type 0 where
  pub old : ReplyRoom
  pub new : ReplyRoom
  pub says : ReturnStatus

abbrev pub reply_state : ReplyRoom → ReplyRoom → ReturnStatus → ReplyState
reply_state old new says = record { old = old; new = new; says = says }

-- it says this, and writes nothing
pub record SaysOnly (said : ReturnStatus) (left : ReplyState) : Type 0 where
  pub says : left.says ≡ said
  pub reply : left.new.reply ≡ left.old.reply
  pub room : left.new.room ≡ left.old.room

-- it tells an answer; or there is too little room
pub record AnswersInRoom (answer : Answer) (left : ReplyState) : Type 0 where
  pub says : left.says ≡ said.Done
  pub reply : left.new.reply ≡ reply_with_answer answer left.old.reply
  pub room : left.new.room ≡ bytes_of answer ++ drop (length (bytes_of answer)) left.old.room
  pub fits : length (bytes_of answer) ≤ length left.old.room

pub record HasNoRoom (answer : Answer) (left : ReplyState) : Type 0 where
  pub says : SaysOnly said.NoRoom left
  pub short : length left.old.room < length (bytes_of answer)

abbrev pub TellsAnswer : Answer → ReplyState → Type 0
TellsAnswer answer left = AnswersInRoom answer left ⊎ HasNoRoom answer left

-- it tells the step that is to be made
pub record TellsNextStep (step : Step) (left : ReplyState) : Type 0 where
  pub says : left.says ≡ said.Next
  pub reply : left.new.reply ≡ reply_with_step step left.old.reply
  pub room : left.new.room ≡ left.old.room

-- what it tells of a call that came to this, or of what was passed that is no call
abbrev pub TellsCallOutcome : Result (StepsOutcome (Result Answer Refusal)) ReturnStatus
    → ReplyState → Type 0
TellsCallOutcome (Err why) left = SaysOnly why left
TellsCallOutcome (Ok (outcome.Ended (Ok answer))) left = TellsAnswer answer left
TellsCallOutcome (Ok (outcome.Ended (Err why))) left = SaysOnly (said.Refused why) left
TellsCallOutcome (Ok (outcome.Next step)) left = TellsNextStep (next_step_of step) left
TellsCallOutcome (Ok outcome.Differs) left = SaysOnly said.Differs left
TellsCallOutcome (Ok outcome.Memory) left = SaysOnly (said.Refused refusal.Memory) left

-- what a checkpoint says that is over
abbrev pub checkpoint_status : Result Checkpointed CheckpointRefusal → ReturnStatus
checkpoint_status (Ok closed.Done) = said.Done
checkpoint_status (Ok closed.NoSegment) = said.NoSegment
checkpoint_status (Err why) = closing_status why

-- what it tells of a checkpoint that came to this, and the step before and behind it
abbrev pub TellsClosing : Result (StepsOutcome (Result Checkpointed CheckpointRefusal)) ReturnStatus
    → Step → Step → ReturnStatus → Type 0
TellsClosing (Err why) old new says = (says ≡ why) × (new ≡ old)
TellsClosing (Ok (outcome.Ended gives)) old new says = (says ≡ checkpoint_status gives)
    × (new ≡ old)
TellsClosing (Ok (outcome.Next step)) old new says = (says ≡ said.Next) × (new ≡ next_step_of step)
TellsClosing (Ok outcome.Differs) old new says = (says ≡ said.Differs) × (new ≡ old)
TellsClosing (Ok outcome.Memory) old new says = (says ≡ said.Differs) × (new ≡ old)

-- What a call from C comes to.

-- a variant has this number
abbrev pub HasVariant : Instance → Type 0
HasVariant instance = (it : Variant) × (variant_byte it ≡ instance.variant)

-- no variant has this number; or one has, and no module this id
abbrev pub IsNoInstance : Instance → ReturnStatus → Type 0
IsNoInstance instance why =
    ((why ≡ said.NoVariant) × ((it : Variant) → variant_byte it ≢ instance.variant))
    ⊎ ((why ≡ said.NoModule) × (HasVariant instance × (module_of_id instance.module ≡ None)))

-- the variant of this number, and the module of this id
abbrev pub AreParts : Instance → Result (Variant × AnyModule) ReturnStatus → Type 0
AreParts instance (Ok found) =
    (variant_byte found.0 ≡ instance.variant) × (module_of_id instance.module ≡ Some found.1)
AreParts instance (Err why) = IsNoInstance instance why

-- there are more steps than a call makes; or there aren't, and one is no step
abbrev pub AreNoSteps : List Step → ReturnStatus → Type 0
AreNoSteps steps why =
    ((why ≡ said.TooMany) × (5 < length steps))
    ⊎ ((why ≡ said.NoStep) × ((length steps ≤ 5) × HasNoStep steps))

-- The call of this variant and module with these steps made comes to this, by what the devices
-- answered: it differs only where a step isn't the one that was told behind those before it. The
-- platform is one that tells nothing, on which any steps may have been made.
pub record IsCall (instance : Instance) (steps : List Step) (offer request : List ℕ)
    (outcome : StepsOutcome (Result Answer Refusal)) : Type 0 where
  pub parts : Variant × AnyModule
  pub made : List MadeStep
  pub are_parts : AreParts instance (Ok parts)
  pub are_steps : AreSteps steps made
  pub asks : ToldAskPromise parts.0 (meaning_of parts.1) (worn_host made) made offer request outcome

-- what is passed is no call, by the first of these that is so
abbrev pub IsNoCall : Instance → List Step → ReturnStatus → Type 0
IsNoCall instance steps why =
    IsNoInstance instance why
    ⊎ ((parts : Variant × AnyModule) × AreParts instance (Ok parts) × AreNoSteps steps why)

-- what a call comes to; or what is passed is none
abbrev pub CallGives : Instance → List Step → List ℕ → List ℕ
    → Result (StepsOutcome (Result Answer Refusal)) ReturnStatus → Type 0
CallGives instance steps offer request (Ok outcome) = IsCall instance steps offer request outcome
CallGives instance steps offer request (Err why) = IsNoCall instance steps why

-- What a call tells is what it comes to.
pub record IsTold (instance : Instance) (steps : List Step) (offer request : List ℕ)
    (old new : ReplyRoom) (number : ℕ) : Type 0 where
  pub asked : Result (StepsOutcome (Result Answer Refusal)) ReturnStatus
  pub comes : CallGives instance steps offer request asked
  pub says : ReturnStatus
  pub number_is : number ≡ number_of says
  pub tells : TellsCallOutcome asked (reply_state old new says)

-- The same of a checkpoint.
pub record IsClosing (steps : List Step)
    (outcome : StepsOutcome (Result Checkpointed CheckpointRefusal))
    : Type 0 where
  pub made : List MadeStep
  pub are_steps : AreSteps steps made
  pub closes : ToldCheckpointPromise (worn_host made) made outcome

abbrev pub ClosesTo : List Step
    → Result (StepsOutcome (Result Checkpointed CheckpointRefusal)) ReturnStatus
    → Type 0
ClosesTo steps (Ok outcome) = IsClosing steps outcome
ClosesTo steps (Err why) = AreNoSteps steps why

pub record IsClosingTold (steps : List Step) (old new : Step) (number : ℕ) : Type 0 where
  pub closed : Result (StepsOutcome (Result Checkpointed CheckpointRefusal)) ReturnStatus
  pub comes : ClosesTo steps closed
  pub says : ReturnStatus
  pub number_is : number ≡ number_of says
  pub tells : TellsClosing closed old new says

-- What a call from C comes to that asks for a batch.

-- what a module says to the requests of a batch, as lines: each with an LF, byte 10, behind it
abbrev pub lines_of : List (List ℕ) → List ℕ
lines_of [] = []
lines_of (output ∷ outputs) = output ++ 10 ∷ lines_of outputs

abbrev pub answer_with_lines : BatchAnswer → Answer
answer_with_lines answer = record {
  again = answer.again;
  position = answer.position;
  output = lines_of answer.outputs;
  snapshot = answer.snapshot;
}

-- What is told where the batch's call came to this: an answer with its lines, or that memory was
-- wanting for them; and all else as it is.
abbrev pub IsLined : StepsOutcome (Result BatchAnswer Refusal)
    → StepsOutcome (Result Answer Refusal) → Type 0
IsLined (outcome.Ended (Ok answer)) told =
    (told ≡ outcome.Ended (Ok (answer_with_lines answer))) ⊎ (told ≡ outcome.Memory)
IsLined (outcome.Ended (Err why)) told = told ≡ outcome.Ended (Err why)
IsLined (outcome.Next step) told = told ≡ outcome.Next step
IsLined outcome.Differs told = told ≡ outcome.Differs
IsLined outcome.Memory told = told ≡ outcome.Memory

-- The call that asks for the requests of this text, by what the devices answered, as `IsCall` is of
-- one.
pub record IsBatchCall (instance : Instance) (steps : List Step) (offer text : List ℕ)
    (told : StepsOutcome (Result Answer Refusal)) : Type 0 where
  pub parts : Variant × AnyModule
  pub made : List MadeStep
  pub are_parts : AreParts instance (Ok parts)
  pub are_steps : AreSteps steps made
  pub came : StepsOutcome (Result BatchAnswer Refusal)
  pub asks : ToldBatchPromise parts.0 (meaning_of parts.1) (worn_host made) made offer (Many text)
      came
  pub lined : IsLined came told

abbrev pub BatchGives : Instance → List Step → (offer text : List ℕ)
    → Result (StepsOutcome (Result Answer Refusal)) ReturnStatus → Type 0
BatchGives instance steps offer text (Ok told) = IsBatchCall instance steps offer text told
BatchGives instance steps offer text (Err why) = IsNoCall instance steps why

-- What is told of a batch is what its call comes to.
pub record IsBatchTold (instance : Instance) (steps : List Step) (offer text : List ℕ)
    (old new : ReplyRoom) (number : ℕ) : Type 0 where
  pub asked : Result (StepsOutcome (Result Answer Refusal)) ReturnStatus
  pub comes : BatchGives instance steps offer text asked
  pub says : ReturnStatus
  pub number_is : number ≡ number_of says
  pub tells : TellsCallOutcome asked (reply_state old new says)

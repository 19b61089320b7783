-- What a call promises whose steps a host makes. With it: what a call tells, by what it comes to.
use Rattle.std.specs.Prelude.{◌≡◌, ◌≢◌, ◌+◌, ◌<◌, ◌≤◌, ◌⊎◌, ℕ, Bool, true, false, List, [], ◌++◌, length, Result, Ok, Err, ◌∷◌, IfOk}
use Rattle.mm_bytes.specs.Limits.{limit_of}
use Rattle.mm_digest.specs.declared.variant.Variant.{Variant}
use Rattle.mm_digest.specs.declared.variant.Variant.TheVariants.{Basic, Opt}
use Rattle.mm_platform.specs.Standing.{Standing, Act}
use Rattle.mm_platform.specs.declared.fault.StepFault.TheVariants.{Off}
use Rattle.mm_module.specs.Batch.{Batch, One}
use Rattle.mm_module.specs.Meaning.{Meaning}
use Rattle.mm_machine.specs.declared.call.OpResult.{OpResult}
use Rattle.mm_machine.specs.declared.call.OpStage.TheVariants.{Begun}
use Rattle.mm_model.specs.Moves.{is_long}
use Rattle.mm_model.specs.declared.answer.Answer.{Answer}
use Rattle.mm_model.specs.declared.answer.BatchAnswer.{BatchAnswer}
use Rattle.mm_model.specs.declared.refusal.Refusal.{Refusal}
use Rattle.mm_model.specs.declared.refusal.Refusal.TheVariants.{Device, Long, Memory}
use Rattle.mm_call.specs.CallFinding.{batch_result_of}
use Rattle.mm_call.specs.CallKind.{result_of, end_of_machine}
use Rattle.mm_call.specs.Checkpoints.{AskPromise}
use Rattle.mm_opt.specs.Checkpoints.{result_of_end}
use Rattle.mm_opt.specs.declared.segment.Checkpointed.{Checkpointed}
use Rattle.mm_opt.specs.declared.segment.CheckpointRefusal.{CheckpointRefusal}
use Rattle.mm_ask.specs.WholeAsk.{ask_call, ask_operation}
use Rattle.mm_told.specs.CallPath.{StepsReachEnd, IsNextStep, act_of, Host, bare_standing, CallProtocol, TellsOutcome, AreAsTold}
use Rattle.mm_told.specs.declared.outcome.StepsOutcome.{StepsOutcome}
use Rattle.mm_told.specs.declared.outcome.StepsOutcome.TheVariants as outcome
use Rattle.mm_told.specs.declared.step.HostStep.{HostStep}
use Rattle.mm_told.specs.declared.step.MadeStep.{MadeStep}
use Rattle.mm_told.specs.declared.told.CallProgress.{CallProgress}
use Rattle.mm_told.specs.declared.told.CallProgress.TheVariants as came

-- where the host's platform stood before the first of the steps that were made
abbrev pub first_standing : Host → List MadeStep → Standing
first_standing host steps = bare_standing (host.stood (length steps))

-- the most steps that a call makes
abbrev pub most_steps : Variant → ℕ
most_steps Basic = 2
most_steps Opt = 5

-- a snapshot that a call gives is no longer than the longest state and 114 bytes
abbrev pub IsWithinRoom : Meaning → StepsOutcome (Result BatchAnswer Refusal) → Type 0
IsWithinRoom meaning (outcome.Ended (Ok answer)) =
    length answer.snapshot ≤ 114 + limit_of meaning.id
IsWithinRoom meaning _ = Unit {0}

-- what a call of one request comes to, as of a batch of one
abbrev pub outcome_of_one : StepsOutcome (Result Answer Refusal)
    → StepsOutcome (Result BatchAnswer Refusal)
outcome_of_one (outcome.Ended given) = outcome.Ended (batch_result_of given)
outcome_of_one (outcome.Next step) = outcome.Next step
outcome_of_one outcome.Differs = outcome.Differs
outcome_of_one outcome.Memory = outcome.Memory

-- memory was wanting
abbrev pub wants_memory : Result BatchAnswer Refusal → Bool
wants_memory (Err Memory) = true
wants_memory _ = false

module _ (variant : Variant) (meaning : Meaning) (offer : List ℕ) (b : Batch) where
  -- a call makes this step behind these, if its request isn't too long
  pub record AskMakesNext (steps : List MadeStep) (act : Act) : Type 0 where
    pub short : is_long b ≡ false
    pub makes : IsNextStep (ask_operation variant meaning offer b) Begun steps act

  -- with the last of these it ended, and gives this; too long a request is refused before the first
  pub record AskEndsWith (steps : List MadeStep) (given : Result BatchAnswer Refusal) : Type 0 where
    pub short : is_long b ≡ false
    pub end : OpResult BatchAnswer Refusal
    pub ends : StepsReachEnd (ask_operation variant meaning offer b) Begun steps end
    pub gives : given ≡ result_of (end_of_machine end)

  pub record IsTooLong (steps : List MadeStep) (given : Result BatchAnswer Refusal) : Type 0 where
    pub long : is_long b ≡ true
    pub none : steps ≡ []
    pub gives : given ≡ Err Long

  -- A call, by what the devices answered.
  abbrev pub ask_protocol : CallProtocol (Result BatchAnswer Refusal)
  ask_protocol = record {
    next = AskMakesNext;
    gives = λ steps given. AskEndsWith steps given ⊎ IsTooLong steps given;
    lacks = wants_memory;
  }

  -- Memory was wanting behind the front ones of these steps: they are a call over the host's
  -- platform that was refused for that, and changed nothing. The others did what they did.
  pub record LacksOnHost (host : Host) (steps : List MadeStep) : Type 0 where
    pub front : List MadeStep
    pub rest : List MadeStep
    pub are : steps ≡ front ++ rest
    pub asked : AskPromise (ask_call variant) meaning (first_standing host steps)
        (bare_standing (host.stood (length rest))) offer
        b (Err Memory)

  -- Where the call is over, it is the call over the host's platform. Where it makes a step next,
  -- the call over the host's platform makes these steps, and then that one: if no answer comes to
  -- that, it is broken off there.
  abbrev pub IsAskOnHost : Host → List MadeStep → StepsOutcome (Result BatchAnswer Refusal)
      → Type 0
  IsAskOnHost host steps (outcome.Ended given) =
      AskPromise (ask_call variant) meaning (first_standing host steps)
      (bare_standing (host.stood 0)) offer
      b given
  IsAskOnHost host steps (outcome.Next step) =
      AskPromise (ask_call variant) meaning (first_standing host steps)
      (bare_standing (host.missed 0 (act_of step)))
      offer b (Err (Device Off))
  IsAskOnHost host steps outcome.Memory = LacksOnHost host steps
  IsAskOnHost host steps outcome.Differs = Unit {0}

-- What a call comes to with the steps that were made.
pub record ToldBatchPromise (variant : Variant) (meaning : Meaning) (host : Host)
    (steps : List MadeStep)
    (offer : List ℕ) (b : Batch) (came : StepsOutcome (Result BatchAnswer Refusal)) : Type 0 where
  -- what it tells, by what the devices answered
  pub tells : TellsOutcome (ask_protocol variant meaning offer b) (λ given. given) steps came
  -- over the host's platform it is a whole call
  pub asked : IsAskOnHost variant meaning offer b host steps came
  -- a host that makes the steps that it is told never hears Differs
  pub fits : AreAsTold (ask_protocol variant meaning offer b) steps → came ≢ outcome.Differs
  -- where it wants another step, fewer than the most were made
  pub few : (step : HostStep) → came ≡ outcome.Next step → length steps < most_steps variant
  -- the room that an answer takes
  pub room : IsWithinRoom meaning came

-- the same of a call of one request
abbrev pub ToldAskPromise : Variant → Meaning → Host → List MadeStep → (offer request : List ℕ)
    → StepsOutcome (Result Answer Refusal) → Type 0
ToldAskPromise variant meaning host steps offer request came =
    ToldBatchPromise variant meaning host steps offer (One request) (outcome_of_one came)

-- What a call tells, by what it comes to.

-- too long a batch is refused before the first step
abbrev pub long_outcome : List MadeStep → StepsOutcome (Result BatchAnswer Refusal)
long_outcome [] = outcome.Ended (Err Long)
long_outcome (it ∷ more) = outcome.Differs

-- an answer has one output
abbrev pub IsOne : Result BatchAnswer Refusal → Type 0
IsOne given = IfOk given (λ answer. length answer.outputs ≡ 1)

abbrev pub IsOneIn : StepsOutcome (Result BatchAnswer Refusal) → Type 0
IsOneIn (outcome.Ended given) = IsOne given
IsOneIn _ = Unit {0}

-- it was over before, by whether for want of memory
abbrev pub outcome_if_over : Bool → StepsOutcome (Result BatchAnswer Refusal)
outcome_if_over true = outcome.Memory
outcome_if_over false = outcome.Differs

-- what is told of a call; and of a checkpoint
abbrev pub told_outcome : CallProgress BatchAnswer Refusal
    → StepsOutcome (Result BatchAnswer Refusal)
told_outcome (came.Next step) = outcome.Next step
told_outcome (came.Over end) = outcome.Ended (result_of (end_of_machine end))
told_outcome (came.Before end) = outcome_if_over (wants_memory (result_of (end_of_machine end)))
told_outcome came.Elsewhere = outcome.Differs

abbrev pub closing_outcome : CallProgress Checkpointed CheckpointRefusal
    → StepsOutcome (Result Checkpointed CheckpointRefusal)
closing_outcome (came.Next step) = outcome.Next step
closing_outcome (came.Over end) = outcome.Ended (result_of_end end)
closing_outcome (came.Before end) = outcome.Differs
closing_outcome came.Elsewhere = outcome.Differs

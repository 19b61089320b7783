-- What a checkpoint promises whose steps a host makes. With it: what is told by the steps that were
-- made is the call on each platform on which they were made.
use Rattle.std.specs.Prelude.{◌≡◌, ◌≢◌, ◌<◌, false, List, length, Result, Err, ℕ}
use Rattle.mm_digest.specs.declared.variant.Variant.{Variant}
use Rattle.mm_platform.specs.declared.fault.StepFault.TheVariants.{Off}
use Rattle.mm_module.specs.Batch.{Batch}
use Rattle.mm_module.specs.Meaning.{IsLawful, Meaning}
use Rattle.mm_machine.specs.declared.call.OpResult.{OpResult}
use Rattle.mm_machine.specs.declared.call.OpStage.TheVariants.{Begun}
use Rattle.mm_model.specs.declared.answer.BatchAnswer.{BatchAnswer}
use Rattle.mm_model.specs.declared.refusal.Refusal.{Refusal}
use Rattle.mm_opt.specs.CheckpointPromise.{CheckpointPromise}
use Rattle.mm_opt.specs.Checkpoints.{closing_operation, result_of_end}
use Rattle.mm_opt.specs.declared.segment.Checkpointed.{Checkpointed}
use Rattle.mm_opt.specs.declared.segment.CheckpointRefusal.{CheckpointRefusal}
use Rattle.mm_opt.specs.declared.segment.CheckpointRefusal.TheVariants.{Device}
use Rattle.mm_told.specs.CallPath.{StepsReachEnd, IsNextStep, act_of, Host, bare_standing, CallProtocol, TellsOutcome, AreAsTold, IsHostOf}
use Rattle.mm_told.specs.declared.outcome.StepsOutcome.{StepsOutcome}
use Rattle.mm_told.specs.declared.outcome.StepsOutcome.TheVariants as outcome
use Rattle.mm_told.specs.declared.step.HostStep.{HostStep}
use Rattle.mm_told.specs.declared.step.MadeStep.{MadeStep}
use Rattle.mm_told.specs.ToldAskPromise.{first_standing, IsAskOnHost, ask_protocol}

-- it ended with the last of these steps, and gives this
pub record CheckpointEndsWith (steps : List MadeStep)
    (given : Result Checkpointed CheckpointRefusal) : Type 0 where
  pub end : OpResult Checkpointed CheckpointRefusal
  pub ends : StepsReachEnd closing_operation Begun steps end
  pub gives : given ≡ result_of_end end

-- A checkpoint, by what the devices answered. It takes no memory.
abbrev pub checkpoint_protocol : CallProtocol (Result Checkpointed CheckpointRefusal)
checkpoint_protocol = record {
  next = IsNextStep closing_operation Begun;
  gives = CheckpointEndsWith;
  lacks = λ given. false;
}

-- over the host's platform, as of a call
abbrev pub IsCheckpointOnHost : Host → List MadeStep
    → StepsOutcome (Result Checkpointed CheckpointRefusal) → Type 0
IsCheckpointOnHost host steps (outcome.Ended given) =
    CheckpointPromise (first_standing host steps) (bare_standing (host.stood 0)) given
IsCheckpointOnHost host steps (outcome.Next step) =
    CheckpointPromise (first_standing host steps) (bare_standing (host.missed 0 (act_of step)))
    (Err (Device Off))
IsCheckpointOnHost host steps outcome.Differs = Unit {0}
IsCheckpointOnHost host steps outcome.Memory = ⊥

-- What a checkpoint comes to with the steps that were made, as a call does.
pub record ToldCheckpointPromise (host : Host) (steps : List MadeStep)
    (came : StepsOutcome (Result Checkpointed CheckpointRefusal)) : Type 0 where
  pub tells : TellsOutcome checkpoint_protocol (λ given. given) steps came
  pub closed : IsCheckpointOnHost host steps came
  -- a host that makes the steps that it is told never hears Differs
  pub fits : AreAsTold checkpoint_protocol steps → came ≢ outcome.Differs
  -- a checkpoint makes at most three steps
  pub few : (step : HostStep) → came ≡ outcome.Next step → length steps < 3

-- What is told by the steps that were made is the call on each platform on which they were made.

abbrev pub ToldCallsAreCalls : Type 0
ToldCallsAreCalls =
    (variant : Variant) (meaning : Meaning) (host : Host) (steps : List MadeStep)
    (offer : List ℕ) (b : Batch) (came : StepsOutcome (Result BatchAnswer Refusal)) →
    IsLawful meaning → IsHostOf steps host →
    TellsOutcome (ask_protocol variant meaning offer b) (λ given. given) steps came →
    IsAskOnHost variant meaning offer b host steps came

abbrev pub ToldCheckpointsAreCheckpoints : Type 0
ToldCheckpointsAreCheckpoints =
    (host : Host) (steps : List MadeStep)
    (came : StepsOutcome (Result Checkpointed CheckpointRefusal)) →
    IsHostOf steps host → TellsOutcome checkpoint_protocol (λ given. given) steps came →
    IsCheckpointOnHost host steps came

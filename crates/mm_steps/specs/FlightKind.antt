-- A call in flight, by the digests at which it was begun, and what its next step comes to by its
-- event. With it: where a call in flight is stopped; a call in flight over a platform in memory,
-- whatever it asks.
use Rattle.std.specs.Prelude.{◌≡◌, ℕ, ◌+◌, Bool, true, false, Some, IsSome, List, Result, Ok, Err}
use Rattle.mm_bytes.specs.declared.fault.Memory.{Memory}
use Rattle.mm_digest.specs.declared.variant.Variant.{Variant}
use Rattle.mm_platform.specs.Standing.{Plan, Standing, next_step, fault_at}
use Rattle.mm_platform.specs.declared.plan.Meddle.{Meddle}
use Rattle.mm_platform.specs.declared.plan.Stop.{Stop}
use Rattle.mm_platform.specs.declared.plan.Stop.TheVariants.{Fail}
use Rattle.mm_module.specs.Batch.{Batch}
use Rattle.mm_module.specs.Meaning.{Meaning}
use Rattle.mm_machine.specs.OpSteps.{OpMeaning, MayGoOn, number_of, OpSteps}
use Rattle.mm_machine.specs.declared.call.OpResult.{OpResult}
use Rattle.mm_machine.specs.declared.call.OpStage.{OpStage}
use Rattle.mm_machine.specs.declared.call.StepResult.TheVariants as step
use Rattle.mm_model.specs.Chains.{Instance}
use Rattle.mm_model.specs.Moves.{Digests}
use Rattle.mm_model.specs.declared.answer.BatchAnswer.{BatchAnswer}
use Rattle.mm_model.specs.declared.refusal.Refusal.{Refusal}
use Rattle.mm_call.specs.CallFinding.{digest_level}
use Rattle.mm_opt.specs.Checkpoints.{IsClosing, closing_operation}
use Rattle.mm_opt.specs.declared.segment.Checkpointed.{Checkpointed}
use Rattle.mm_opt.specs.declared.segment.CheckpointRefusal.{CheckpointRefusal}
use Rattle.mm_schedule.specs.Events.{Ask, Checkpoint}
use Rattle.mm_schedule.specs.declared.event.Offer.{Offer}
use Rattle.mm_schedule.specs.declared.reply.Reply.{Reply}
use Rattle.mm_schedule.specs.declared.reply.Reply.TheVariants as reply
use Rattle.mm_ask.specs.WholeAsk.{IsStageOf, ask_operation, write_step_of}
use Rattle.mm_flight.specs.Flight.{CallFlies, plan_by, is_broken}
use Rattle.mm_outcome.specs.Premises.{Outcome, event_outcome}
use Rattle.mm_world.specs.Calls.{stopped_step, WasPlanned}
use Rattle.mm_world.specs.WorldStanding.{CallComesTo, HasRead, HasDigests, IsQuiet}
use Rattle.mm_world.specs.declared.call.CallReport.{CallReport}
use Rattle.mm_steps.specs.declared.flying.FlightOutcome.{FlightOutcome}
use Rattle.mm_steps.specs.declared.flying.FlightOutcome.TheVariants.{Going, Over}

-- Where a call in flight is stopped.

-- The platform is on, and tells a plan whose next step answers a fault by this stop.
pub record BreaksNext (stop : Stop) (standing : Standing) : Type 0 where
  pub plan : Plan
  pub is_on : standing.is_on ≡ true
  pub planned : standing.plan ≡ Some plan
  pub fails : IsSome (fault_at stop (next_step plan))

-- the reply to a call that was broken off with nothing done
abbrev pub is_nothing : Reply → Bool
is_nothing (reply.Nothing how) = true
is_nothing (reply.Told again position outputs) = false
is_nothing (reply.No cause) = false
is_nothing (reply.Kept how position) = false
is_nothing (reply.Closed how) = false
is_nothing reply.Checkpointed = false
is_nothing reply.Power = false
is_nothing reply.Extended = false

-- A call in flight is so far the call that is stopped, without effect, at the step behind its next
-- one: it is over with its next step exactly where that call comes to something.
abbrev pub stop_behind : ℕ → Stop
stop_behind next = Fail (next + 1) false

-- A call in flight, by the digests at which it was begun, and what its next step comes to by its
-- event.

-- A kind of call: what it asks, the number of the step that writes the cell, and where it can
-- stand.
pub record Kind (A R : Type 0) : Type 1 where
  pub asked : OpMeaning A R
  pub writes : ℕ
  pub CanStand : OpStage A → Type 0

-- a call that offers these bytes and asks for this batch, and a checkpoint
abbrev pub ask_kind : Variant → Meaning → List ℕ → Batch → Kind BatchAnswer Refusal
ask_kind variant meaning bytes b = record {
  asked = ask_operation variant meaning bytes b;
  writes = write_step_of variant;
  CanStand = IsStageOf variant;
}

abbrev pub checkpoint_kind : Kind Checkpointed CheckpointRefusal
checkpoint_kind = record { asked = closing_operation; writes = 3; CanStand = IsClosing }

-- the event of such a call that is stopped so
abbrev pub outcome_of_stopped_ask : Instance → Digests → List (List ℕ) → List Meddle → Offer → Batch
    → Stop
    → Outcome Digests
outcome_of_stopped_ask i d issued meddles offer b stop =
    event_outcome i (digest_level i) d issued (Ask meddles stop offer b)

abbrev pub outcome_of_stopped_closing : Instance → Digests → List (List ℕ) → List Meddle → Stop
    → Outcome Digests
outcome_of_stopped_closing i d issued meddles stop =
    event_outcome i (digest_level i) d issued (Checkpoint meddles stop)

module _ {A R : Type 0} (kind : Kind A R) (i : Instance) (d : Digests) (from : Standing) where
  -- A call is in flight, and stands here. It was begun over a platform that stood so, quiet, at
  -- these digests; others have extended the register by these meddles since; and its next step has
  -- this number.
  pub record IsInFlight (stage : OpStage A) (now : Standing) (meddles : List Meddle) (next : ℕ)
      : Type 0 where
    pub stands : HasDigests i from d
    pub quiet : IsQuiet from
    pub made : ℕ
    pub flies : CallFlies kind.asked from meddles made stage now
    pub room : MayGoOn stage now
    pub can_stand : kind.CanStand stage
    pub number : number_of kind.writes stage ≡ made + 1
    pub is_next : next ≡ made + 1

  -- What the next step of a call in flight came to, by its event for each stop: it goes on, where
  -- it has come to nothing so far; or it is over, and came to what its event says. Where memory was
  -- wanting, the reading steps were made, and nothing else.
  abbrev pub StepComesTo : (Stop → Outcome Digests) → List (List ℕ) → List Meddle → ℕ → Standing
      → Result (FlightOutcome A) Memory → Type 0
  StepComesTo event issued meddles next new (Ok (Going on)) =
      IsInFlight on new meddles (next + 1)
      × (is_nothing (event (stop_behind next)).reply ≡ true)
  StepComesTo event issued meddles next new (Ok (Over it)) =
      CallComesTo i (event (stop_behind next)) d.count issued from new it
      × (is_nothing (event (stop_behind next)).reply ≡ false)
  StepComesTo event issued meddles next new (Err memory) =
      HasRead i d meddles (stop_behind next) from new

-- A call in flight over a platform in memory, whatever it asks: its next step, and a step that
-- breaks it off.

-- the plan that stops behind the next step
abbrev pub plan_behind : List Meddle → ℕ → Plan
plan_behind meddles next = plan_by (stop_behind next) meddles

-- the room that a call takes which goes on
abbrev pub MayStepOn : {A : Type 0} → Result (FlightOutcome A) Memory → Standing → Type 0
MayStepOn (Ok (Going stage)) standing = MayGoOn stage standing
MayStepOn (Ok (Over it)) standing = Unit {0}
MayStepOn (Err memory) standing = Unit {0}

-- The call goes on behind this step, and is in flight still.
pub record FlightGoesOn {A R : Type 0} (o : OpMeaning A R) (stage : OpStage A) (old : Standing)
    (from : Standing) (meddles : List Meddle) (made : ℕ) (on : OpStage A) (new : Standing)
    : Type 0 where
  pub steps : OpSteps o stage old new (step.Going on)
  pub flies : CallFlies o from meddles (made + 1) on new

module _ {A R : Type 0} (o : OpMeaning A R)
    (tells : Stop → OpResult A R → Result CallReport Memory → Type 0) where
  -- The call is over with its next step: it was the call in one go that is to be stopped behind
  -- that step, and no device's fault broke it off.
  pub record IsOver (from : Standing) (meddles : List Meddle) (made : ℕ) (new : Standing)
      (result : Result CallReport Memory) : Type 0 where
    pub was : WasPlanned o tells meddles (stop_behind (made + 1)) from new result
    pub whole : is_broken was.ended ≡ false

  -- What the next step came to. Where memory was wanting the call is over too.
  abbrev pub FlightComesTo : OpStage A → Standing → Standing → List Meddle → ℕ → Standing
      → Result (FlightOutcome A) Memory → Type 0
  FlightComesTo stage old from meddles made new (Ok (Going on)) =
      FlightGoesOn o stage old from meddles made on new
  FlightComesTo stage old from meddles made new (Ok (Over it)) =
      IsOver from meddles made new (Ok it)
  FlightComesTo stage old from meddles made new (Err memory) =
      IsOver from meddles made new (Err memory)

  -- the next step, from wherever the call was begun, where a write of the cell has this number
  abbrev pub FlightStepsAs : ℕ → OpStage A → Standing → Standing → Result (FlightOutcome A) Memory
      → Type 0
  FlightStepsAs writes stage old new result =
      (from : Standing) (meddles : List Meddle) (made : ℕ) → CallFlies o from meddles made stage old
      → number_of writes stage ≡ made + 1 → FlightComesTo stage old from meddles made new result

  -- the next step with this stop at it: it was the call in one go that is stopped so
  abbrev pub FlightBreaksAs : OpStage A → Standing → Standing → Stop → CallReport → Type 0
  FlightBreaksAs stage old new stop it =
      (from : Standing) (meddles : List Meddle) (made : ℕ) → CallFlies o from meddles made stage old
      → stopped_step stop ≡ made + 1 → WasPlanned o tells meddles stop from new (Ok it)

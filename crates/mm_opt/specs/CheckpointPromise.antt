-- What a whole checkpoint promises. With it: that a checkpoint over a platform is the checkpoint on
-- some course, by digests and by lists; what each turn of a checkpoint does and gives.
use Rattle.std.specs.Option.{option_map}
use Rattle.std.specs.Prelude.{◌≡◌, ℕ, List, Result, Ok, Err, is_some, Option, None}
use Rattle.mm_machine.specs.OpSteps.{OpSteps, act_of}
use Rattle.mm_machine.specs.declared.call.OpStage.{OpStage}
use Rattle.mm_machine.specs.declared.call.StepResult.{StepResult}
use Rattle.mm_machine.specs.declared.call.StepResult.TheVariants as step
use Rattle.mm_call.specs.Checkpoints.{turn_with}
use Rattle.mm_call.specs.declared.turn.Turn.{Turn}
use Rattle.mm_call.specs.declared.turn.Turn.TheVariants.{Going, Refused}
use Rattle.mm_opt.specs.Below.{Variant, Standing, Batch, Meaning, History, Instance, Digests, digests_of, StandsFor, IsWithin}
use Rattle.mm_opt.specs.Below.{CheckpointEnding, Closes, HasNone, NoSegment, LostPower, Stops, CheckpointOutcome, checkpoint_outcome}
use Rattle.mm_opt.specs.Below.{IsClosedWithin, Course, AreTold, PlatformStaysPlanned, list_level, digest_level, instance_by, StandsAt}
use Rattle.mm_opt.specs.Below.{items_after_moves, count_after_more, CountsHandedFault, StepGoes, StepFault}
use Rattle.mm_opt.specs.Checkpoints.{closing_fault_in, ClosesSegment, LeavesStill, ClosingStepsBy, closing_fault_of, IsClosing}
use Rattle.mm_opt.specs.Checkpoints.{closing_operation, result_of_end}
use Rattle.mm_opt.specs.declared.segment.Checkpointed.{Checkpointed as Said, Checkpointed}
use Rattle.mm_opt.specs.declared.segment.Checkpointed.TheVariants as said
use Rattle.mm_opt.specs.declared.segment.CheckpointRefusal.{CheckpointRefusal}
use Rattle.mm_opt.specs.declared.segment.CheckpointRefusal.TheVariants as refusal

-- That a checkpoint over a platform is the checkpoint on some course, by digests and by lists.

-- what is given for an ending: a device's fault is handed on
abbrev pub checkpoint_result : CheckpointEnding → Result Said CheckpointRefusal
checkpoint_result Closes = Ok said.Done
checkpoint_result HasNone = Err refusal.Kind
checkpoint_result NoSegment = Ok said.NoSegment
checkpoint_result LostPower = Err refusal.Lost
checkpoint_result (Stops fault closed) = Err (refusal.Device fault)

-- The checkpoint over a platform that stood at these digests was this one: its result; the cell and
-- the register; what the register shows of its moves; and its steps, and those of them that write
-- the cell.
pub record CheckpointGoesBy (i : Instance) (d : Digests) (o : CheckpointOutcome Digests)
    (old new : Standing)
    (result : Result Said CheckpointRefusal) : Type 0 where
  pub gives : result ≡ checkpoint_result o.ending
  pub stands : StandsAt i new o.state
  pub items : new.items ≡ option_map (items_after_moves i d o.moves) old.items
  pub steps : new.steps ≡ count_after_more o.steps old.steps
  pub writes : new.writes ≡ count_after_more o.writes old.writes

-- The checkpoint over a platform that stood for a history was this one, and what was asked of the
-- history holds after it.
pub record CheckpointContinues (all others : List (List ℕ)) (asked : List Batch) (i : Instance)
    (o : CheckpointOutcome History) (new : Standing)
    (result : Result Said CheckpointRefusal) : Type 0 where
  pub gives : result ≡ checkpoint_result o.ending
  pub stands : StandsFor i new o.state
  pub within : IsWithin all others asked i o.state

-- A checkpoint over a platform: there is a course, which is that of the plan where one is told, on
-- which it goes from any digests that the platform stands at, and from any history that it stands
-- for, in either variant. Under a plan the platform stays on, unless the checkpoint was cut.
pub record IsCheckpointOnCourse (old new : Standing)
    (result : Result Said CheckpointRefusal) : Type 0 where
  pub course : Course
  pub tells : AreTold old course.fates
  pub goes : (variant : Variant) (meaning : Meaning) (key barrier : List ℕ) (d : Digests) →
      StandsAt (instance_by variant meaning key barrier) old d →
      CheckpointGoesBy (instance_by variant meaning key barrier) d
      (checkpoint_outcome (instance_by variant meaning key barrier)
      (digest_level (instance_by variant meaning key barrier)) d course)
      old new result
  pub continues : (variant : Variant) (meaning : Meaning) (key barrier : List ℕ) (y : History)
      (all others : List (List ℕ))
      (asked : List Batch) →
      StandsFor (instance_by variant meaning key barrier) old y →
      IsClosedWithin all others asked (instance_by variant meaning key barrier) y
      (checkpoint_outcome (instance_by variant meaning key barrier)
      (digest_level (instance_by variant meaning key barrier))
      (digests_of (instance_by variant meaning key barrier) y) course).moves →
      CheckpointContinues all others asked (instance_by variant meaning key barrier)
      (checkpoint_outcome (instance_by variant meaning key barrier)
      (list_level (instance_by variant meaning key barrier)) y course)
      new result
  pub plans : PlatformStaysPlanned old new (is_some (closing_fault_in result))

-- What a whole checkpoint promises.

-- One checkpoint over a platform.
pub record CheckpointPromise (old new : Standing)
    (result : Result Checkpointed CheckpointRefusal) : Type 0 where
  -- the steps that were made, and what each gave
  pub closes : ClosesSegment old new result
  -- a refusal that hands on no device's fault has changed nothing
  pub untouched : LeavesStill result old new
  -- the count of faults rose exactly where a device's fault is handed on
  pub faults : CountsHandedFault (closing_fault_in result) old.faults new.faults
  -- how many steps that were, and how many of them write the cell
  pub steps : ClosingStepsBy result old new
  -- the checkpoint is the one that the definitions give, on some course: by digests, and by lists
  pub goes : IsCheckpointOnCourse old new result

-- What each turn of a checkpoint does and gives.

-- one turn of a checkpoint
abbrev pub ClosingTurn : Type 0
ClosingTurn = Turn (OpStage Checkpointed) Checkpointed CheckpointRefusal

-- what is told of a step of the machine
abbrev pub turn_of_step : StepResult Checkpointed CheckpointRefusal → ClosingTurn
turn_of_step (step.Going call) = Going call
turn_of_step (step.Over ended) = turn_with (result_of_end ended)

abbrev pub StepIsClosing : StepResult Checkpointed CheckpointRefusal → Type 0
StepIsClosing (step.Going call) = IsClosing call
StepIsClosing (step.Over ended) = Unit {0}

-- One turn of a checkpoint: its step is one of the machine.
pub record IsClosingTurn (call : OpStage Checkpointed) (old new : Standing)
    (turn : ClosingTurn) : Type 0 where
  pub step : StepResult Checkpointed CheckpointRefusal
  pub steps : OpSteps closing_operation call old new step
  pub gives : turn ≡ turn_of_step step

-- the fault that a turn hands on
abbrev pub closing_turn_fault : ClosingTurn → Option StepFault
closing_turn_fault (Refused why) = closing_fault_of why
closing_turn_fault _ = None

-- One turn makes exactly the device step that comes next, and hands its fault on.
abbrev pub ClosingActsAt : OpStage Checkpointed → Standing → Standing → ClosingTurn → Type 0
ClosingActsAt call old new turn = StepGoes (act_of call) old new (closing_turn_fault turn)

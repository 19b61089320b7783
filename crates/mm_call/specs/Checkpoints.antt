-- What a checkpoint comes to on a course, by either level; and its laws. With it: what one step of
-- a call comes to; when a call is answered; what a whole call promises, in either variant.
use Rattle.std.specs.List.{AllByRecursion, Contains}
use Rattle.std.specs.Option.{option_map_or}
use Rattle.std.specs.Prelude.{ℕ, Bool, true, false, List, Option, ◌≡◌, None, Result, Ok, Err, ◌+◌, ◌≤◌, [], ◌++◌, Some, IfOk}
use Rattle.mm_bytes.specs.Limits.{last_position}
use Rattle.mm_machine.specs.OpSteps.{OpMeaning, OpSteps}
use Rattle.mm_machine.specs.declared.call.OpStage.{OpStage}
use Rattle.mm_machine.specs.declared.call.StepResult.{StepResult}
use Rattle.mm_machine.specs.declared.call.StepResult.TheVariants as step
use Rattle.mm_machine.specs.declared.operation.OpFinding.{OpFinding}
use Rattle.mm_model.specs.Messages.{IsClearFor}
use Rattle.mm_model.specs.Moves.{IsFit}
use Rattle.mm_model.specs.Standing.{NamesPosition}
use Rattle.mm_call.specs.Below.{Variant, Basic, Opt, StepFault, Batch, Meaning, History, Move, Instance, basic_instance, opt_instance}
use Rattle.mm_call.specs.Below.{AreMessagesIn, IsClear, Digests, checkpoint_steps, Standing, BatchAnswer, Refusal, Content, Item, size_of}
use Rattle.mm_call.specs.Below.{normal_batch, verdict_on, is_long, StandsFor, IsRight, Again}
use Rattle.mm_call.specs.CallFinding.{Level, list_level, digest_level, DigestsAgree, fault_of, IsAccepted, IsAnswered, CountsHandedFault}
use Rattle.mm_call.specs.CallFinding.{CallLeavesUntouched, fault_in}
use Rattle.mm_call.specs.CallKind.{result_of, end_of_machine, CallKind, IsWholeCall, IsCallOnCourse}
use Rattle.mm_call.specs.CallOutcome.{Course, StepsWalk, walk, has_close, WalkOutcome, outcome_of_walk, state_seen}
use Rattle.mm_call.specs.CallPremises.{counted_part, counted_moves, messages_of_moves, foreign_move_values, IsWithin, AreAsked, AreShown}
use Rattle.mm_call.specs.CallPremises.{foreign_items, standing_items, StepsBy, WritesBy}
use Rattle.mm_call.specs.declared.turn.Turn.{Turn}
use Rattle.mm_call.specs.declared.turn.Turn.TheVariants.{Going, Done, Refused}
use Rattle.mm_call.specs.Laws.{IsSame}

-- The segment was closed; or nothing was: Basic has no segments, none is open, or power was lost
-- inside it; or the call was broken off by a fault: then whether the segment was closed.
pub data CheckpointEnding : Type 0 where
  Closes : CheckpointEnding
  HasNone : CheckpointEnding
  NoSegment : CheckpointEnding
  LostPower : CheckpointEnding
  Stops : StepFault → Bool → CheckpointEnding

-- what a checkpoint came to
abbrev pub CheckpointOutcome : Type 0 → Type 0
CheckpointOutcome S = WalkOutcome S CheckpointEnding

-- how a checkpoint ends that isn't broken off: by whether a segment is open, and whether power was
-- lost inside it
abbrev pub checkpoint_ending : Variant → Bool → Bool → CheckpointEnding
checkpoint_ending Basic is_open is_lost = HasNone
checkpoint_ending Opt false is_lost = NoSegment
checkpoint_ending Opt true true = LostPower
checkpoint_ending Opt true false = Closes

-- a checkpoint, by how it ends unless it is broken off, and the walk of its steps
abbrev pub checkpoint_outcome_by : {S : Type 0} → Level S → S → CheckpointEnding → StepsWalk
    → CheckpointOutcome S
checkpoint_outcome_by level s closing walked =
    outcome_of_walk level s
    (option_map_or (λ fault. Stops fault (has_close walked.moves)) walked.broken closing) walked

-- a checkpoint on a course: its steps follow from what it sees, and are walked on the course
abbrev pub checkpoint_outcome : {S : Type 0} → Instance → Level S → S → Course → CheckpointOutcome S
checkpoint_outcome i level s c =
    let is_lost = level.is_lost (state_seen i level s c) in
    checkpoint_outcome_by level s (checkpoint_ending i.variant (level.is_open s) is_lost)
    (walk c.fates 1 (checkpoint_steps i.variant (level.is_open s) is_lost))

-- What is asked of a history and of the moves of a checkpoint from it: the list is clear, the
-- history is within it, and so is what counts of the moves.
pub record IsClosedWithin (all others : List (List ℕ)) (asked : List Batch) (i : Instance)
    (y : History) (moves : List Move) : Type 0 where
  pub clear : IsClear all
  pub within : IsWithin all others asked i y
  pub messages : AreMessagesIn
      (messages_of_moves i (counted_part y) (counted_moves y.is_open moves)) all
  pub values : AllByRecursion (Contains others)
      (foreign_move_values (counted_moves y.is_open moves))

abbrev pub IsSameCheckpoint : List (List ℕ) → List (List ℕ) → List Batch → Instance
    → CheckpointOutcome History → CheckpointOutcome Digests → Type 0
IsSameCheckpoint all others asked i lists digests = IsSame all others asked i lists digests

-- On every course the checkpoint by digests is the checkpoint by lists.
abbrev pub CheckpointsAgree : Instance → Type 0
CheckpointsAgree i =
    (all others : List (List ℕ)) (asked : List Batch) (y : History) (d : Digests) (course : Course)
    →
    DigestsAgree i y d → IsClosedWithin all others asked i y
    (checkpoint_outcome i (digest_level i) d course).moves →
    IsSameCheckpoint all others asked i (checkpoint_outcome i (list_level i) y course)
    (checkpoint_outcome i (digest_level i) d course)

abbrev pub BasicCheckpointsAgree : Type 0
BasicCheckpointsAgree = (meaning : Meaning) (key : List ℕ)
    → CheckpointsAgree (basic_instance meaning key)

abbrev pub OptCheckpointsAgree : Type 0
OptCheckpointsAgree =
    (meaning : Meaning) (key barrier : List ℕ) → CheckpointsAgree (opt_instance meaning key barrier)

abbrev pub checkpoint_ending_by : Option StepFault → Bool → CheckpointEnding → CheckpointEnding
checkpoint_ending_by broken closed closing =
    option_map_or (λ fault. Stops fault closed) broken closing

-- a checkpoint, by whether power was lost inside the segment
abbrev pub checkpoint_outcome_with : {S : Type 0} → Instance → Level S → S → Course → Bool
    → CheckpointOutcome S
checkpoint_outcome_with i level s c is_lost =
    checkpoint_outcome_by level s (checkpoint_ending i.variant (level.is_open s) is_lost)
    (walk c.fates 1 (checkpoint_steps i.variant (level.is_open s) is_lost))

-- What one step of a call comes to.

-- the turn that ends a call which gives this
abbrev pub turn_with : {C A R : Type 0} → Result A R → Turn C A R
turn_with (Ok answer) = Done answer
turn_with (Err why) = Refused why

-- one turn of a call that asks for a batch
abbrev pub CallTurn : Type 0
CallTurn = Turn (OpStage BatchAnswer) BatchAnswer Refusal

abbrev pub turn_of : StepResult BatchAnswer Refusal → CallTurn
turn_of (step.Going stage) = Going stage
turn_of (step.Over end) = turn_with (result_of (end_of_machine end))

-- the fault of a device step that it hands on
abbrev pub turn_fault : CallTurn → Option StepFault
turn_fault (Refused why) = fault_of why
turn_fault _ = None

-- One turn of a call of what was asked, that stands here: its step is one of the machine.
pub record IsCallTurn (o : OpMeaning BatchAnswer Refusal) (stage : OpStage BatchAnswer)
    (old new : Standing) (turn : CallTurn) : Type 0 where
  pub step : StepResult BatchAnswer Refusal
  pub steps : OpSteps o stage old new step
  pub gives : turn ≡ turn_of step

-- When a call is answered.

-- Completeness: a right offer that names the last position, or the one before the batch that was
-- committed last and is asked again, is answered, while there are positions left. In Opt the
-- history is live, and nobody else extended the register inside a segment; of a repeat with no
-- segment open nothing is asked of the register's items, as it neither reads them nor empties the
-- register.
abbrev pub IsComplete : Variant → Meaning → Standing → Standing → List ℕ → Batch
    → Result BatchAnswer Refusal → Type 0
IsComplete Basic meaning old new offer b result =
    is_long b ≡ false → (key : List ℕ) (y : History) (all : List (List ℕ)) (content : Content) →
    StandsFor (basic_instance meaning key) old y
    → IsRight (basic_instance meaning key) offer content →
    NamesPosition (basic_instance meaning key) y content →
    IsClearFor all (basic_instance meaning key) y content.place (normal_batch b) →
    IsAccepted (verdict_on Basic y content.position (normal_batch b)) →
    content.position + size_of b ≤ last_position →
    IsAnswered result old new
IsComplete Opt meaning old new offer b result =
    is_long b ≡ false → (key barrier : List ℕ) (y : History) (all others : List (List ℕ))
    (asked : List Batch) (items more : List Item) (content : Content) →
    StandsFor (opt_instance meaning key barrier) old y →
    old.items ≡ Some items → new.items ≡ Some (standing_items y.is_open items ++ more) →
    (y.is_open ≡ true → foreign_items more ≡ []) →
    AreAsked all others asked (opt_instance meaning key barrier) y offer (normal_batch b) →
    (((y.is_open ≡ false) × (verdict_on Opt y content.position (normal_batch b) ≡ Again) → ⊥) →
    AreShown all others (opt_instance meaning key barrier) y more) →
    IsRight (opt_instance meaning key barrier) offer content →
    IsAccepted (verdict_on Opt y content.position (normal_batch b)) →
    content.position + size_of b ≤ last_position →
    IsAnswered result old new

-- What a whole call promises, in either variant.

-- One call over a platform, that offered these bytes and asked for the batch.
pub record AskPromise (c : CallKind (OpFinding BatchAnswer)) (meaning : Meaning)
    (old new : Standing)
    (offer : List ℕ) (b : Batch) (result : Result BatchAnswer Refusal) : Type 0 where
  -- the steps that were made, and what each gave; none where the batch is too long
  pub calls : IsWholeCall c meaning old new offer b result
  -- a refusal that hands on no device's fault has changed nothing
  pub untouched : CallLeavesUntouched result old new
  -- the count of faults rose exactly where a device's fault is handed on
  pub faults : CountsHandedFault (fault_in result) old.faults new.faults
  -- how many steps that were, and how many of them write the cell
  pub steps : is_long b ≡ false → StepsBy c.variant result old new
  -- the cell is to be written at most once, and inside a segment never
  pub writes : WritesBy c.variant result old new
  -- an answer has its sizes: a position, a line for each request, and a snapshot within its bounds
  pub fits : IfOk result (λ answer. IsFit b answer)
  -- the call is the one that the definitions give, on some course: by digests, and by lists
  pub goes : is_long b ≡ false → IsCallOnCourse c.variant meaning old new offer b result
  -- a right offer that the history accepts is answered
  pub complete : IsComplete c.variant meaning old new offer b result

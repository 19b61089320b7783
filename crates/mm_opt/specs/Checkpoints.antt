-- The device steps of a checkpoint: what each does to the platform, and what it gives. With it: a
-- checkpoint, as the machine is asked it, and what it tells of how the machine ended.
use Rattle.std.specs.Prelude.{◌≡◌, ℕ, Bool, true, false, List, Option, None, Some, Result, Ok, Err, IfOk}
use Rattle.std.specs.Result.{result_err, result_map_both}
use Rattle.std.specs.Str.{bytes_eq}
use Rattle.mm_seal.specs.declared.cell.CellFault.TheVariants as fault
use Rattle.mm_machine.specs.Acts.{is_extension_left}
use Rattle.mm_machine.specs.OpSteps.{OpMeaning}
use Rattle.mm_machine.specs.declared.call.OpResult.{OpResult}
use Rattle.mm_machine.specs.declared.call.OpResult.TheVariants as ended
use Rattle.mm_machine.specs.declared.call.OpStage.{OpStage}
use Rattle.mm_machine.specs.declared.call.OpStage.TheVariants.{Changing}
use Rattle.mm_machine.specs.declared.change.Change.TheVariants.{Writing}
use Rattle.mm_machine.specs.declared.operation.OpFinding.{OpFinding}
use Rattle.mm_machine.specs.declared.operation.OpFinding.TheVariants.{Repeat, Change}
use Rattle.mm_machine.specs.declared.operation.ReadyChange.{ReadyChange}
use Rattle.mm_machine.specs.declared.operation.Sight.{Sight}
use Rattle.mm_machine.specs.declared.operation.Sight.TheVariants as sight
use Rattle.mm_call.specs.CallPremises.{StepsAre}
use Rattle.mm_opt.specs.Below.{zero_bytes, anchored_digest_of, Variant, Basic, Opt, ReadsCell, cell_spelling, Cell, CellFault, Item}
use Rattle.mm_opt.specs.Below.{Standing, item_values, register_after, ReadCell, WriteCell, ReadRegister, StepGoes, StepFault, digest_of}
use Rattle.mm_opt.specs.Below.{IsUntouched}
use Rattle.mm_opt.specs.declared.segment.Checkpointed.{Checkpointed}
use Rattle.mm_opt.specs.declared.segment.Checkpointed.TheVariants.{Done, NoSegment}
use Rattle.mm_opt.specs.declared.segment.CheckpointRefusal.{CheckpointRefusal}
use Rattle.mm_opt.specs.declared.segment.CheckpointRefusal.TheVariants as refusal
use Rattle.mm_opt.specs.declared.segment.Segment.{Segment}
use Rattle.mm_opt.specs.declared.segment.Segment.TheVariants.{Open, Shut}

-- the fault of a device step that a refusal hands on
abbrev pub closing_fault_of : CheckpointRefusal → Option StepFault
closing_fault_of (refusal.Device fault) = Some fault
closing_fault_of _ = None

abbrev pub closing_fault_in : {A : Type 0} → Result A CheckpointRefusal → Option StepFault
closing_fault_in (Ok it) = None
closing_fault_in (Err why) = closing_fault_of why

-- the segment of a cell, by its variant and flag
abbrev pub segment_by : Variant → Bool → Cell → Result Segment CheckpointRefusal
segment_by Basic flag cell = Err refusal.Kind
segment_by Opt false cell = Ok Shut
segment_by Opt true cell = Ok (Open cell)

-- the segment, by what the cell's bytes read as
abbrev pub segment_in : Result Cell CellFault → Result Segment CheckpointRefusal
segment_in (Err fault.Blank) = Err refusal.Blank
segment_in (Err fault.Cell) = Err refusal.Cell
segment_in (Ok cell) = segment_by cell.variant cell.flag cell

-- What is found in the bytes of a cell. There is one way for each.
pub record SeesSegment (bytes : List ℕ) (found : Result Segment CheckpointRefusal) : Type 0 where
  pub read : Result Cell CellFault
  pub reads : ReadsCell bytes read
  pub found_is : found ≡ segment_in read

-- What is found on a platform, whose cell is read; it is the platform's, where that tells its cell.
pub record FindsSegment (old : Standing) (found : Result Segment CheckpointRefusal) : Type 0 where
  pub bytes : List ℕ
  pub told : (cell : List ℕ) → old.cell ≡ Some cell → bytes ≡ cell
  pub sees : SeesSegment bytes found

-- The first step, and what is found where it doesn't fail.
pub record LooksAtSegment (old new : Standing) (found : Result Segment CheckpointRefusal) : Type 0
  where
    pub goes : StepGoes ReadCell old new (closing_fault_in found)
    pub finds : closing_fault_in found ≡ None → FindsSegment old found

-- the cell once its segment is closed, where the register has this value
abbrev pub closed_cell : Cell → List ℕ → List ℕ
closed_cell cell register =
    cell_spelling (record cell {
      variant = Opt;
      flag = false;
      summary = digest_of (anchored_digest_of cell.summary.bytes register);
    })

-- the bytes that close the segment, by whether the register reads zero
abbrev pub closing_by : Bool → Cell → List ℕ → Result (List ℕ) CheckpointRefusal
closing_by true cell register = Err refusal.Lost
closing_by false cell register = Ok (closed_cell cell register)

abbrev pub closing_in : Cell → List ℕ → Result (List ℕ) CheckpointRefusal
closing_in cell register = closing_by (bytes_eq register zero_bytes) cell register

-- What is found on a platform, whose register is read; it is the platform's, where that tells its
-- items.
pub record FindsClosing (cell : Cell) (new : Standing)
    (found : Result (List ℕ) CheckpointRefusal) : Type 0 where
  pub register : List ℕ
  pub told : (items : List Item) → new.items ≡ Some items
      → register ≡ register_after (item_values items)
  pub found_is : found ≡ closing_in cell register

-- The second step, and what is found where it doesn't fail.
pub record WeighsRegister (cell : Cell) (old new : Standing)
    (found : Result (List ℕ) CheckpointRefusal) : Type 0 where
  pub goes : StepGoes ReadRegister old new (closing_fault_in found)
  pub finds : closing_fault_in found ≡ None → FindsClosing cell new found

-- The last step, which closes the segment where it doesn't fail.
pub record WritesClosing (next : List ℕ) (old new : Standing)
    (written : Result Checkpointed StepFault) : Type 0 where
  pub goes : StepGoes (WriteCell next) old new (result_err written)
  pub gives : IfOk written (λ it. it ≡ Done)

-- a device's fault is handed on as it is
abbrev pub result_of_closing_write : Result Checkpointed StepFault
    → Result Checkpointed CheckpointRefusal
result_of_closing_write (Ok it) = Ok it
result_of_closing_write (Err fault) = Err (refusal.Device fault)

pub record ClosesBy (next : List ℕ) (old new : Standing)
    (result : Result Checkpointed CheckpointRefusal) : Type 0 where
  pub written : Result Checkpointed StepFault
  pub closes : WritesClosing next old new written
  pub gives : result ≡ result_of_closing_write written

-- The rest of a checkpoint, by what was found.
abbrev pub EndsClosing : Result (List ℕ) CheckpointRefusal → Standing → Standing
    → Result Checkpointed CheckpointRefusal → Type 0
EndsClosing (Err why) old new result = (new ≡ old) × (result ≡ Err why)
EndsClosing (Ok next) old new result = ClosesBy next old new result

pub record WeighsAndCloses (cell : Cell) (old new : Standing)
    (result : Result Checkpointed CheckpointRefusal) : Type 0 where
  pub middle : Standing
  pub found : Result (List ℕ) CheckpointRefusal
  pub weighs : WeighsRegister cell old middle found
  pub ends : EndsClosing found middle new result

abbrev pub EndsLooking : Result Segment CheckpointRefusal → Standing → Standing
    → Result Checkpointed CheckpointRefusal → Type 0
EndsLooking (Err why) old new result = (new ≡ old) × (result ≡ Err why)
EndsLooking (Ok Shut) old new result = (new ≡ old) × (result ≡ Ok NoSegment)
EndsLooking (Ok (Open cell)) old new result = WeighsAndCloses cell old new result

-- A checkpoint: it reads the cell, and goes on by what it finds.
pub record ClosesSegment (old new : Standing)
    (result : Result Checkpointed CheckpointRefusal) : Type 0 where
  pub middle : Standing
  pub found : Result Segment CheckpointRefusal
  pub looks : LooksAtSegment old middle found
  pub ends : EndsLooking found middle new result

-- what a refused checkpoint leaves, unless it hands on a device's fault; and one that found no
-- segment
abbrev pub LeavesStill : Result Checkpointed CheckpointRefusal → Standing → Standing → Type 0
LeavesStill (Ok Done) old new = Unit {0}
LeavesStill (Ok NoSegment) old new = IsUntouched old new
LeavesStill (Err why) old new = closing_fault_of why ≡ None → IsUntouched old new

-- the third step of a checkpoint writes the cell
pub data ClosingStepsMade (old new : Standing) : Type 0 where
  one_step : StepsAre 1 0 old new → ClosingStepsMade old new
  two_steps : StepsAre 2 0 old new → ClosingStepsMade old new
  three_steps : StepsAre 3 1 old new → ClosingStepsMade old new

abbrev pub ClosingStepsRefused : CheckpointRefusal → Standing → Standing → Type 0
ClosingStepsRefused (refusal.Device fault) old new = ClosingStepsMade old new
ClosingStepsRefused refusal.Lost old new = StepsAre 2 0 old new
ClosingStepsRefused _ old new = StepsAre 1 0 old new

-- The steps that a checkpoint makes: one where no segment is open, and three where one is closed.
abbrev pub ClosingStepsBy : Result Checkpointed CheckpointRefusal → Standing → Standing → Type 0
ClosingStepsBy (Ok Done) old new = StepsAre 3 1 old new
ClosingStepsBy (Ok NoSegment) old new = StepsAre 1 0 old new
ClosingStepsBy (Err why) old new = ClosingStepsRefused why old new

-- A checkpoint, as the machine is asked it, and what it tells of how the machine ended.

-- what is seen of a segment: an open one wants the register, and otherwise nothing is to be done
abbrev pub sight_of : Segment → Sight Checkpointed
sight_of Shut = sight.Found (Repeat NoSegment)
sight_of (Open cell) = sight.Cell cell

-- the write that closes a segment, and what is to be done
abbrev pub write_of : List ℕ → ReadyChange Checkpointed
write_of next = record { change = Writing next; answer = Done }

abbrev pub write_finding : List ℕ → OpFinding Checkpointed
write_finding next = Change (write_of next)

-- What is found so, without a device's fault, is given to the machine as this.
pub record GivesAs {A B : Type 0} (form : A → B) (finds : Result A CheckpointRefusal → Type 0)
    (given : Result B CheckpointRefusal) : Type 0 where
  pub found : Result A CheckpointRefusal
  pub finds_it : finds found
  pub quiet : closing_fault_in found ≡ None
  pub gives : given ≡ result_map_both form (λ why. why) found

-- a checkpoint, which commits no position
abbrev pub closing_operation : OpMeaning Checkpointed CheckpointRefusal
closing_operation = record {
  sees = λ bytes. GivesAs sight_of (SeesSegment bytes);
  finds = λ cell register. GivesAs write_finding (λ found. found ≡ closing_in cell register);
  position = λ answer. 0;
}

-- a checkpoint extends nothing
abbrev pub IsClosing : OpStage Checkpointed → Type 0
IsClosing (Changing ready) = is_extension_left ready.change ≡ false
IsClosing _ = Unit {0}

-- what is told of how the machine ended: a device's fault is handed on; and memory never lacks, as
-- a checkpoint extends nothing
abbrev pub result_of_end : OpResult Checkpointed CheckpointRefusal
    → Result Checkpointed CheckpointRefusal
result_of_end (ended.Answered it) = Ok it
result_of_end (ended.Refused why) = Err why
result_of_end (ended.Broken fault commits) = Err (refusal.Device fault)
result_of_end ended.Lacks = Ok NoSegment

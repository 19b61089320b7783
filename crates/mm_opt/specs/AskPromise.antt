-- What a whole call of Opt promises. With it: what a call finds in the cell's bytes; what a call
-- asks of the machine; what a call of Opt promises that is moved by one step; what Opt gives of its
-- calls.
use Rattle.std.specs.Prelude.{◌≡◌, ℕ, Bool, true, false, ◌&&◌, List, Result, Ok, Err, nat_eq, None}
use Rattle.mm_seal.specs.declared.cell.CellFault.TheVariants.{Blank}
pub use Rattle.mm_machine.specs.OpSteps.{MayGoOn}
use Rattle.mm_machine.specs.OpSteps.{OpMeaning, act_of}
use Rattle.mm_machine.specs.declared.operation.Sight as sight
use Rattle.mm_machine.specs.declared.operation.Sight.TheVariants as seen
use Rattle.mm_model.specs.declared.refusal.Refusal.TheVariants as refusal
use Rattle.mm_call.specs.CallKind.{call_kind}
use Rattle.mm_call.specs.Checkpoints.{CallTurn, IsCallTurn, turn_fault, AskPromise}
use Rattle.mm_call.specs.declared.turn.Turn.TheVariants.{Going}
use Rattle.mm_opt.specs.Answers.{finding_in, BatchFinding, BatchStage}
use Rattle.mm_opt.specs.Below.{Variant, Basic, Opt, ReadsCell, Cell, CellFault, Unspelled, Refusal, Batch, BatchAnswer, Meaning, IsOrMemory}
use Rattle.mm_opt.specs.Below.{PartsFault, ReadsParts, Snapshot, fault_in, fault_of, Standing, StepGoes, CountsHandedFault, CallKind}

-- What a call finds in the cell's bytes.

abbrev pub is_opt : Variant → Bool
is_opt Basic = false
is_opt Opt = true

-- the cell is one of Opt and of this module
abbrev pub is_cell_of : ℕ → Cell → Bool
is_cell_of id cell = is_opt cell.variant && nat_eq cell.module id

abbrev pub own_cell : Bool → Cell → Result Cell Refusal
own_cell true cell = Ok cell
own_cell false cell = Err refusal.Cell

-- the cell of this module, by what the bytes read as
abbrev pub cell_in : ℕ → Result Cell CellFault → Result Cell Refusal
cell_in id (Err Blank) = Err refusal.Blank
cell_in id (Err Unspelled) = Err refusal.Cell
cell_in id (Ok cell) = own_cell (is_cell_of id cell) cell

-- What a module with this id finds in the bytes of a cell. There is one way for each.
pub record SeesCell (id : ℕ) (bytes : List ℕ) (found : Result Cell Refusal) : Type 0 where
  pub read : Result Cell CellFault
  pub reads : ReadsCell bytes read
  pub found_is : found ≡ cell_in id read

-- What a call asks of the machine.

-- The cell is seen, and the register is wanted. A refusal hands no fault on.
abbrev pub SeesAtCell : ℕ → List ℕ → Result (sight.Sight BatchAnswer) Refusal → Type 0
SeesAtCell id bytes (Ok (seen.Found found)) = ⊥
SeesAtCell id bytes (Ok (seen.Cell cell)) = SeesCell id bytes (Ok cell)
SeesAtCell id bytes (Err why) = SeesCell id bytes (Err why) × (fault_of why ≡ None)

-- What is found in this cell, with this value of the register, and in the offered bytes.
pub record FindsIn (meaning : Meaning) (cell : Cell) (register offer : List ℕ) (b : Batch)
    (found : Result BatchFinding Refusal) : Type 0 where
  pub taken : Result Snapshot PartsFault
  pub reads : ReadsParts offer Opt meaning.id taken
  pub found_is : IsOrMemory (finding_in meaning cell register taken b) found

-- The same, where a refusal hands no fault on.
pub record FindsQuietly (meaning : Meaning) (cell : Cell) (register offer : List ℕ) (b : Batch)
    (found : Result BatchFinding Refusal) : Type 0 where
  pub finds : FindsIn meaning cell register offer b found
  pub quiet : fault_in found ≡ None

abbrev pub opt_operation : Meaning → List ℕ → Batch → OpMeaning BatchAnswer Refusal
opt_operation meaning offer b = record {
  sees = SeesAtCell meaning.id;
  finds = λ cell register found. FindsQuietly meaning cell register offer b found;
  position = λ answer. answer.position;
}

-- What a call of Opt promises that is moved by one step.

-- the room that the rest of a call takes, if it goes on
abbrev pub TurnMayGoOn : CallTurn → Standing → Type 0
TurnMayGoOn (Going stage) standing = MayGoOn stage standing
TurnMayGoOn _ standing = Unit {0}

-- One turn makes exactly the device step that comes next, and hands its fault on. Besides it may
-- make room.
pub record ActsAt (stage : BatchStage) (old new : Standing) (turn : CallTurn) : Type 0 where
  pub middle : Standing
  pub goes : StepGoes (act_of stage) old middle (turn_fault turn)
  pub room : new ≡ record middle { spare = new.spare }

-- One turn of a call that stands at this stage.
pub record OptTurnPromise (meaning : Meaning) (stage : BatchStage) (old new : Standing)
    (offer : List ℕ) (b : Batch) (turn : CallTurn) : Type 0 where
  -- what its step did, and what the turn gives
  pub turns : IsCallTurn (opt_operation meaning offer b) stage old new turn
  -- the step is the one that comes next
  pub acts : ActsAt stage old new turn
  -- a call that goes on has the room that its extension takes
  pub room : TurnMayGoOn turn new
  -- the count of faults rose exactly where a device's fault is handed on
  pub faults : CountsHandedFault (turn_fault turn) old.faults new.faults

-- What Opt gives of its calls.

-- A repeat has no changing steps; in the open segment there is one, which extends the register; and
-- three open a segment.
abbrev pub opt_call : CallKind BatchFinding
opt_call = call_kind Opt opt_operation

-- What a whole call of Opt promises.

-- One call over a platform, that offered these bytes and asked for the batch.
abbrev pub OptAskPromise : Meaning → Standing → Standing → List ℕ → Batch
    → Result BatchAnswer Refusal
    → Type 0
OptAskPromise = AskPromise opt_call

-- The bytes of the cell of a platform that a module lives on, is awaited on, or has left. With it:
-- the numbers of a move's refusals, and what they hand on; what a move does to the platform, and
-- what it answers; fields at fixed offsets.
use Rattle.std.specs.Int.{w64, from_be_bytes}
use Rattle.std.specs.Prelude.{◌≡◌, ℕ, Bool, Option, None, Result, Ok, Err, ◌⊎◌, if◌then◌else◌, List, length, Some, IsErr, ◌+◌, ◌==◌}
use Rattle.std.specs.Prelude.{slice_index, slice_range, ◌↔◌, ◌&&◌, true, false, not, ◌∷◌, ◌++◌}
use Rattle.std.specs.Str.{bytes_eq}
use Rattle.mm_bytes.specs.Limits.{next_count, cell_length}
use Rattle.mm_digest.specs.Messages.{variant_byte, zero_bytes}
use Rattle.mm_digest.specs.declared.digest.Digest.{Digest}
use Rattle.mm_digest.specs.declared.variant.Variant.{Variant}
use Rattle.mm_digest.specs.declared.variant.Variant.TheVariants.{Basic, Opt}
use Rattle.mm_seal.specs.Cell.{FitsVariant, IsCell, cell_spelling, blank_cell}
use Rattle.mm_seal.specs.declared.cell.Cell.{Cell}
use Rattle.mm_seal.specs.declared.cell.CellFault.{CellFault}
use Rattle.mm_seal.specs.declared.cell.CellFault.TheVariants.{Blank, Cell as Unspelled}
use Rattle.mm_platform.specs.Standing.{Standing, ReadCell, WriteCell, StepGoes}
use Rattle.mm_platform.specs.declared.fault.StepFault.{StepFault}
use Rattle.mm_model.specs.Messages.{code_of}
use Rattle.mm_model.specs.declared.refusal.Refusal.{Refusal}
use Rattle.mm_model.specs.declared.refusal.Refusal.TheVariants.{Memory, Device}
use Rattle.mm_call.specs.CallFinding.{fault_of, CountsHandedFault, IsUntouched}
use Rattle.mm_move.specs.declared.cell.MovedCell.{MovedCell}
use Rattle.mm_move.specs.declared.cell.MovedCell.TheVariants as moved
use Rattle.mm_move.specs.declared.cell.RetiredCell.{RetiredCell}
use Rattle.mm_move.specs.declared.cell.WaitingCell.{WaitingCell}
use Rattle.mm_move.specs.declared.ready.ReadyMove.{ReadyMove}
use Rattle.mm_move.specs.declared.refusal.MoveRefusal.{MoveRefusal}
use Rattle.mm_move.specs.declared.refusal.MoveRefusal.TheVariants.{Core, Already, Open, Gone, Nonce, Barrier}

-- The numbers of a move's refusals, and what they hand on.

abbrev pub move_code_of : MoveRefusal → ℕ
move_code_of (Core why) = code_of why
move_code_of Already = 13
move_code_of Open = 14
move_code_of Gone = 15
move_code_of Nonce = 16
move_code_of Barrier = 17

-- the fault of a device step that a refusal hands on
abbrev pub move_fault_of : MoveRefusal → Option StepFault
move_fault_of (Core why) = fault_of why
move_fault_of Already = None
move_fault_of Open = None
move_fault_of Gone = None
move_fault_of Nonce = None
move_fault_of Barrier = None

abbrev pub move_fault_in : {A : Type 0} → Result A MoveRefusal → Option StepFault
move_fault_in (Ok answer) = None
move_fault_in (Err why) = move_fault_of why

-- refused where the test holds, and otherwise the rest
abbrev pub refusal_if : {A : Type 0} → Bool → MoveRefusal → Result A MoveRefusal
    → Result A MoveRefusal
refusal_if test why rest = if test then Err why else rest

-- Want of memory may come in place of what is not refused.
abbrev pub IsOrNoMemory : {A : Type 0} → Result A MoveRefusal → Result A MoveRefusal → Type 0
IsOrNoMemory (Err why) found = found ≡ Err why
IsOrNoMemory (Ok it) found = (found ≡ Ok it) ⊎ (found ≡ Err (Core Memory))

-- What a move does to the platform, and what it answers.

-- The 104 bytes of a cell, which are the platform's, where that tells its cell; none after a fault.
abbrev pub BytesRead : Option StepFault → Standing → Result (List ℕ) MoveRefusal → Type 0
BytesRead None old (Ok bytes) =
    (length bytes ≡ cell_length) × ((cell : List ℕ) → old.cell ≡ Some cell → bytes ≡ cell)
BytesRead None old (Err why) = ⊥
BytesRead (Some fault) old read = read ≡ Err (Core (Device fault))

-- the first step
pub record ReadsBytes (old new : Standing) (read : Result (List ℕ) MoveRefusal) : Type 0 where
  pub fault : Option StepFault
  pub goes : StepGoes ReadCell old new fault
  pub gives : BytesRead fault old read

-- what is answered at the last step, by its fault
abbrev pub move_answer : {A : Type 0} → A → Option StepFault → Result A MoveRefusal
move_answer answer None = Ok answer
move_answer answer (Some fault) = Err (Core (Device fault))

-- The last step writes these bytes. Where it doesn't fail, the answer that was ready is given.
pub record WritesCell {A : Type 0} (next : List ℕ) (answer : A) (old new : Standing)
    (result : Result A MoveRefusal) : Type 0 where
  pub fault : Option StepFault
  pub goes : StepGoes (WriteCell next) old new fault
  pub gives : result ≡ move_answer answer fault

-- There is no last step where the move was made before.
abbrev pub MakesMoveStep : {A : Type 0} → Option (List ℕ) → A → Standing → Standing
    → Result A MoveRefusal
    → Type 0
MakesMoveStep None answer old new result = (new ≡ old) × (result ≡ Ok answer)
MakesMoveStep (Some next) answer old new result = WritesCell next answer old new result

-- how a move goes on by what it found
abbrev pub MoveGoesOn : {A : Type 0} → Result (ReadyMove A) MoveRefusal → Standing → Standing
    → Result A MoveRefusal → Type 0
MoveGoesOn (Err why) old new result = (new ≡ old) × (result ≡ Err why)
MoveGoesOn (Ok ready) old new result = MakesMoveStep ready.next ready.answer old new result

-- What is found in the bytes that were read, and how the move goes on by it.
pub record MoveFinds {A : Type 0} (finds : List ℕ → Result (ReadyMove A) MoveRefusal)
    (old middle new : Standing)
    (result : Result A MoveRefusal) : Type 0 where
  pub bytes : List ℕ
  pub size : length bytes ≡ cell_length
  pub told : (cell : List ℕ) → old.cell ≡ Some cell → bytes ≡ cell
  pub found : Result (ReadyMove A) MoveRefusal
  pub found_is : IsOrNoMemory (finds bytes) found
  pub goes_on : MoveGoesOn found middle new result

-- after the first step: a fault ends the move
abbrev pub EndsAfterRead : {A : Type 0} → (List ℕ → Result (ReadyMove A) MoveRefusal)
    → Option StepFault
    → Standing → Standing → Standing → Result A MoveRefusal → Type 0
EndsAfterRead finds None old middle new result = MoveFinds finds old middle new result
EndsAfterRead finds (Some fault) old middle new result =
    (new ≡ middle) × (result ≡ Err (Core (Device fault)))

-- The steps of a move: it reads the cell, and by what it finds there it ends, or writes the cell.
pub record AreMoveSteps {A : Type 0} (finds : List ℕ → Result (ReadyMove A) MoveRefusal)
    (old new : Standing)
    (result : Result A MoveRefusal) : Type 0 where
  pub middle : Standing
  pub fault : Option StepFault
  pub reads : StepGoes ReadCell old middle fault
  pub after : EndsAfterRead finds fault old middle new result

-- one step, which reads; or two, of which the second writes the cell
abbrev pub ReadsOnce : Standing → Standing → Type 0
ReadsOnce old new = (new.steps ≡ next_count old.steps) × (new.writes ≡ old.writes)

abbrev pub ReadsAndWrites : Standing → Standing → Type 0
ReadsAndWrites old new =
    (new.steps ≡ next_count (next_count old.steps)) × (new.writes ≡ next_count old.writes)

abbrev pub MoveStepsRefused : Option StepFault → Standing → Standing → Type 0
MoveStepsRefused None old new = ReadsOnce old new
MoveStepsRefused (Some fault) old new = ReadsOnce old new ⊎ ReadsAndWrites old new

-- A refusal comes after one step, unless it hands on a device's fault.
abbrev pub MoveStepsBy : {A : Type 0} → Result A MoveRefusal → Standing → Standing → Type 0
MoveStepsBy (Ok answer) old new = ReadsOnce old new ⊎ ReadsAndWrites old new
MoveStepsBy (Err why) old new = MoveStepsRefused (move_fault_of why) old new

-- One move over a platform, by what it finds in the cell's bytes.
pub record MovePromise {A : Type 0} (finds : List ℕ → Result (ReadyMove A) MoveRefusal)
    (old new : Standing)
    (result : Result A MoveRefusal) : Type 0 where
  -- the steps that were made, and what each gave; want of memory may come in place of what is not
  -- refused
  pub moves : AreMoveSteps finds old new result
  -- a refusal that hands on no device's fault has changed nothing
  pub untouched : move_fault_in result ≡ None → IsErr result → IsUntouched old new
  -- the count of faults rose exactly where a device's fault is handed on
  pub faults : CountsHandedFault (move_fault_in result) old.faults new.faults
  -- how many steps that were, and how many of them write the cell
  pub steps : MoveStepsBy result old new

-- Fields at fixed offsets: what bytes say, if they are of this form at all.

-- the 32 bytes at this offset
abbrev pub part : ℕ → List ℕ → List ℕ
part at bytes = slice_range bytes at (at + 32)

abbrev pub digest_at : ℕ → List ℕ → Digest
digest_at at bytes = record { bytes = part at bytes }

-- the number in the 8 bytes at this offset
abbrev pub number_at : ℕ → List ℕ → ℕ
number_at at bytes = from_be_bytes w64 (slice_range bytes at (at + 8))

-- the variant that the fifth byte names
abbrev pub variant_in : List ℕ → Variant
variant_in bytes = if slice_index bytes 4 == 2 then Opt else Basic

-- The bytes of the cell of a platform that a module lives on, is awaited on, or has left.

-- `MM`, the letter of the form, `1`, the variant, the module's id and two zero bytes
abbrev pub head_of : ℕ → Variant → ℕ → List ℕ → List ℕ
head_of letter variant id rest =
    0x4d ∷ 0x4d ∷ letter ∷ 0x31 ∷ variant_byte variant ∷ id ∷ 0 ∷ 0 ∷ rest

-- behind `MMW1`: the nonce, the key and the barrier; 104 bytes in all
unfoldable pub waiting_spelling : WaitingCell → List ℕ
waiting_spelling cell =
    head_of 0x57 cell.variant cell.module (cell.nonce ++ (cell.key ++ cell.barrier))

-- behind `MMX1`: the summary or anchor, the key and the nonce; 104 bytes in all
unfoldable pub retired_spelling : RetiredCell → List ℕ
retired_spelling cell =
    head_of 0x58 cell.variant cell.module (cell.summary.bytes ++ (cell.key ++ cell.nonce))

abbrev pub moved_spelling : MovedCell → List ℕ
moved_spelling (moved.Live cell) = cell_spelling cell
moved_spelling (moved.Waiting cell) = waiting_spelling cell
moved_spelling (moved.Retired cell) = retired_spelling cell

-- in Basic a live cell has a clear flag, and a live or waiting one a zero barrier
abbrev pub FitsMoved : MovedCell → Type 0
FitsMoved (moved.Live cell) = FitsVariant cell.variant cell.flag cell.barrier
FitsMoved (moved.Waiting cell) = FitsVariant cell.variant false cell.barrier
FitsMoved (moved.Retired cell) = Unit {0}

pub record IsWaiting (cell : WaitingCell) : Type 0 where
  pub nonce : length cell.nonce ≡ 32
  pub key : length cell.key ≡ 32
  pub barrier : length cell.barrier ≡ 32
  pub variant : FitsVariant cell.variant false cell.barrier

pub record IsRetired (cell : RetiredCell) : Type 0 where
  pub summary : length cell.summary.bytes ≡ 32
  pub key : length cell.key ≡ 32
  pub nonce : length cell.nonce ≡ 32

abbrev pub IsMoved : MovedCell → Type 0
IsMoved (moved.Live cell) = IsCell cell
IsMoved (moved.Waiting cell) = IsWaiting cell
IsMoved (moved.Retired cell) = IsRetired cell

-- the bytes are this cell's
abbrev pub SpellsMoved : List ℕ → MovedCell → Type 0
SpellsMoved bytes cell = IsMoved cell × (bytes ≡ moved_spelling cell)

-- The only cell that the bytes may spell: the third byte tells the form, and the fields stand at
-- fixed places.
abbrev pub waiting_cell_in : List ℕ → WaitingCell
waiting_cell_in bytes = record {
  variant = variant_in bytes;
  «module» = slice_index bytes 5;
  nonce = part 8 bytes;
  key = part 40 bytes;
  barrier = part 72 bytes;
}

abbrev pub retired_cell_in : List ℕ → RetiredCell
retired_cell_in bytes = record {
  variant = variant_in bytes;
  «module» = slice_index bytes 5;
  summary = digest_at 8 bytes;
  key = part 40 bytes;
  nonce = part 72 bytes;
}

abbrev pub live_cell_in : List ℕ → Cell
live_cell_in bytes = record {
  variant = variant_in bytes;
  «module» = slice_index bytes 5;
  flag = slice_index bytes 6 == 1;
  summary = digest_at 8 bytes;
  key = part 40 bytes;
  barrier = part 72 bytes;
}

abbrev pub moved_cell_in : List ℕ → MovedCell
moved_cell_in bytes =
    if slice_index bytes 2 == 0x57 then moved.Waiting (waiting_cell_in bytes)
    else (if slice_index bytes 2 == 0x58 then moved.Retired (retired_cell_in bytes)
    else moved.Live (live_cell_in bytes))

abbrev pub fits_variant : Variant → Bool → List ℕ → Bool
fits_variant Basic flag barrier = not flag && bytes_eq barrier zero_bytes
fits_variant Opt flag barrier = true

abbrev pub is_fit_for_variant : MovedCell → Bool
is_fit_for_variant (moved.Live cell) = fits_variant cell.variant cell.flag cell.barrier
is_fit_for_variant (moved.Waiting cell) = fits_variant cell.variant false cell.barrier
is_fit_for_variant (moved.Retired cell) = true

-- whether the cell fits its variant, and the bytes are its own
abbrev pub is_spelled_by : List ℕ → MovedCell → Bool
is_spelled_by bytes cell = is_fit_for_variant cell && bytes_eq (moved_spelling cell) bytes

abbrev pub moved_cell_by : List ℕ → MovedCell → Result MovedCell CellFault
moved_cell_by bytes cell = if is_spelled_by bytes cell then Ok cell else Err Unspelled

-- what these 104 bytes are, as a cell
unfoldable pub moved_cell_of : List ℕ → Result MovedCell CellFault
moved_cell_of bytes = if bytes_eq bytes blank_cell then Err Blank else moved_cell_by bytes
    (moved_cell_in bytes)

-- A cell is read exactly where 104 bytes spell it.
abbrev pub CellsAreRead : Type 0
CellsAreRead = (bytes : List ℕ) (cell : MovedCell) → length bytes ≡ cell_length →
    (moved_cell_of bytes ≡ Ok cell) ↔ SpellsMoved bytes cell

-- How often the cell is to be written: by one call, and by calls that are made one after another.
-- With it: how the faults of a store and the refusals of a call are told.
use Rattle.std.specs.Prelude.{◌≡◌, ◌+◌, ◌≤◌, ℕ, zero, suc, Bool, true, false, List, Option, None, Some, Result, Ok, Err}
use Rattle.mm_model.specs.declared.refusal.Refusal.TheVariants as refusal
use Rattle.mm_store.specs.declared.fault.StoreFault.TheVariants as fault
use Rattle.mm_recovery.specs.Below.{Variant, Basic, Opt, IsCell, cell_spelling, Cell, Standing, StepFault, Answer, Refusal, fault_of}
use Rattle.mm_recovery.specs.Below.{count_after_more, CellIsWrittenAtMostOnce, StoreFault}
use Rattle.mm_recovery.specs.declared.fault.HostFault.{HostFault}
use Rattle.mm_recovery.specs.declared.fault.HostFault.TheVariants.{Refused, Memory, Store}
use Rattle.mm_recovery.specs.declared.resuming.Resumed.{Resumed}
use Rattle.mm_recovery.specs.declared.resuming.Resumed.TheVariants.{Start, Answered}

-- The platform tells a cell with this flag, which says whether a segment is open.
pub record TellsFlag (standing : Standing) (flag : Bool) : Type 0 where
  pub cell : Cell
  pub is_cell : IsCell cell
  pub tells : standing.cell ≡ Some (cell_spelling cell)
  pub shows : cell.flag ≡ flag

-- of so many new requests, those that open a segment: the first, where none is open
abbrev pub openings : Bool → ℕ → ℕ
openings false (suc requests) = 1
openings flag requests = 0

-- whether one is open after them
abbrev pub is_open_after : Bool → ℕ → Bool
is_open_after false zero = false
is_open_after flag requests = true

-- In Opt, for so many new requests: over any platform the cell was to be written at most once for
-- each. Over one that tells its cell, at most once in all; and by the cell's flag, exactly for the
-- request that opened a segment.
pub record CellIsWrittenByOpening (requests : ℕ) (before after : Standing) : Type 0 where
  pub each : after.writes ≤ before.writes + requests
  pub once : (bytes : List ℕ) → before.cell ≡ Some bytes → CellIsWrittenAtMostOnce before after
  pub opens : (flag : Bool) → TellsFlag before flag
      → after.writes ≡ count_after_more (openings flag requests) before.writes

-- In Basic it was to be written once for each.
abbrev pub CellIsWrittenFor : Variant → ℕ → Standing → Standing → Type 0
CellIsWrittenFor Basic requests before after =
    after.writes ≡ count_after_more requests before.writes
CellIsWrittenFor Opt requests before after = CellIsWrittenByOpening requests before after

-- a repeat is no new request
abbrev pub new_requests_by : Bool → ℕ
new_requests_by true = 0
new_requests_by false = 1

-- A refused request is new, and came to the step that writes, only where a device failed.
abbrev pub IsNewAt : Option StepFault → ℕ → Type 0
IsNewAt None requests = requests ≡ 0
IsNewAt (Some fault) requests = requests ≤ 1

abbrev pub IsNewIn : Result Answer Refusal → ℕ → Type 0
IsNewIn (Ok answer) requests = requests ≡ new_requests_by answer.again
IsNewIn (Err why) requests = IsNewAt (fault_of why) requests

-- An answered call of Opt found a cell, and left its flag set where the request was new, as far as
-- the platform tells.
pub record LeavesFlag (requests : ℕ) (before after : Standing) : Type 0 where
  pub finds : (bytes : List ℕ) → before.cell ≡ Some bytes → (flag : Bool) × TellsFlag before flag
  pub leaves : (flag : Bool) → TellsFlag before flag → TellsFlag after (is_open_after flag requests)

abbrev pub AnswerLeavesFlag : Variant → Result Answer Refusal → ℕ → Standing → Standing → Type 0
AnswerLeavesFlag Opt (Ok answer) requests before after = LeavesFlag requests before after
AnswerLeavesFlag variant result requests before after = Unit {0}

-- One call, which commits a new request or none.
pub record CallWrites (variant : Variant) (result : Result Answer Refusal)
    (before after : Standing) : Type 0 where
  pub requests : ℕ
  pub new : IsNewIn result requests
  pub writes : CellIsWrittenFor variant requests before after
  pub leaves : AnswerLeavesFlag variant result requests before after

-- whether what was answered last is new
abbrev pub new_requests_at : Resumed → ℕ
new_requests_at (Start first) = 0
new_requests_at (Answered answer) = new_requests_by answer.again

-- Among what waited and wasn't answered one request may be new, and come to its writing step: where
-- memory was wanting, or the store or a device failed.
abbrev pub IsNewOf : Result Resumed HostFault → ℕ → Type 0
IsNewOf (Ok it) requests = requests ≡ new_requests_at it
IsNewOf (Err (Refused why)) requests = IsNewAt (fault_of why) requests
IsNewOf came requests = requests ≤ 1

-- How often a recovery, or one more request, is to write the cell: for what was asked, where that
-- is new.
pub record RequestWrites (variant : Variant) (before after : Standing)
    (result : Result Resumed HostFault) : Type 0 where
  pub requests : ℕ
  pub new : IsNewOf result requests
  pub writes : CellIsWrittenFor variant requests before after

-- How the faults of a store and the refusals of a call are told.

abbrev pub store_fault_as : StoreFault → HostFault
store_fault_as fault.Memory = Memory
store_fault_as fault.Failed = Store

-- want of memory is told as such
abbrev pub refusal_fault : Refusal → HostFault
refusal_fault refusal.Memory = Memory
refusal_fault why = Refused why

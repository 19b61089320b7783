-- What our own devices leave that are killed within a call is what their call may leave.
use Rattle.std.specs.Prelude.{◌≡◌, ◌≤◌, ◌-◌, ◌^◌, ℕ, List, length, None, Option, Some, Result, Err}
use Rattle.mm_bytes.specs.Limits.{next_count}
use Rattle.mm_killed.specs.DeviceCalls.{Cycles, Place, Reads, Steps, Writes, CallLeaves, Code, IsKilledAt, RunsTo}
use Rattle.mm_killed_devices.specs.PageCalls.{PageAnswer, PageCall, PageGoes, PageMayLeave, RawCall, RawGoes, RawMayLeave}
use Rattle.mm_pages.specs.PageStanding.{PageStanding, store_standing_on}
use Rattle.mm_platform.specs.Standing.{Standing, Act, PowerCycles, StepGoes, writes_after}
use Rattle.mm_platform.specs.declared.fault.StepFault.{StepFault}
use Rattle.mm_platform.specs.declared.fault.StepFault.TheVariants.{Off}
use Rattle.mm_store.specs.StoreStanding.{ReadsSlot, WritesSlot, StoreStanding}
use Rattle.mm_store.specs.declared.fault.StoreFault.{StoreFault}
use Rattle.mm_store.specs.declared.fault.StoreFault.TheVariants.{Failed}
use Rattle.mm_twocell.specs.TornMemory.{standing_as_one}

-- The memory of the two cells: it doesn't tell its plan, and has 209 bytes where it tells them.
pub record IsMemory (at : Standing) : Type 0 where
  pub untold : at.plan ≡ None
  pub whole : (bytes : List ℕ) → at.cell ≡ Some bytes → length bytes ≡ 209

-- a step of the two cells, or a loss of power, as a tree of calls of what they stand on
abbrev pub CellCode : Type 0
CellCode = Code RawCall (Result (List ℕ) StepFault) (Option StepFault)

-- A standing that this relation allows tells the same, but for counts and room.
pub record LeavesStanding (May : Standing → Type 0) (left : Standing) : Type 0 where
  pub told : Standing
  pub may : May told
  pub cell : told.cell ≡ left.cell
  pub items : told.items ≡ left.items
  pub is_on : told.is_on ≡ left.is_on

-- A step of the two cells: each run of it is a step of one cell, as `TwoCell` promises; killed at a
-- call of its memory, it leaves what a step that is killed may leave.
abbrev pub CellStepsStop : Type 0
CellStepsStop =
    (act : Act) (code : CellCode) (old left : Standing) (steps writes : ℕ) →
    ((end : Standing) (fault : Option StepFault) → RunsTo RawGoes code old end fault →
    StepGoes act (standing_as_one old steps writes)
    (standing_as_one end (next_count steps) (writes_after act writes)) fault) →
    IsMemory old → IsKilledAt RawGoes RawMayLeave code old left →
    LeavesStanding (λ told. StepGoes act (standing_as_one old steps writes) told (Some Off))
    (standing_as_one left steps writes)

-- and so does a loss of power
abbrev pub CellCyclesStop : Type 0
CellCyclesStop =
    (code : CellCode) (old left : Standing) (steps writes : ℕ) →
    ((end : Standing) (fault : Option StepFault) → RunsTo RawGoes code old end fault →
    PowerCycles (standing_as_one old steps writes) (standing_as_one end steps writes) fault) →
    IsMemory old → IsKilledAt RawGoes RawMayLeave code old left →
    LeavesStanding (λ told. PowerCycles (standing_as_one old steps writes) told (Some Off))
    (standing_as_one left steps writes)

-- a call of the store of pages, as a tree of calls of its device
abbrev pub PageCode : Type 0 → Type 0
PageCode R = Code PageCall PageAnswer R

pub record LeavesStore (May : StoreStanding → Type 0) (left : StoreStanding) : Type 0 where
  pub told : StoreStanding
  pub may : May told
  pub slots : told.slots ≡ left.slots
  pub is_honest : told.is_honest ≡ left.is_honest
  pub unsynced : told.unsynced ≡ left.unsynced

-- A device of pages that doesn't tell which slots are synced, and counts faults in 64 bits.
pub record CountsAlone (at : PageStanding) : Type 0 where
  pub untold : at.unsynced ≡ None
  pub counts : at.faults ≤ 2 ^ 64 - 1

-- A read and a write of a slot: each run of it is one, as `PageStore` promises; killed at a call of
-- the device, it leaves what one that is killed may leave.
abbrev pub PageReadsStop : Type 0
PageReadsStop =
    (slot : ℕ) (code : PageCode (Result (List ℕ) StoreFault)) (old left : PageStanding) →
    ((end : PageStanding) (said : Result (List ℕ) StoreFault) → RunsTo PageGoes code old end said →
    ReadsSlot slot (store_standing_on old) (store_standing_on end) said) →
    CountsAlone old → IsKilledAt PageGoes PageMayLeave code old left →
    LeavesStore (λ told. ReadsSlot slot (store_standing_on old) told (Err Failed))
    (store_standing_on left)

abbrev pub PageWritesStop : Type 0
PageWritesStop =
    (slot : ℕ) (bytes : List ℕ) (code : PageCode (Result Unit StoreFault))
    (old left : PageStanding) →
    ((end : PageStanding) (said : Result Unit StoreFault) → RunsTo PageGoes code old end said →
    WritesSlot slot bytes (store_standing_on old) (store_standing_on end) said) →
    CountsAlone old → IsKilledAt PageGoes PageMayLeave code old left →
    LeavesStore (λ told. WritesSlot slot bytes (store_standing_on old) told (Err Failed))
    (store_standing_on left)

-- So a program that is killed within a device is killed at that device's call.
pub record CallsAreLeft (at left : Place) : Type 0 where
  pub steps : (act : Act)
      → LeavesStanding (λ told. StepGoes act at.standing told (Some Off)) left.standing
      → left ≡ record at { standing = left.standing } → CallLeaves (Steps act) at left
  pub cycles : LeavesStanding (λ told. PowerCycles at.standing told (Some Off)) left.standing
      → left ≡ record at { standing = left.standing } → CallLeaves Cycles at left
  pub reads : (slot : ℕ) → LeavesStore (λ told. ReadsSlot slot at.kept told (Err Failed)) left.kept
      → left ≡ record at { kept = left.kept } → CallLeaves (Reads slot) at left
  pub writes : (slot : ℕ) (bytes : List ℕ)
      → LeavesStore (λ told. WritesSlot slot bytes at.kept told (Err Failed)) left.kept
      → left ≡ record at { kept = left.kept } → CallLeaves (Writes slot bytes) at left

abbrev pub KillsReachCalls : Type 0
KillsReachCalls = (at left : Place) → CallsAreLeft at left

-- What a first start comes to. With it: how the faults of the devices are told by a first start;
-- the steps by which a platform with a blank cell, and a store, are set up.
use Rattle.std.specs.Io.KnownBytes.{Consumes, IsAtEnd}
use Rattle.std.specs.List.{Contains}
use Rattle.std.specs.Option.{option_map}
use Rattle.std.specs.Prelude.{◌≡◌, ◌≤◌, ◌<◌, ◌↔◌, ℕ, Bool, true, false, IsTrue, List, [], ◌∷◌, length, take, drop, Option, Some, Result, Ok}
use Rattle.std.specs.Prelude.{Err, IfOk, MatchResult, ◌⊎◌, ◌≢◌, map, None}
use Rattle.std.specs.Result.{result_err}
use Rattle.mm_store.specs.declared.fault.StoreFault.TheVariants as fault
use Rattle.mm_recovery.specs.Below.{StoreFault, CountsFaults, Failed, Variant, blank_cell, cell_spelling, Standing, ReadCell, WriteCell}
use Rattle.mm_recovery.specs.Below.{StepGoes, StepFault, Meaning, first_history, Instance, cell_of, issued_bytes, instance_by, WritesSlot}
use Rattle.mm_recovery.specs.Below.{StoreStanding, CountRose, start_message, Basic, Opt, item_values, Batch, History, Value, StandsFor}
use Rattle.mm_recovery.specs.Below.{IsWithin, Slots, UnsyncedSlots, synced_slots}
use Rattle.mm_recovery.specs.declared.init_fault.InitFault.{InitFault}
use Rattle.mm_recovery.specs.declared.init_fault.InitFault.TheVariants.{Memory, Store, Platform, Already, ReadFault, Short}
use Rattle.mm_recovery.specs.HostStanding.{HostStanding, FitsHistory}

-- How the faults of the devices are told by a first start.

abbrev pub init_fault_as : StoreFault → InitFault
init_fault_as fault.Memory = Memory
init_fault_as fault.Failed = Store

-- The steps by which a platform with a blank cell, and a store, are set up. Nothing is asked for
-- them.

-- what a first start works with: what stands on the platform, what the store holds, and of the
-- source of entropy what is left, where it tells that, and its count of faults
pub record Devices : Type 0 where
  pub platform : Standing
  pub store : StoreStanding
  pub left : Option (List ℕ)
  pub source_faults : ℕ

abbrev pub devices : Standing → StoreStanding → (left : Option (List ℕ)) (source_faults : ℕ)
    → Devices
devices platform store left source_faults =
    record { platform = platform; store = store; left = left; source_faults = source_faults }

-- those of a host among them
abbrev pub host_among : Devices → HostStanding
host_among at = record { standing = at.platform; kept = at.store }

-- the cell is read, and told to be blank exactly where it is
pub record LooksAtCell (old new : Standing) (is_blank : Result Bool StepFault) : Type 0 where
  pub goes : StepGoes ReadCell old new (result_err is_blank)
  pub tells : IfOk is_blank (λ blank. (cell : List ℕ) → old.cell ≡ Some cell
      → IsTrue blank ↔ (cell ≡ blank_cell))

-- up to 64 bytes are taken, fewer only where the input ended; where a call fails some may have been
pub record TakesBytes (old new : Option (List ℕ)) (before now : ℕ)
    (taken : Result (List ℕ) Failed) : Type 0 where
  pub most : IfOk taken (λ bytes. length bytes ≤ 64)
  pub consumed : MatchResult taken (λ bytes. Consumes old new bytes)
      (λ _. (bytes : List ℕ) × Consumes old new bytes)
  pub ended : IfOk taken (λ bytes. length bytes < 64 → IsAtEnd new)
  pub counted : CountsFaults before now taken

-- what was taken into these bytes, by the count
abbrev pub taken_bytes : List ℕ → Result ℕ Failed → Result (List ℕ) Failed
taken_bytes bytes (Ok count) = Ok (take count bytes)
taken_bytes bytes (Err why) = Err why

-- the instance of a variant whose key is the first 32 bytes taken, and whose barrier the 32 after
-- them
abbrev pub instance_from : Variant → Meaning → List ℕ → Instance
instance_from variant meaning secrets =
    instance_by variant meaning (take 32 secrets) (drop 32 secrets)

-- a slot, and the bytes that are put in it
abbrev pub SlotPut : Type 0
SlotPut = ℕ × List ℕ

-- what a new store gets, in this order: three slots are empty, and the first one holds the snapshot
abbrev pub first_puts : List ℕ → List SlotPut
first_puts snapshot = (1, []) ∷ (2, []) ∷ (3, []) ∷ (0, snapshot) ∷ []

-- Each is written where those before it were, up to the first that fails.
abbrev pub GoesAfterPut : Result Unit StoreFault → StoreStanding → StoreStanding
    → Result Unit StoreFault → Type 0 → Type 0
GoesAfterPut (Err why) middle new result Rest = (new ≡ middle) × (result ≡ Err why)
GoesAfterPut (Ok _) middle new result Rest = Rest

abbrev pub PutsAll : List SlotPut → StoreStanding → StoreStanding → Result Unit StoreFault → Type 0
PutsAll [] old new result = (new ≡ old) × (result ≡ Ok tt)
PutsAll (put ∷ puts) old new result =
    (middle : StoreStanding) × (written : Result Unit StoreFault)
    × WritesSlot put.0 put.1 old middle written
    × GoesAfterPut written middle new result (PutsAll puts middle new result)

-- the cell is written
abbrev pub result_of_write : Result Unit StepFault → Result Unit InitFault
result_of_write (Ok _) = Ok tt
result_of_write (Err fault) = Err (Platform fault)

pub record WritesCell (cell : List ℕ) (before after : Standing)
    (result : Result Unit InitFault) : Type 0 where
  pub written : Result Unit StepFault
  pub goes : StepGoes (WriteCell cell) before after (result_err written)
  pub gives : result ≡ result_of_write written

-- The store is set up, and then the cell is written.
abbrev pub GoesAfterAllPuts : List ℕ → Standing → Standing → Result Unit StoreFault
    → Result Unit InitFault
    → Type 0
GoesAfterAllPuts cell before after (Err why) result =
    (after ≡ before) × (result ≡ Err (init_fault_as why))
GoesAfterAllPuts cell before after (Ok _) result = WritesCell cell before after result

pub record SetsUpBoth (cell snapshot : List ℕ) (old new : HostStanding)
    (result : Result Unit InitFault) : Type 0 where
  pub stored : Result Unit StoreFault
  pub puts : PutsAll (first_puts snapshot) old.kept new.kept stored
  pub goes : GoesAfterAllPuts cell old.standing new.standing stored result

-- The first cell and snapshot of the instance are made, unless memory is wanting.
abbrev pub SetsUp : Instance → HostStanding → HostStanding → Result Unit InitFault → Type 0
SetsUp i old new result =
    ((new ≡ old) × (result ≡ Err Memory))
    ⊎ SetsUpBoth (cell_spelling (cell_of i first_history)) (issued_bytes i first_history) old new
    result

-- With 64 bytes the platform and the store are set up for their instance.
abbrev pub GoesAfterTaking : Variant → Meaning → Devices → Devices → Result (List ℕ) Failed
    → Result Unit InitFault → Type 0
GoesAfterTaking variant meaning middle after (Err _) result =
    (after ≡ middle) × (result ≡ Err ReadFault)
GoesAfterTaking variant meaning middle after (Ok secrets) result =
    ((length secrets < 64) × (after ≡ middle) × (result ≡ Err (Short (length secrets))))
    ⊎ ((length secrets ≡ 64)
    × (after ≡ record middle { platform = after.platform; store = after.store })
    × SetsUp (instance_from variant meaning secrets) (host_among middle) (host_among after) result)

pub record TakesAndSetsUp (variant : Variant) (meaning : Meaning) (before after : Devices)
    (result : Result Unit InitFault) : Type 0 where
  pub left : Option (List ℕ)
  pub source_faults : ℕ
  pub taken : Result (List ℕ) Failed
  pub takes : TakesBytes before.left left before.source_faults source_faults taken
  pub goes : GoesAfterTaking variant meaning
      (record before { left = left; source_faults = source_faults }) after taken result

-- The call: on a blank cell it takes the bytes.
abbrev pub GoesAfterLooking : Variant → Meaning → Devices → Devices → Result Bool StepFault
    → Result Unit InitFault → Type 0
GoesAfterLooking variant meaning middle after (Err fault) result =
    (after ≡ middle) × (result ≡ Err (Platform fault))
GoesAfterLooking variant meaning middle after (Ok false) result =
    (after ≡ middle) × (result ≡ Err Already)
GoesAfterLooking variant meaning middle after (Ok true) result =
    TakesAndSetsUp variant meaning middle after result

pub record InitGoes (variant : Variant) (meaning : Meaning) (before after : Devices)
    (result : Result Unit InitFault) : Type 0 where
  pub platform : Standing
  pub is_blank : Result Bool StepFault
  pub looks : LooksAtCell before.platform platform is_blank
  pub goes : GoesAfterLooking variant meaning (record before { platform = platform }) after is_blank
      result

-- What a first start comes to.

-- the first history, on a register that others extended by these values
abbrev pub first_history_on : List (List ℕ) → History
first_history_on values = record first_history { items = map Value values }

-- the values that the register shows; in Basic it isn't read
abbrev pub ShowsValues : Variant → Standing → List (List ℕ) → Type 0
ShowsValues Basic standing values = values ≡ []
ShowsValues Opt standing values = option_map item_values standing.items ≡ Some values

-- what a new store holds
abbrev pub first_slots : Instance → Slots
first_slots i = record { zero = issued_bytes i first_history; one = []; two = []; three = [] }

-- Nothing waits in a new store, and its slots fit the first history, of which holds what is asked
-- of each.
pub record IsFirstStore (i : Instance) (y : History) : Type 0 where
  pub fits : FitsHistory i (first_slots i) y
  pub nothing_waits : fits.waiting ≡ None
  pub within : (all others : List (List ℕ)) (asked : List Batch)
      → Contains all (start_message i.variant i.meaning.id) →
      IsWithin all others asked i y

-- 64 bytes were taken. Where the platform tells its cell, and in Opt the register, it stands for
-- the first history of their instance; and an honest store that tells its slots holds the first
-- ones. A store stays as honest as it was, and where it tells which slots are synced, all are.
pub record InstanceBegins (variant : Variant) (meaning : Meaning)
    (before after : Devices) : Type 0 where
  pub secrets : List ℕ
  pub counted : length secrets ≡ 64
  pub taken : Consumes before.left after.left secrets
  pub stands : (cell : List ℕ) (values : List (List ℕ)) → before.platform.cell ≡ Some cell →
      ShowsValues variant after.platform values
      → StandsFor (instance_from variant meaning secrets) after.platform (first_history_on values)
  pub honest : after.store.is_honest ≡ before.store.is_honest
  pub stores : (slots : Slots) → before.store.is_honest ≡ true → before.store.slots ≡ Some slots →
      after.store.slots ≡ Some (first_slots (instance_from variant meaning secrets))
  pub synced : (marks : UnsyncedSlots) → before.store.unsynced ≡ Some marks
      → after.store.unsynced ≡ Some synced_slots
  pub first : (values : List (List ℕ))
      → IsFirstStore (instance_from variant meaning secrets) (first_history_on values)

-- All is set up after Ok. After any fault the cell is as before, so that the call may be made
-- again; or else the platform failed at the last step, and all is set up.
abbrev pub InitLeaves : Variant → Meaning → Devices → Devices → Result Unit InitFault → Type 0
InitLeaves variant meaning before after (Ok _) = InstanceBegins variant meaning before after
InitLeaves variant meaning before after (Err (Platform fault)) =
    (after.platform.cell ≡ before.platform.cell) ⊎ InstanceBegins variant meaning before after
InitLeaves variant meaning before after result = after.platform.cell ≡ before.platform.cell

-- Unless the platform failed, Already is told exactly where the cell isn't blank.
abbrev pub TellsByCell : List ℕ → Result Unit InitFault → Type 0
TellsByCell cell (Err Already) = cell ≢ blank_cell
TellsByCell cell (Err (Platform fault)) = Unit {0}
TellsByCell cell result = cell ≡ blank_cell

abbrev pub TellsUse : Devices → Result Unit InitFault → Type 0
TellsUse before result = (cell : List ℕ) → before.platform.cell ≡ Some cell
    → TellsByCell cell result

-- whose fault is told
abbrev pub is_platforms : Result Unit InitFault → Bool
is_platforms (Err (Platform fault)) = true
is_platforms result = false

abbrev pub is_sources : Result Unit InitFault → Bool
is_sources (Err ReadFault) = true
is_sources result = false

abbrev pub is_stores : Result Unit InitFault → Bool
is_stores (Err Store) = true
is_stores result = false

-- a count of faults rose, or is as before
abbrev pub CountRisesIf : Bool → ℕ → ℕ → Type 0
CountRisesIf true before now = CountRose before now
CountRisesIf false before now = now ≡ before

-- A device's count of faults rose exactly where its fault is told.
pub record BlamesDevice (before after : Devices) (result : Result Unit InitFault) : Type 0 where
  pub platform : CountRisesIf (is_platforms result) before.platform.faults after.platform.faults
  pub source : CountRisesIf (is_sources result) before.source_faults after.source_faults
  pub store : CountRisesIf (is_stores result) before.store.faults after.store.faults

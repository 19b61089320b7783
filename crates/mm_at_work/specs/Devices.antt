-- What stands on devices in memory: two cells over a memory whose writes tear, and a store over
-- pages. With it: what a first start, and a session behind it, come to over devices in memory; what
-- a session comes to over an old copy of the pages, or over any other pages; what a recovery over
-- devices in memory comes to; what a first start over devices in memory leaves.
use Rattle.std.specs.List.{Contains}
use Rattle.std.specs.Option.{option_map}
use Rattle.std.specs.Prelude.{ℕ, List, true, None, Some, ◌≡◌, ◌++◌, Result, length, take, Option}
use Rattle.mm_base.specs.Input.{lines_of}
use Rattle.mm_base.specs.Streams.{Intake, Supply}
use Rattle.mm_digest.specs.Messages.{start_message}
use Rattle.mm_digest.specs.declared.variant.Variant.{Variant}
use Rattle.mm_digest.specs.declared.variant.Variant.TheVariants.{Basic, Opt}
use Rattle.mm_platform.specs.Standing.{Standing, Item}
use Rattle.mm_twocell.specs.TornMemory.{picked_cell, TornMemory, whole_bytes}
use Rattle.mm_twocell.specs.declared.pair.TwoCell.{TwoCell}
use Rattle.mm_module.specs.Batch.{Batch}
use Rattle.mm_module.specs.Meaning.{Meaning}
use Rattle.mm_model.specs.Chains.{Instance, basic_instance, opt_instance}
use Rattle.mm_model.specs.History.{first_history, History}
use Rattle.mm_model.specs.Messages.{IsClear, AreNoGuards}
use Rattle.mm_model.specs.Standing.{StandsFor, IsGenuine}
use Rattle.mm_call.specs.CallPremises.{IsWithin, AreShown, standing_items}
use Rattle.mm_store.specs.PendingRecord.{PendingRecord}
use Rattle.mm_store.specs.StoreStanding.{StoreStanding, Slots, slot_front, synced_slots}
use Rattle.mm_pages.specs.CachedDevice.{CachedDevice}
use Rattle.mm_pages.specs.PageStanding.{Sheets}
use Rattle.mm_recovery.specs.FirstStart.{Devices, first_slots, IsFirstStore, ShowsValues, first_history_on, instance_from}
use Rattle.mm_recovery.specs.HostStanding.{HostStanding, host_standing, first_offer, IsWaiting, FitsHistory}
use Rattle.mm_recovery.specs.Recovery.{AsksIdly, IsAskedFor, RecoversTo}
use Rattle.mm_recovery.specs.declared.fault.HostFault.{HostFault}
use Rattle.mm_recovery.specs.declared.resuming.Resumed.{Resumed}
use Rattle.mm_host.specs.AnySlots.{AreAskedInTurn, AsksNothingNew, EndsRun, requests_with}
use Rattle.mm_host.specs.Continuation.{ContinuesTo, IsInHand, last_bytes_in, served_calls_in}
use Rattle.mm_host.specs.Sessions.{SessionStanding, session_standing, IsSession}
use Rattle.mm_host.specs.declared.fault.SessionFault.{SessionFault}
use Rattle.mm_host_commands.specs.Outside.{Outside, outside}
use Rattle.mm_life.specs.Stages.{ProgramStanding, program_standing}

-- The cell is the one that the last of the memory's 209 bytes picks; the register, power, room and
-- faults are those of the memory's platform. No plan is told.
abbrev pub two_cells : TwoCell TornMemory → Standing
two_cells it = record {
  cell = option_map picked_cell (whole_bytes it.raw.standing.cell);
  items = it.raw.standing.items;
  is_on = it.raw.standing.is_on;
  steps = it.steps;
  writes = it.writes;
  cycles = it.raw.standing.cycles;
  spare = it.raw.standing.spare;
  faults = it.raw.standing.faults;
  plan = None;
}

-- the slots are the bytes of the pages, which are told, and honest; it is told which of them are
-- synced
abbrev pub store_in_pages : CachedDevice Sheets → StoreStanding
store_in_pages store = record {
  slots = Some store.device.slots;
  is_honest = true;
  faults = store.device.faults;
  unsynced = Some store.device.unsynced;
}

-- the devices of a host in memory: its platform and its pages
pub record MemoryHost : Type 0 where
  pub platform : TwoCell TornMemory
  pub pages : CachedDevice Sheets

abbrev pub memory_host : TwoCell TornMemory → CachedDevice Sheets → MemoryHost
memory_host platform pages = record { platform = platform; pages = pages }

-- what these tell
abbrev pub host_by : MemoryHost → HostStanding
host_by it = host_standing (two_cells it.platform) (store_in_pages it.pages)

-- what the objects of a session tell in memory, and of these what a program's own ones do
abbrev pub session_in_memory : TwoCell TornMemory → CachedDevice Sheets
    → (left received : List ℕ) → SessionStanding
session_in_memory it store left received =
    session_standing (two_cells it) (store_in_pages store) (Some left) (Some received)

abbrev pub program_in_memory : CachedDevice Sheets → (left received : List ℕ) → ProgramStanding
program_in_memory store left received =
    program_standing (store_in_pages store) (Some left) (Some received)

-- the objects of a session in memory: its platform, its pages, what is left of its input, and what
-- its output received
pub record MemorySession : Type 0 where
  pub platform : TwoCell TornMemory
  pub pages : CachedDevice Sheets
  pub left : List ℕ
  pub received : List ℕ

abbrev pub memory_session : TwoCell TornMemory → CachedDevice Sheets → (left received : List ℕ)
    → MemorySession
memory_session platform pages left received =
    record { platform = platform; pages = pages; left = left; received = received }

-- what these tell
abbrev pub session_by : MemorySession → SessionStanding
session_by it = session_in_memory it.platform it.pages it.left it.received

-- what a first start works with
abbrev pub first_devices : TwoCell TornMemory → CachedDevice Sheets → Supply → Devices
first_devices it store entropy = record {
  platform = two_cells it;
  store = store_in_pages store;
  left = Some entropy.left;
  source_faults = entropy.faults;
}

-- what the objects tell that a host hands a command in memory: the pages, an input, a source of
-- entropy, and an output
abbrev pub memory_objects : Standing → CachedDevice Sheets → (input entropy : Supply) → Intake
    → Outside
memory_objects standing store input entropy out =
    outside standing (store_in_pages store) (Some input.left) input.faults (Some entropy.left)
    entropy.faults (Some out.received) out.faults

-- What a first start, and a session behind it, come to over devices in memory.

-- What is asked of the lines: they are asked one after another from the first history, with what a
-- new store offers first; and no two messages of this share a digest.
pub record CanBegin (all others : List (List ℕ)) (asked : List Batch) (i : Instance)
    (lines : List (List ℕ)) : Type 0 where
  pub clear : IsClear all
  pub apart : AreNoGuards i.barrier others asked
  pub started : Contains all (start_message i.variant i.meaning.id)
  pub follow : AreAskedInTurn all asked i first_history (first_offer (first_slots i) None) lines

-- 64 bytes were taken, of which the first 32 are the key; and a session of Basic was held. What it
-- told is one run of the module from the empty list, and so on. Nothing is asked of the devices.
pub record BeginsAndServes (meaning : Meaning) (entropy entropy' : List ℕ)
    (old new : MemorySession) (result : Result Unit SessionFault) : Type 0 where
  pub secrets : List ℕ
  pub counted : length secrets ≡ 64
  pub taken : entropy ≡ secrets ++ entropy'
  pub middle : TwoCell TornMemory
  pub store : CachedDevice Sheets
  pub session : IsSession Basic meaning (session_in_memory middle store old.left old.received)
      (session_by new) result
  pub continues : (all others : List (List ℕ)) (asked : List Batch)
      → CanBegin all others asked (basic_instance meaning (take 32 secrets)) (lines_of old.left) →
      ContinuesTo all others asked (basic_instance meaning (take 32 secrets)) first_history None
      (two_cells new.platform) (store_in_pages new.pages)
      (served_calls_in None session.goes) (IsInHand None session.goes)
      (last_bytes_in session.goes) result

-- What a session comes to over an old copy of the pages, or over any other pages.

-- What is asked where it starts: the picked cell, and in Opt the register, stand for the history;
-- no two messages of it, and of what waits in the copy and the lines, share a digest; and where the
-- snapshot that the copy offers first is right, it names a position of the history.
pub record CanServeCopy (all others : List (List ℕ)) (asked : List Batch) (i : Instance)
    (y : History) (it : TwoCell TornMemory) (slots : Slots) (lines : List (List ℕ)) : Type 0 where
  pub waiting : Option PendingRecord
  pub is_waiting : IsWaiting (slot_front slots 2) (slot_front slots 3) waiting
  pub stands : StandsFor i (two_cells it) y
  pub clear : IsClear all
  pub apart : AreNoGuards i.barrier others asked
  pub within : IsWithin all others asked i y
  pub genuine : IsGenuine i y (first_offer slots waiting)
  pub follow : AreAskedInTurn all asked i y (first_offer slots waiting)
      (requests_with waiting lines)

-- What it told is one run of the module from the history on, whatever the copy holds. In Opt what
-- others did is known by the register's items, unless nothing new is asked.
abbrev pub CopyRunsOnce : (variant : Variant) (meaning : Meaning) (old new : MemorySession)
    (result : Result Unit SessionFault)
    → IsSession variant meaning (session_by old) (session_by new) result → Type 0
CopyRunsOnce Basic meaning old new result s =
    (key : List ℕ) (y : History) (all others : List (List ℕ)) (asked : List Batch) →
    (can : CanServeCopy all others asked (basic_instance meaning key) y old.platform
    old.pages.device.slots (lines_of old.left)) →
    EndsRun all others asked (basic_instance meaning key) y
    (first_offer old.pages.device.slots can.waiting) (two_cells new.platform)
    (served_calls_in can.waiting s.goes) (IsInHand can.waiting s.goes) (last_bytes_in s.goes) result
CopyRunsOnce Opt meaning old new result s =
    (key barrier : List ℕ) (y : History) (all others : List (List ℕ)) (asked : List Batch)
    (items more : List Item) →
    (can : CanServeCopy all others asked (opt_instance meaning key barrier) y old.platform
    old.pages.device.slots (lines_of old.left)) →
    (two_cells old.platform).items ≡ Some items
    → (two_cells new.platform).items ≡ Some (standing_items y.is_open items ++ more) →
    ((AsksNothingNew (opt_instance meaning key barrier) y
    (first_offer old.pages.device.slots can.waiting)
    (requests_with can.waiting (lines_of old.left)) → ⊥)
    → AreShown all others (opt_instance meaning key barrier) y more) →
    EndsRun all others asked (opt_instance meaning key barrier) y
    (first_offer old.pages.device.slots can.waiting) (two_cells new.platform)
    (served_calls_in can.waiting s.goes) (IsInHand can.waiting s.goes) (last_bytes_in s.goes) result

-- The pages are the copy when it starts.
pub record ServesCopy (variant : Variant) (meaning : Meaning) (old new : MemorySession)
    (result : Result Unit SessionFault) : Type 0 where
  pub session : IsSession variant meaning (session_by old) (session_by new) result
  pub one_run : CopyRunsOnce variant meaning old new result session

-- What a recovery over devices in memory comes to.

-- What is asked: the picked cell, and in Opt the register, stand for the history; the pages fit it;
-- and no two messages of it and of the request that waits share a digest. Nothing is asked of the
-- devices themselves.
pub record CanRecoverInMemory (all others : List (List ℕ)) (asked : List Batch) (i : Instance)
    (y : History) (it : MemoryHost) : Type 0 where
  pub stands : StandsFor i (two_cells it.platform) y
  pub fits : FitsHistory i it.pages.device.slots y
  pub clear : IsClear all
  pub apart : AreNoGuards i.barrier others asked
  pub within : IsWithin all others asked i y
  pub is_asked : IsAskedFor all asked i it.pages.device.slots fits.waiting

-- From every history, under every key, and in Opt under every barrier, where what others did is
-- known by the register's items, unless it asks idly.
abbrev pub RecoversInMemory : Variant → Meaning → (old new : MemoryHost)
    → Result Resumed HostFault → Type 0
RecoversInMemory Basic meaning old new result =
    (key : List ℕ) (y : History) (all others : List (List ℕ)) (asked : List Batch)
    (can : CanRecoverInMemory all others asked (basic_instance meaning key) y old) →
    RecoversTo all others asked (basic_instance meaning key) y old.pages.device.slots
    can.fits.waiting (host_by new) result
RecoversInMemory Opt meaning old new result =
    (key barrier : List ℕ) (y : History) (all others : List (List ℕ)) (asked : List Batch)
    (items more : List Item)
    (can : CanRecoverInMemory all others asked (opt_instance meaning key barrier) y old) →
    (two_cells old.platform).items ≡ Some items
    → (two_cells new.platform).items ≡ Some (standing_items y.is_open items ++ more) →
    ((AsksIdly (opt_instance meaning key barrier) y old.pages.device.slots can.fits.waiting → ⊥)
    → AreShown all others (opt_instance meaning key barrier) y more) →
    RecoversTo all others asked (opt_instance meaning key barrier) y old.pages.device.slots
    can.fits.waiting (host_by new) result

-- What a first start over devices in memory leaves.

-- 64 bytes were taken. Whatever the memory and the pages held before, the picked cell, and in Opt
-- the register, stand for the first history of the instance of these bytes; and the pages are its
-- first slots, which fit that history. All of them are synced.
pub record StartsInMemory (variant : Variant) (meaning : Meaning) (after : TwoCell TornMemory)
    (new : CachedDevice Sheets)
    (left left' : List ℕ) : Type 0 where
  pub secrets : List ℕ
  pub counted : length secrets ≡ 64
  pub taken : left ≡ secrets ++ left'
  pub stands : (values : List (List ℕ)) → ShowsValues variant (two_cells after) values →
      StandsFor (instance_from variant meaning secrets) (two_cells after) (first_history_on values)
  pub slots : new.device.slots ≡ first_slots (instance_from variant meaning secrets)
  pub synced : new.device.unsynced ≡ synced_slots
  pub first : (values : List (List ℕ))
      → IsFirstStore (instance_from variant meaning secrets) (first_history_on values)

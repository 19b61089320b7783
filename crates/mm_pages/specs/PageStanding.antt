-- What a device of pages holds. With it: what each call of a device of pages does to what it holds;
-- a device of pages in memory.
use Rattle.std.specs.Option.{option_map}
use Rattle.std.specs.Prelude.{ℕ, Bool, Option, ◌≡◌, true, List, length, Some, Result, Ok, Err, IfOk, OnOk, ◌-◌, false, [], if◌then◌else◌}
use Rattle.std.specs.Result.{is_err}
use Rattle.mm_bytes.specs.Limits.{next_count, CountsFaults}
use Rattle.mm_bytes.specs.declared.fault.Failed.{Failed}
use Rattle.mm_store.specs.StoreStanding.{Slots, UnsyncedSlots, StoreStanding, slot_in, slots_with, unsynced_slots_with_mark}
use Rattle.mm_store.specs.StoreStanding.{slots_with_bytes, is_unsynced_in, unsynced_slots_with, synced_slots}
use Rattle.mm_pages.specs.Rows.{resized_bytes, page_of, bytes_with_page}

-- The slots where the device tells them, whether it is honest, its count of faults, how many reads
-- of pages, writes of pages, writes of lengths and renewals were called; and, where it is told,
-- which slots were changed and not synced since, and of which a change, a sync or a renewal failed
-- and none was renewed since. Of these, what is synced may not be on the disk.
pub record PageStanding : Type 0 where
  pub slots : Option Slots
  pub is_honest : Bool
  pub faults : ℕ
  pub page_reads : ℕ
  pub page_writes : ℕ
  pub length_writes : ℕ
  pub renewals : ℕ
  pub unsynced : Option UnsyncedSlots
  pub doubtful : Option UnsyncedSlots

-- what a store over the device holds
abbrev pub store_standing_on : PageStanding → StoreStanding
store_standing_on paged = record {
  slots = paged.slots;
  is_honest = paged.is_honest;
  faults = paged.faults;
  unsynced = paged.unsynced;
}

-- What each call of a device of pages does to what it holds.

-- reading a slot's length changes nothing, and gives it where the slots are told
pub record ReadsLength (slot : ℕ) (old new : PageStanding) (result : Result ℕ Failed) : Type 0 where
  pub same : new ≡ record old { faults = new.faults }
  pub counted_faults : CountsFaults old.faults new.faults result
  pub gives : IfOk result (λ size. (slots : Slots) → old.slots ≡ Some slots
      → size ≡ length (slot_in slots slot))

-- reading a page changes no slot, and gives the page where the slots are told
pub record ReadsPage (slot page : ℕ) (old new : PageStanding) (into : List ℕ)
    (result : Result Unit Failed) : Type 0 where
  pub same : new ≡ record old { faults = new.faults; page_reads = next_count old.page_reads }
  pub counted_faults : CountsFaults old.faults new.faults result
  pub gives : OnOk result ((slots : Slots) → old.slots ≡ Some slots
      → into ≡ page_of (slot_in slots slot) page)

-- the slots where they are told, one of them changed so
abbrev pub slots_with_change : ℕ → (List ℕ → List ℕ) → Option Slots → Option Slots
slots_with_change slot change slots =
    option_map (λ told. slots_with told slot (change (slot_in told slot))) slots

-- what a write to a slot of an honest device leaves: the change after Ok, and any bytes there after
-- it failed
abbrev pub LeavesSlot : ℕ → (List ℕ → List ℕ) → Option Slots → Option Slots → Result Unit Failed
    → Type 0
LeavesSlot slot change old new (Ok _) = new ≡ slots_with_change slot change old
LeavesSlot slot change old new (Err _) = (left : List ℕ) × (new ≡ slots_with_bytes slot left old)

-- which slots are doubtful after a change or a sync of one: where it failed, that one too
abbrev pub doubtful_after : ℕ → Option UnsyncedSlots → Result Unit Failed → Option UnsyncedSlots
doubtful_after slot marks (Ok _) = marks
doubtful_after slot marks (Err _) = unsynced_slots_with_mark slot true marks

-- a write of a page leaves its slot unsynced, whether it fails or not
pub record WritesPage (slot page : ℕ) (part : List ℕ) (old new : PageStanding)
    (result : Result Unit Failed) : Type 0 where
  pub same : new ≡ record old {
    slots = new.slots;
    faults = new.faults;
    page_writes = next_count old.page_writes;
    unsynced = unsynced_slots_with_mark slot true old.unsynced;
    doubtful = doubtful_after slot old.doubtful result;
  }
  pub counted_faults : CountsFaults old.faults new.faults result
  pub leaves : old.is_honest ≡ true
      → LeavesSlot slot (bytes_with_page page part) old.slots new.slots result

-- and so does a write of a length
pub record SetsLength (slot size : ℕ) (old new : PageStanding)
    (result : Result Unit Failed) : Type 0 where
  pub same : new ≡ record old {
    slots = new.slots;
    faults = new.faults;
    length_writes = next_count old.length_writes;
    unsynced = unsynced_slots_with_mark slot true old.unsynced;
    doubtful = doubtful_after slot old.doubtful result;
  }
  pub counted_faults : CountsFaults old.faults new.faults result
  pub leaves : old.is_honest ≡ true → LeavesSlot slot (resized_bytes size)
      old.slots new.slots result

-- what a sync of a slot of an honest device leaves: all as it was after Ok, and any bytes there
-- after it failed
abbrev pub KeepsSlot : ℕ → Option Slots → Option Slots → Result Unit Failed → Type 0
KeepsSlot slot old new (Ok _) = new ≡ old
KeepsSlot slot old new (Err _) = (left : List ℕ) × (new ≡ slots_with_bytes slot left old)

-- after Ok the slot is synced, and after a sync that failed it is not
pub record SyncsPages (slot : ℕ) (old new : PageStanding)
    (result : Result Unit Failed) : Type 0 where
  pub same : new ≡ record old {
    slots = new.slots;
    faults = new.faults;
    unsynced = unsynced_slots_with_mark slot (is_err result) old.unsynced;
    doubtful = doubtful_after slot old.doubtful result;
  }
  pub counted_faults : CountsFaults old.faults new.faults result
  pub leaves : old.is_honest ≡ true → KeepsSlot slot old.slots new.slots result

-- a renewal changes no slot, as the same bytes are written; after Ok its slot is doubtful no more,
-- and after a renewal that failed it is
pub record RenewsSlot (slot : ℕ) (old new : PageStanding)
    (result : Result Unit Failed) : Type 0 where
  pub same : new ≡ record old {
    faults = new.faults;
    renewals = next_count old.renewals;
    doubtful = unsynced_slots_with_mark slot (is_err result) old.doubtful;
  }
  pub counted_faults : CountsFaults old.faults new.faults result

-- A device of pages in memory.

-- The slots, and what a loss of power leaves of them; the counts of faults, of reads of pages, of
-- writes of pages and of lengths, and of renewals; which slots were changed and not synced since,
-- and which are doubtful, as a change, a sync or a renewal of them failed; the number of calls up
-- to the one that is to fail (none where 0), whether its slot stays as it is, and else what the
-- call leaves there.
pub record Sheets : Type 0 where
  pub slots : Slots
  pub lasting : Slots
  pub faults : ℕ
  pub page_reads : ℕ
  pub page_writes : ℕ
  pub length_writes : ℕ
  pub renewals : ℕ
  pub unsynced : UnsyncedSlots
  pub doubtful : UnsyncedSlots
  pub ahead : ℕ
  pub stays : Bool
  pub leaves : List ℕ

-- a new device in memory
abbrev pub blank_sheets : Sheets
blank_sheets = record {
  slots = record { zero = []; one = []; two = []; three = [] };
  lasting = record { zero = []; one = []; two = []; three = [] };
  faults = 0;
  page_reads = 0;
  page_writes = 0;
  length_writes = 0;
  renewals = 0;
  unsynced = synced_slots;
  doubtful = synced_slots;
  ahead = 0;
  stays = false;
  leaves = [];
}

-- what of it each device of pages has
abbrev pub standing_of_sheets : Sheets → PageStanding
standing_of_sheets s = record {
  slots = Some s.slots;
  is_honest = true;
  faults = s.faults;
  page_reads = s.page_reads;
  page_writes = s.page_writes;
  length_writes = s.length_writes;
  renewals = s.renewals;
  unsynced = Some s.unsynced;
  doubtful = Some s.doubtful;
}

-- one call fewer is ahead
abbrev pub sheets_after_call : Sheets → Sheets
sheets_after_call s = record s { ahead = s.ahead - 1 }

-- after a call that failed
abbrev pub sheets_after_fault : Sheets → Sheets
sheets_after_fault s = record (sheets_after_call s) { faults = next_count s.faults }

-- what a change or a sync of a slot that failed leaves there
abbrev pub bytes_left : ℕ → Sheets → List ℕ
bytes_left slot s = if s.stays then slot_in s.slots slot else s.leaves

-- after it
abbrev pub sheets_after_slot_fault : ℕ → Sheets → Sheets
sheets_after_slot_fault slot s = record (sheets_after_fault s) {
  slots = slots_with s.slots slot (bytes_left slot s);
  unsynced = unsynced_slots_with s.unsynced slot true;
  doubtful = unsynced_slots_with s.doubtful slot true;
}

-- after a call that reads
abbrev pub sheets_after_read : {T : Type 0} → Sheets → Result T Failed → Sheets
sheets_after_read s (Ok _) = sheets_after_call s
sheets_after_read s (Err _) = sheets_after_fault s

-- after a call that changes a slot so
abbrev pub sheets_after_change : ℕ → (List ℕ → List ℕ) → Sheets → Result Unit Failed → Sheets
sheets_after_change slot change s (Ok _) = record (sheets_after_call s) {
  slots = slots_with s.slots slot (change (slot_in s.slots slot));
  unsynced = unsynced_slots_with s.unsynced slot true;
}
sheets_after_change slot change s (Err _) = sheets_after_slot_fault slot s

-- what a loss of power leaves, with what a slot has in it
abbrev pub lasting_with : ℕ → Sheets → Slots
lasting_with slot s = slots_with s.lasting slot (slot_in s.slots slot)

-- after a sync of a slot: of one that is doubtful nothing more lasts, though the sync says Ok
abbrev pub sheets_after_sync : ℕ → Sheets → Result Unit Failed → Sheets
sheets_after_sync slot s (Ok _) = record (sheets_after_call s) {
  lasting = if is_unsynced_in s.doubtful slot then s.lasting else lasting_with slot s;
  unsynced = unsynced_slots_with s.unsynced slot false;
}
sheets_after_sync slot s (Err _) = sheets_after_slot_fault slot s

-- after a renewal of a slot
abbrev pub sheets_after_renewal : ℕ → Sheets → Result Unit Failed → Sheets
sheets_after_renewal slot s (Ok _) = record (sheets_after_call s) {
  lasting = lasting_with slot s;
  doubtful = unsynced_slots_with s.doubtful slot false;
}
sheets_after_renewal slot s (Err _) =
    record (sheets_after_fault s) { doubtful = unsynced_slots_with s.doubtful slot true }

-- after a loss of power
abbrev pub sheets_after_power_loss : Sheets → Sheets
sheets_after_power_loss s =
    record s { slots = s.lasting; unsynced = synced_slots; doubtful = synced_slots }

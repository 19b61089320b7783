-- What the steps of a write do to a device of pages and to the digests that are kept. With it: what
-- the steps of a read do to a device of pages, and what they give; a slot is renewed before it is
-- used, where that is due.
use Rattle.std.specs.Prelude.{◌≡◌, ◌⊎◌, ◌<◌, ◌≤◌, ◌+◌, ◌*◌, ℕ, Bool, true, false, ◌&&◌, List, ◌++◌, drop, length, slice_index, Option, Some}
use Rattle.std.specs.Prelude.{Result, Ok, Err, IfOk, take, OnOk}
use Rattle.std.specs.Result.{is_err}
use Rattle.std.specs.Str.{bytes_eq}
use Rattle.mm_bytes.specs.Limits.{next_count, CountRose, CountsFaults}
use Rattle.mm_bytes.specs.declared.fault.Failed.{Failed}
use Rattle.mm_digest.specs.declared.digest.Digest.{Digest}
use Rattle.mm_store.specs.StoreStanding.{Slots, slot_in, unsynced_slots_with_mark, MarksSlotAlone, slots_with_bytes, slot_front}
use Rattle.mm_store.specs.StoreStanding.{CountsFailures, UnsyncedSlots, is_unsynced_in, unsynced_slots_with}
use Rattle.mm_store.specs.declared.fault.StoreFault.{StoreFault}
use Rattle.mm_store.specs.declared.fault.StoreFault.TheVariants.{Failed as SlotFailed}
use Rattle.mm_store.specs.declared.store.TheConstants.{LONGEST_SLOT}
use Rattle.mm_pages.specs.PageStanding.{slots_with_change, SyncsPages, PageStanding}
use Rattle.mm_pages.specs.Rows.{resized_bytes, page_of, page_count, count_after_so_many, may_be_same, look_count, total_of_looks}
use Rattle.mm_pages.specs.Rows.{change_count, changes_of, one_if, Rows, row_in, rows_with, kept_digest, page_digest, row_with_digest}
use Rattle.mm_pages.specs.Rows.{digests_of_pages}

-- the digest that is kept of a page, if any, is the digest of what is there
abbrev pub IsInStep : List (Option Digest) → ℕ → List ℕ → Type 0
IsInStep row page was =
    (digest : Digest) → kept_digest row page ≡ Some digest → digest ≡ page_digest (page_of was page)

-- each digest that is kept of a slot's pages is the digest of what is there
abbrev pub AreDigestsOf : List (Option Digest) → List ℕ → Type 0
AreDigestsOf row was = (page : ℕ) → IsInStep row page was

-- a page is looked up and, where its digest doesn't tell it from the new one, read back
pub record HoldsPage (slot page : ℕ) (kept : Option Digest) (digest : Digest) (part : List ℕ)
    (old new : PageStanding)
    (result : Result Bool Failed) : Type 0 where
  pub same : new ≡ record old {
    faults = new.faults;
    page_reads =
        count_after_so_many (one_if (may_be_same kept digest)) old.page_reads;
  }
  pub counted_faults : CountsFaults old.faults new.faults result
  pub holds : IfOk result (λ is. (slots : Slots) → old.slots ≡ Some slots
      → is ≡ (may_be_same kept digest && bytes_eq (page_of (slot_in slots slot) page) part))

-- some bytes stand at a place, as many as this, and the bytes before and after it are as they were
pub record IsPutIn (at size : ℕ) (part was now : List ℕ) : Type 0 where
  pub within : (i : ℕ) → i < size → slice_index now (at + i) ≡ slice_index part i
  pub before : (i : ℕ) → i < at → slice_index now i ≡ slice_index was i
  pub after : (i : ℕ) → at + size ≤ i → slice_index now i ≡ slice_index was i

-- the same at a page's place
abbrev pub IsPutAt : ℕ → List ℕ → List ℕ → List ℕ → Type 0
IsPutAt page part was now = IsPutIn (256 * page) 256 part was now

-- no slot was renewed, and none became doubtful
pub record StaysSure (old new : PageStanding) : Type 0 where
  pub renewals : new.renewals ≡ old.renewals
  pub doubtful : new.doubtful ≡ old.doubtful

-- a slot of a device that failed: its slot has any bytes if it is honest, and may be doubtful; no
-- other slot changed, and none was renewed
pub record SlotFails (slot : ℕ) (old new : PageStanding) : Type 0 where
  pub honest : new.is_honest ≡ old.is_honest
  pub faults : CountRose old.faults new.faults
  pub leaves : old.is_honest ≡ true
      → (left : List ℕ) × (new.slots ≡ slots_with_bytes slot left old.slots)
  pub marks : MarksSlotAlone slot old.unsynced new.unsynced
  pub renewals : new.renewals ≡ old.renewals
  pub doubts : MarksSlotAlone slot old.doubtful new.doubtful

-- a write that failed: of the digests, none but those of its slot changed
pub record WriteFails (slot : ℕ) (old new : PageStanding) (rows after : Rows) : Type 0 where
  pub paged : SlotFails slot old new
  pub row : List (Option Digest)
  pub rows_are : after ≡ rows_with rows slot row

-- the slot changed to some bytes where the slots are told, which are so beside the old ones
pub record ChangesSlot (slot : ℕ) (AreSo : List ℕ → List ℕ → Type 0)
    (old new : Option Slots) : Type 0 where
  pub left : List ℕ
  pub slots : new ≡ slots_with_bytes slot left old
  pub so : (told : Slots) → old ≡ Some told → AreSo (slot_in told slot) left

-- so many pages were written, and where none was, no slot changed
pub record ChangesPages (count : ℕ) (old new : PageStanding) : Type 0 where
  pub writes : new.page_writes ≡ count_after_so_many count old.page_writes
  pub still : count ≡ 0 → new.slots ≡ old.slots

-- one page of a write
pub record PutsOnePage (slot page : ℕ) (part : List ℕ) (old new : PageStanding)
    (rows after : Rows) : Type 0
  where
    pub honest : new.is_honest ≡ old.is_honest
    pub faults : new.faults ≡ old.faults
    pub lengths : new.length_writes ≡ old.length_writes
    pub marks : MarksSlotAlone slot old.unsynced new.unsynced
    pub sure : StaysSure old new
    pub rows_are : after ≡ rows_with rows slot
        (row_with_digest page (page_digest part) (row_in rows slot))
    pub looks : new.page_reads ≡ count_after_so_many
        (look_count (row_in rows slot) page part) old.page_reads
    pub puts : old.is_honest ≡ true → ChangesSlot slot (IsPutAt page part) old.slots new.slots
    pub changes : (told : Slots) → old.slots ≡ Some told
        → IsInStep (row_in rows slot) page (slot_in told slot)
        → ChangesPages (change_count (page_of (slot_in told slot) page) part) old new

abbrev pub PutsPage : ℕ → ℕ → List ℕ → PageStanding → PageStanding → Rows → Rows
    → Result Unit Failed → Type 0
PutsPage slot page part old new rows after (Ok _) = PutsOnePage slot page part old new rows after
PutsPage slot page part old new rows after (Err _) = WriteFails slot old new rows after

-- the first pages are those of the bytes, and what comes after them is as it was
pub record IsFilled (count : ℕ) (bytes was now : List ℕ) : Type 0 where
  pub filled : (i : ℕ) → i < 256 * count → slice_index now i ≡ slice_index bytes i
  pub after : (i : ℕ) → 256 * count ≤ i → slice_index now i ≡ slice_index was i

-- the first pages of a write
pub record PutsFirstPages (slot count : ℕ) (bytes : List ℕ) (old new : PageStanding)
    (rows after : Rows) : Type 0 where
  pub honest : new.is_honest ≡ old.is_honest
  pub faults : new.faults ≡ old.faults
  pub lengths : new.length_writes ≡ old.length_writes
  pub marks : MarksSlotAlone slot old.unsynced new.unsynced
  pub sure : StaysSure old new
  pub rows_are : after ≡ rows_with rows slot
      (digests_of_pages bytes count ++ drop count (row_in rows slot))
  pub looks : new.page_reads ≡ count_after_so_many (total_of_looks (row_in rows slot) bytes count)
      old.page_reads
  pub fills : old.is_honest ≡ true → ChangesSlot slot (IsFilled count bytes) old.slots new.slots
  pub changes : old.is_honest ≡ true → (told : Slots) → old.slots ≡ Some told
      → AreDigestsOf (row_in rows slot) (slot_in told slot)
      → ChangesPages (changes_of (slot_in told slot) bytes count) old new

abbrev pub PutsAllPages : ℕ → List ℕ → PageStanding → PageStanding → Rows → Rows
    → Result Unit Failed → Type 0
PutsAllPages slot bytes old new rows after (Ok _) =
    PutsFirstPages slot (page_count (length bytes)) bytes old new rows after
PutsAllPages slot bytes old new rows after (Err _) = WriteFails slot old new rows after

-- the count is as before, or one more
abbrev pub IsOneMoreAtMost : ℕ → ℕ → Type 0
IsOneMoreAtMost before now = (now ≡ before) ⊎ (now ≡ next_count before)

-- a slot is given a length
pub record FitsSlot (slot size : ℕ) (old new : PageStanding) : Type 0 where
  pub honest : new.is_honest ≡ old.is_honest
  pub faults : new.faults ≡ old.faults
  pub reads : new.page_reads ≡ old.page_reads
  pub writes : new.page_writes ≡ old.page_writes
  pub lengths : IsOneMoreAtMost old.length_writes new.length_writes
  pub settled : (told : Slots) → old.slots ≡ Some told → length (slot_in told slot) ≡ size
      → new.length_writes ≡ old.length_writes
  pub slots : old.is_honest ≡ true → new.slots ≡ slots_with_change slot
      (resized_bytes size) old.slots
  pub marks : MarksSlotAlone slot old.unsynced new.unsynced
  pub sure : StaysSure old new

abbrev pub FitsLength : ℕ → ℕ → PageStanding → PageStanding → Result Unit Failed → Type 0
FitsLength slot size old new (Ok _) = FitsSlot slot size old new
FitsLength slot size old new (Err _) = SlotFails slot old new

-- a slot is given a length, and then synced
pub record FitsAndSyncs (slot size : ℕ) (old new : PageStanding) : Type 0 where
  pub fitted : PageStanding
  pub fits : FitsSlot slot size old fitted
  pub syncs : SyncsPages slot fitted new (Ok tt)

abbrev pub EndsInSync : ℕ → ℕ → PageStanding → PageStanding → Result Unit Failed → Type 0
EndsInSync slot size old new (Ok _) = FitsAndSyncs slot size old new
EndsInSync slot size old new (Err _) = SlotFails slot old new

-- a whole write
pub record PutsWholeSlot (slot : ℕ) (bytes : List ℕ) (old new : PageStanding)
    (rows after : Rows) : Type 0
  where
    pub honest : new.is_honest ≡ old.is_honest
    pub faults : new.faults ≡ old.faults
    pub lengths : IsOneMoreAtMost old.length_writes new.length_writes
    pub synced : new.unsynced ≡ unsynced_slots_with_mark slot false old.unsynced
    pub sure : StaysSure old new
    pub rows_are : after ≡ rows_with rows slot (digests_of_pages bytes (page_count (length bytes)))
    pub looks : new.page_reads ≡ count_after_so_many
        (total_of_looks (row_in rows slot) bytes (page_count (length bytes))) old.page_reads
    pub slots : old.is_honest ≡ true → new.slots ≡ slots_with_bytes slot bytes old.slots
    pub writes : old.is_honest ≡ true → (told : Slots) → old.slots ≡ Some told
        → AreDigestsOf (row_in rows slot) (slot_in told slot)
        → new.page_writes ≡ count_after_so_many
        (changes_of (slot_in told slot) bytes (page_count (length bytes))) old.page_writes
    pub settled : old.is_honest ≡ true → (told : Slots) → old.slots ≡ Some told
        → AreDigestsOf (row_in rows slot) (slot_in told slot)
        → slot_in told slot ≡ bytes → new.length_writes ≡ old.length_writes

abbrev pub PutsBytes : ℕ → List ℕ → PageStanding → PageStanding → Rows → Rows → Result Unit Failed
    → Type 0
PutsBytes slot bytes old new rows after (Ok _) = PutsWholeSlot slot bytes old new rows after
PutsBytes slot bytes old new rows after (Err _) = WriteFails slot old new rows after

-- What the steps of a read do to a device of pages, and what they give.

-- a read of a slot
pub record GivesBytes (slot : ℕ) (old new : PageStanding)
    (result : Result (List ℕ) StoreFault) : Type 0
  where
    pub same : new ≡ record old { faults = new.faults; page_reads = new.page_reads }
    pub counted_faults : CountsFailures old.faults new.faults result
    pub gives : IfOk result (λ bytes. (slots : Slots) → old.slots ≡ Some slots
        → bytes ≡ slot_front slots slot)
    pub short : IfOk result (λ bytes. length bytes ≤ LONGEST_SLOT)

-- how many bytes a read of the slot gives
pub record GivesSize (slot : ℕ) (old new : PageStanding) (result : Result ℕ Failed) : Type 0 where
  pub same : new ≡ record old { faults = new.faults }
  pub counted_faults : CountsFaults old.faults new.faults result
  pub most : IfOk result (λ size. size ≤ LONGEST_SLOT)
  pub gives : IfOk result (λ size. (slots : Slots) → old.slots ≡ Some slots
      → size ≡ length (slot_front slots slot))

-- the pages of a slot's first bytes
pub record GivesPages (slot size : ℕ) (old new : PageStanding) (bytes : List ℕ)
    (result : Result Unit StoreFault) : Type 0 where
  pub same : new ≡ record old { faults = new.faults; page_reads = new.page_reads }
  pub counted_faults : CountsFailures old.faults new.faults result
  pub len : OnOk result (length bytes ≡ size)
  pub gives : OnOk result ((slots : Slots) → old.slots ≡ Some slots
      → size ≤ length (slot_in slots slot)
      → bytes ≡ take size (slot_in slots slot))

-- A slot is renewed before it is used, where that is due.

-- which slots are doubtful once one of them was renewed, if it was
abbrev pub doubtful_renewed : Bool → ℕ → Option UnsyncedSlots → Result Unit Failed
    → Option UnsyncedSlots
doubtful_renewed false slot marks result = marks
doubtful_renewed true slot marks result = unsynced_slots_with_mark slot (is_err result) marks

-- a slot is renewed once where it is due, and else nothing is done; it is due no more after Ok, and
-- it is where that failed
pub record RenewsIfDue (slot : ℕ) (due after : UnsyncedSlots) (old new : PageStanding)
    (result : Result Unit Failed) : Type 0 where
  pub same : new ≡ record old {
    faults = new.faults;
    renewals = count_after_so_many (one_if (is_unsynced_in due slot)) old.renewals;
    doubtful = doubtful_renewed (is_unsynced_in due slot) slot old.doubtful result;
  }
  pub counted_faults : CountsFaults old.faults new.faults result
  pub marks : after ≡ unsynced_slots_with due slot (is_err result)

-- what comes behind it of a read: nothing where it failed
abbrev pub ReadGoes : ℕ → PageStanding → PageStanding → Result Unit Failed
    → Result (List ℕ) StoreFault → Type 0
ReadGoes slot middle new (Ok _) result = GivesBytes slot middle new result
ReadGoes slot middle new (Err _) result = (new ≡ middle) × (result ≡ Err SlotFailed)

-- a read of a slot that is renewed first
pub record ReadsRenewed (slot : ℕ) (due after : UnsyncedSlots) (old new : PageStanding)
    (result : Result (List ℕ) StoreFault) : Type 0 where
  pub middle : PageStanding
  pub renewal : Result Unit Failed
  pub renews : RenewsIfDue slot due after old middle renewal
  pub goes : ReadGoes slot middle new renewal result

-- what comes behind it of a write of these bytes
abbrev pub WriteGoes : ℕ → List ℕ → PageStanding → PageStanding → Rows → Rows
    → Result Unit Failed → Result Unit Failed → Type 0
WriteGoes slot bytes middle new rows after (Ok _) result =
    PutsBytes slot bytes middle new rows after result
WriteGoes slot bytes middle new rows after (Err fault) result =
    (new ≡ middle) × (after ≡ rows) × (result ≡ Err fault)

-- a write to a slot that is renewed first
pub record WritesRenewed (slot : ℕ) (bytes : List ℕ) (due after : UnsyncedSlots)
    (old new : PageStanding)
    (rows rows' : Rows)
    (result : Result Unit Failed) : Type 0 where
  pub middle : PageStanding
  pub renewal : Result Unit Failed
  pub renews : RenewsIfDue slot due after old middle renewal
  pub goes : WriteGoes slot bytes middle new rows rows' renewal result

-- A store over a device of pages.
use Rattle.std.specs.Prelude.{◌≡◌, ℕ, true, false, List, [], length, Some, Result, Ok, Err}
use Rattle.mm_store.specs.declared.fault.StoreFault.{StoreFault}
use Rattle.mm_store.specs.declared.fault.StoreFault.TheVariants.{Memory, Failed}
use Rattle.mm_store.specs.StoreStanding.{Slots, UnsyncedSlots, unsynced_slots_with}
use Rattle.mm_pages.specs.Rows.{page_count, Rows, rows_with, digests_of_pages}
use Rattle.mm_pages.specs.PageStanding.{PageStanding}
use Rattle.mm_pages.specs.SlotWrites.{AreDigestsOf}

-- the device, the digests that are kept of its pages, and which slots are due to be renewed before
-- they are used
pub record CachedDevice (D : Type 0) : Type 0 where
  pub device : D
  pub rows : Rows
  pub due : UnsyncedSlots

-- each slot is due
abbrev pub all_due : UnsyncedSlots
all_due = record { zero = true; one = true; two = true; three = true }

-- which slots are due after a call of one: that one where the device failed, and else not
abbrev pub due_after : {T : Type 0} → ℕ → UnsyncedSlots → Result T StoreFault → UnsyncedSlots
due_after slot due (Ok _) = unsynced_slots_with due slot false
due_after slot due (Err Memory) = unsynced_slots_with due slot false
due_after slot due (Err Failed) = unsynced_slots_with due slot true

-- the digests kept after a write: those of the pages of the bytes and no other of their slot, or
-- none of it
abbrev pub rows_after_write : {T : Type 0} → ℕ → List ℕ → Rows → Result T StoreFault → Rows
rows_after_write slot bytes rows (Ok _) =
    rows_with rows slot (digests_of_pages bytes (page_count (length bytes)))
rows_after_write slot bytes rows (Err _) = rows_with rows slot []

-- the digests kept after a read: all of them, or none of its slot where the device failed
abbrev pub rows_after_read : {T : Type 0} → ℕ → Rows → Result T StoreFault → Rows
rows_after_read slot rows (Ok _) = rows
rows_after_read slot rows (Err Memory) = rows
rows_after_read slot rows (Err Failed) = rows_with rows slot []

-- the same of all slots
pub record AreInStep (rows : Rows) (slots : Slots) : Type 0 where
  pub at_zero : AreDigestsOf rows.zero slots.zero
  pub at_one : AreDigestsOf rows.one slots.one
  pub at_two : AreDigestsOf rows.two slots.two
  pub at_three : AreDigestsOf rows.three slots.three

-- digests in step with what an honest device has stay so
abbrev pub KeepsStep : PageStanding → PageStanding → Rows → Rows → Type 0
KeepsStep old new rows after =
    old.is_honest ≡ true → (was now : Slots) → old.slots ≡ Some was → new.slots ≡ Some now
    → AreInStep rows was
    → AreInStep after now

-- each slot that is doubtful is due
pub record AreDue (due doubtful : UnsyncedSlots) : Type 0 where
  pub at_zero : doubtful.zero ≡ true → due.zero ≡ true
  pub at_one : doubtful.one ≡ true → due.one ≡ true
  pub at_two : doubtful.two ≡ true → due.two ≡ true
  pub at_three : doubtful.three ≡ true → due.three ≡ true

-- where each slot that the device tells to be doubtful is due, this stays so
abbrev pub KeepsDue : PageStanding → PageStanding → UnsyncedSlots → UnsyncedSlots → Type 0
KeepsDue old new due after = (was now : UnsyncedSlots) → old.doubtful ≡ Some was
    → new.doubtful ≡ Some now → AreDue due was → AreDue after now

-- then a slot that was used is not doubtful, and of the others the same is told as before
abbrev pub UsesSurely : ℕ → PageStanding → PageStanding → UnsyncedSlots → Type 0
UsesSurely slot old new due = (was : UnsyncedSlots) → old.doubtful ≡ Some was → AreDue due was
    → new.doubtful ≡ Some (unsynced_slots_with was slot false)

-- What a store holds. With it: four of a kind; the four slots of a store; which slots have changes
-- that were not synced; a store in memory; what each call of a store does to what it holds.
use Rattle.std.specs.Option.{option_map}
use Rattle.std.specs.Prelude.{ℕ, ◌==◌, if◌then◌else◌, List, take, ◌≡◌, Bool, true, false, Option, ◌-◌, [], None, Some, Result, Ok, Err, ◌≤◌}
use Rattle.std.specs.Prelude.{IfOk, length}
use Rattle.mm_bytes.specs.Limits.{next_count, CountRose}
use Rattle.mm_store.specs.declared.fault.StoreFault.{StoreFault}
use Rattle.mm_store.specs.declared.fault.StoreFault.TheVariants.{Memory, Failed}
use Rattle.mm_store.specs.declared.store.TheConstants.{LONGEST_SLOT}

-- Four of a kind.

-- four of a kind, numbered from 0 to 3
pub record Four (A : Type 0) : Type 0 where
  pub zero : A
  pub one : A
  pub two : A
  pub three : A

-- the one with this number, which is below 4
abbrev pub item_at : {A : Type 0} → Four A → ℕ → A
item_at four n =
    if n == 0 then four.zero else if n == 1 then four.one else if n == 2 then four.two
    else four.three

-- the four, with this in place of the one with this number
abbrev pub four_with : {A : Type 0} → Four A → ℕ → A → Four A
four_with four n item =
    if n == 0 then record four { zero = item } else if n == 1 then record four { one = item }
    else if n == 2 then record four { two = item } else record four { three = item }

-- The four slots of a store.

-- the bytes of each slot
pub record Slots : Type 0 where
  pub zero : List ℕ
  pub one : List ℕ
  pub two : List ℕ
  pub three : List ℕ

-- four, as the slots
abbrev pub slots_of : Four (List ℕ) → Slots
slots_of four = record { zero = four.zero; one = four.one; two = four.two; three = four.three }

-- the most bytes that a slot is read with, and that are written to it
unfoldable pub longest_slot : ℕ
longest_slot = LONGEST_SLOT

-- the bytes of the slot with this number, which is below 4
abbrev pub slot_in : Slots → ℕ → List ℕ
slot_in slots n =
    if n == 0 then slots.zero else if n == 1 then slots.one else if n == 2 then slots.two
    else slots.three

-- the slots, with these bytes in place of those of one
abbrev pub slots_with : Slots → ℕ → List ℕ → Slots
slots_with slots n bytes =
    if n == 0 then record slots { zero = bytes } else if n == 1 then record slots { one = bytes }
    else if n == 2 then record slots { two = bytes } else record slots { three = bytes }

-- what a read of the slot gives
abbrev pub slot_front : Slots → ℕ → List ℕ
slot_front slots n = take longest_slot (slot_in slots n)

-- Which slots have changes that were not synced.

-- of each slot, whether it has such changes
pub record UnsyncedSlots : Type 0 where
  pub zero : Bool
  pub one : Bool
  pub two : Bool
  pub three : Bool

-- four marks, as those of the slots
abbrev pub unsynced_slots_of : Four Bool → UnsyncedSlots
unsynced_slots_of four =
    record { zero = four.zero; one = four.one; two = four.two; three = four.three }

-- whether the slot with this number, which is below 4, has such changes
abbrev pub is_unsynced_in : UnsyncedSlots → ℕ → Bool
is_unsynced_in marks n =
    if n == 0 then marks.zero else if n == 1 then marks.one else if n == 2 then marks.two
    else marks.three

-- what is known of the slots, with this in place of what was known of one
abbrev pub unsynced_slots_with : UnsyncedSlots → ℕ → Bool → UnsyncedSlots
unsynced_slots_with marks n mark =
    if n == 0 then record marks { zero = mark } else if n == 1 then record marks { one = mark }
    else if n == 2 then record marks { two = mark } else record marks { three = mark }

-- the same where it is told
abbrev pub unsynced_slots_with_mark : ℕ → Bool → Option UnsyncedSlots → Option UnsyncedSlots
unsynced_slots_with_mark slot mark marks =
    option_map (λ told. unsynced_slots_with told slot mark) marks

-- of the other slots the same is told as before
abbrev pub MarksSlotAlone : ℕ → Option UnsyncedSlots → Option UnsyncedSlots → Type 0
MarksSlotAlone slot old new = unsynced_slots_with_mark slot true new
    ≡ unsynced_slots_with_mark slot true old

-- no slot has such changes
abbrev pub synced_slots : UnsyncedSlots
synced_slots = record { zero = false; one = false; two = false; three = false }

-- What a store holds.

-- the slots where the store tells them, whether it is honest, its count of faults, and, where it is
-- told, which slots have changes that were not synced
pub record StoreStanding : Type 0 where
  pub slots : Option Slots
  pub is_honest : Bool
  pub faults : ℕ
  pub unsynced : Option UnsyncedSlots

-- A store in memory.

-- The slots, whether the store is honest, its count of faults, the number of calls up to the one
-- that is to fail (none where 0), and what that call leaves if it is a write.
pub record Shelf : Type 0 where
  pub slots : Slots
  pub is_honest : Bool
  pub faults : ℕ
  pub ahead : ℕ
  pub leaves : List ℕ

-- a new store in memory
abbrev pub new_shelf : Shelf
new_shelf = record {
  slots = record { zero = []; one = []; two = []; three = [] };
  is_honest = true;
  faults = 0;
  ahead = 0;
  leaves = [];
}

-- what of it each store has; of syncs nothing is told
abbrev pub shelf_standing : Shelf → StoreStanding
shelf_standing shelf = record {
  slots = Some shelf.slots;
  is_honest = shelf.is_honest;
  faults = shelf.faults;
  unsynced = None;
}

-- one call fewer is ahead
abbrev pub shelf_after_call : Shelf → Shelf
shelf_after_call shelf = record shelf { ahead = shelf.ahead - 1 }

-- after a read with this result
abbrev pub shelf_after_read : Shelf → Result (List ℕ) StoreFault → Shelf
shelf_after_read shelf (Ok _) = shelf_after_call shelf
shelf_after_read shelf (Err Memory) = shelf_after_call shelf
shelf_after_read shelf (Err Failed) =
    record (shelf_after_call shelf) { faults = next_count shelf.faults }

-- after a write of these bytes to a slot with this result
abbrev pub shelf_after_write : Shelf → ℕ → List ℕ → Result Unit StoreFault → Shelf
shelf_after_write shelf slot bytes (Ok _) =
    record (shelf_after_call shelf) { slots = slots_with shelf.slots slot bytes }
shelf_after_write shelf slot bytes (Err Memory) = shelf_after_call shelf
shelf_after_write shelf slot bytes (Err Failed) = record (shelf_after_call shelf) {
  slots = slots_with shelf.slots slot shelf.leaves;
  faults = next_count shelf.faults;
  leaves = [];
}

-- What each call of a store does to what it holds.

-- the count of faults rose by exactly one where the call failed, and is as before after Ok and
-- where memory was wanting
abbrev pub CountsFailures : {T : Type 0} → ℕ → ℕ → Result T StoreFault → Type 0
CountsFailures before now (Ok _) = now ≡ before
CountsFailures before now (Err Memory) = now ≡ before
CountsFailures before now (Err Failed) = CountRose before now

-- a read changes no slot, and gives the slot's first bytes where the slots are told
pub record ReadsSlot (slot : ℕ) (old new : StoreStanding)
    (result : Result (List ℕ) StoreFault) : Type 0 where
  pub slots : new.slots ≡ old.slots
  pub honest : new.is_honest ≡ old.is_honest
  pub counted : CountsFailures old.faults new.faults result
  pub gives : IfOk result (λ bytes. (slots : Slots) → old.slots ≡ Some slots
      → bytes ≡ slot_front slots slot)
  pub short : IfOk result (λ bytes. length bytes ≤ LONGEST_SLOT)
  pub unsynced : new.unsynced ≡ old.unsynced

-- the slots where they are told, with these bytes in one of them
abbrev pub slots_with_bytes : ℕ → List ℕ → Option Slots → Option Slots
slots_with_bytes slot bytes slots = option_map (λ told. slots_with told slot bytes) slots

-- what a write to an honest store leaves: its slot holds the bytes after Ok, and any bytes after it
-- failed
abbrev pub LeavesInSlot : ℕ → List ℕ → Option Slots → Option Slots → Result Unit StoreFault → Type 0
LeavesInSlot slot bytes old new (Ok _) = new ≡ slots_with_bytes slot bytes old
LeavesInSlot slot bytes old new (Err Memory) = new ≡ old
LeavesInSlot slot bytes old new (Err Failed) =
    (left : List ℕ) × (new ≡ slots_with_bytes slot left old)

-- what waits to be synced after a write to a slot: nothing of the slot after Ok, all as before
-- where memory is wanting, and of the other slots what waited before
abbrev pub SyncsSlot : ℕ → Option UnsyncedSlots → Option UnsyncedSlots → Result Unit StoreFault
    → Type 0
SyncsSlot slot old new (Ok _) = new ≡ unsynced_slots_with_mark slot false old
SyncsSlot slot old new (Err Memory) = new ≡ old
SyncsSlot slot old new (Err Failed) = MarksSlotAlone slot old new

-- a write changes no other slot of an honest store, and none of any store where memory is wanting
pub record WritesSlot (slot : ℕ) (bytes : List ℕ) (old new : StoreStanding)
    (result : Result Unit StoreFault) : Type 0 where
  pub honest : new.is_honest ≡ old.is_honest
  pub counted : CountsFailures old.faults new.faults result
  pub leaves : old.is_honest ≡ true → LeavesInSlot slot bytes old.slots new.slots result
  pub spared : result ≡ Err Memory → new.slots ≡ old.slots
  pub synced : SyncsSlot slot old.unsynced new.unsynced result

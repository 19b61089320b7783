-- What a function of the library says, as a number. With it: what a host keeps between two calls;
-- what the functions do that write and read the record of a pending request.
use Rattle.std.specs.Prelude.{ℕ, ◌≡◌, ◌≤◌, ◌-◌, ◌^◌, ◌/◌, List, length, replicate, take, drop, ◌<◌, ◌++◌, None, Some, ◌⊎◌}
use Rattle.mm_bytes.specs.Limits.{last_position}
use Rattle.mm_digest.specs.Messages.{hmac_of}
use Rattle.mm_module.specs.Meaning.{IsLine}
use Rattle.mm_model.specs.Messages.{code_of}
use Rattle.mm_model.specs.declared.refusal.Refusal.TheVariants as refusal
use Rattle.mm_opt.specs.declared.segment.CheckpointRefusal.{CheckpointRefusal}
use Rattle.mm_opt.specs.declared.segment.CheckpointRefusal.TheVariants as closing
use Rattle.mm_move.specs.declared.refusal.MoveRefusal.{MoveRefusal}
use Rattle.mm_move.specs.declared.refusal.MoveRefusal.TheVariants as move
use Rattle.mm_store.specs.PendingRecord.{PendingRecord, ReadsPendingRecord, pending_spelling}
use Rattle.memoir_c.specs.declared.keeping.Kept.{Kept}
use Rattle.memoir_c.specs.declared.keeping.Text.{Text}
use Rattle.memoir_c.specs.declared.said.ReturnStatus.{ReturnStatus}
use Rattle.memoir_c.specs.declared.said.ReturnStatus.TheVariants as said

abbrev pub number_of : ReturnStatus → ℕ
number_of said.Done = 0
number_of (said.Refused why) = code_of why
number_of said.Next = 16
number_of said.Differs = 17
number_of said.NoSegment = 18
number_of said.Already = 19
number_of said.Open = 20
number_of said.Gone = 21
number_of said.Nonce = 22
number_of said.Barrier = 23
number_of said.Again = 24
number_of said.NoVariant = 32
number_of said.NoModule = 33
number_of said.TooMany = 34
number_of said.NoStep = 35
number_of said.NoRoom = 36
number_of said.NoKey = 37
number_of said.NoPosition = 38

-- a refused checkpoint, as a call that is refused for the same
abbrev pub closing_status : CheckpointRefusal → ReturnStatus
closing_status (closing.Device fault) = said.Refused (refusal.Device fault)
closing_status closing.Blank = said.Refused refusal.Blank
closing_status closing.Cell = said.Refused refusal.Cell
closing_status closing.Kind = said.Refused refusal.Kind
closing_status closing.Lost = said.Refused refusal.Lost

-- and a refused move
abbrev pub move_status : MoveRefusal → ReturnStatus
move_status (move.Core why) = said.Refused why
move_status move.Already = said.Already
move_status move.Open = said.Open
move_status move.Gone = said.Gone
move_status move.Nonce = said.Nonce
move_status move.Barrier = said.Barrier

-- What a host keeps between two calls.

-- the text at the front of these bytes has this tag under the key; or it is none, as they are fewer
abbrev pub IsText : List ℕ → Text → List ℕ → Type 0
IsText key text bytes =
    text.length ≤ length bytes → text.tag ≡ hmac_of key (take text.length bytes)

-- What is kept are texts with their tags under the key, each at the front of a half of the memory.
pub record IsKept (kept : Kept) (memory : List ℕ) : Type 0 where
  pub last : IsText kept.key kept.last (take (length memory / 2) memory)
  pub before : IsText kept.key kept.before (drop (length memory / 2) memory)

-- no text, with no memory as long; and nothing kept, no key neither
abbrev pub no_text : Text
no_text = record { length = 2 ^ 64 - 1; tag = replicate 32 0 }

abbrev pub nothing_kept : Kept
nothing_kept = record { key = replicate 32 0; last = no_text; before = no_text }

-- What the functions do that write and read the record of a pending request.

-- A room and a number, before and behind a call.
pub record RoomState : Type 0 where
  pub before : List ℕ
  pub after : List ℕ
  pub old : ℕ
  pub new : ℕ

abbrev pub room_state : (before after : List ℕ) (old new : ℕ) → RoomState
room_state before after old new =
    record { before = before; after = after; old = old; new = new }

-- nothing is written
abbrev pub IsUnchanged : RoomState → Type 0
IsUnchanged it = (it.after ≡ it.before) × (it.new ≡ it.old)

-- these bytes are written to the front of the room, and their length; or there is too little room
abbrev pub PutsInFront : List ℕ → RoomState → ReturnStatus → Type 0
PutsInFront bytes it says =
    ((says ≡ said.Done) × (it.after ≡ bytes ++ drop (length bytes) it.before)
    × (it.new ≡ length bytes))
    ⊎ ((says ≡ said.NoRoom) × IsUnchanged it × (length it.before < length bytes))

-- a request has no record: no request has this position, or it is none; or memory is wanting
abbrev pub HasNoRecord : (position : ℕ) (request : List ℕ) → ReturnStatus → Type 0
HasNoRecord position request says =
    ((says ≡ said.NoPosition) × ((position ≡ 0) ⊎ (last_position < position)))
    ⊎ (((says ≡ said.Refused refusal.Long) × (IsLine request → ⊥))
    ⊎ (says ≡ said.Refused refusal.Memory))

-- The record of a request is written, or it has none.
pub record RecordsRequest (position : ℕ) (request : List ℕ) (it : RoomState)
    (number : ℕ) : Type 0 where
  pub says : ReturnStatus
  pub number_is : number ≡ number_of says
  pub puts : PutsInFront (pending_spelling (record { position = position; request = request })) it
      says
      ⊎ (HasNoRecord position request says × IsUnchanged it)

-- a slot's bytes are this record, and its request is written; where it is, its position too
pub record ReadsRecord (slot : ℕ) (bytes : List ℕ) (it : RoomState) (position : ℕ)
    (says : ReturnStatus)
    : Type 0 where
  pub read : PendingRecord
  pub reads : ReadsPendingRecord slot bytes (Some read)
  pub puts : PutsInFront read.request it says
  pub numbers : says ≡ said.Done → position ≡ read.position

-- a slot's bytes are no valid record
pub record ReadsNone (slot : ℕ) (bytes : List ℕ) (it : RoomState)
    (says : ReturnStatus) : Type 0 where
  pub reads : ReadsPendingRecord slot bytes None
  pub told : says ≡ said.Refused refusal.Form
  pub kept : IsUnchanged it

abbrev pub ReadsRecordOrNone : (slot : ℕ) (bytes : List ℕ) → RoomState → (position : ℕ)
    → ReturnStatus → Type 0
ReadsRecordOrNone slot bytes it position says =
    ReadsRecord slot bytes it position says ⊎ ReadsNone slot bytes it says

pub record ReadsBack (slot : ℕ) (bytes : List ℕ) (it : RoomState)
    (position number : ℕ) : Type 0 where
  pub says : ReturnStatus
  pub number_is : number ≡ number_of says
  pub reads : ReadsRecordOrNone slot bytes it position says

-- The record of a request that is pending, and its bytes. With it: a pending request in code, as
-- plain data.
use Rattle.std.specs.Prelude.{◌≡◌, ◌≢◌, ◌+◌, ◌<◌, ◌≤◌, ◌%◌, ◌^◌, ℕ, List, [], ◌∷◌, ◌++◌, length, Option, None, Some}
use Rattle.sha2.specs.Sha256.{sha256}
use Rattle.mm_bytes.specs.Limits.{eight_bytes, four_bytes, last_position, longest_request}
use Rattle.mm_base.specs.Input.{IsLineFront}
use Rattle.mm_store.specs.declared.pending.PendingRequest.{PendingRequest}

-- a request, and the position that it is to take
pub record PendingRecord : Type 0 where
  pub position : ℕ
  pub request : List ℕ

-- a record that stands in this slot: slots 2 and 3 take turns
pub record IsPending (slot : ℕ) (p : PendingRecord) : Type 0 where
  pub least : 1 ≤ p.position
  pub most : p.position ≤ last_position
  pub line : IsLineFront longest_request p.request
  pub parity : slot ≡ 2 + p.position % 2

-- `MMP1`
abbrev pub record_word : List ℕ
record_word = 0x4d ∷ 0x4d ∷ 0x50 ∷ 0x31 ∷ []

-- what is hashed: `MMP1`, the position in 8 bytes, the length of the request in 4 bytes, and the
-- request
unfoldable pub pending_front : PendingRecord → List ℕ
pending_front p =
    record_word ++ (eight_bytes p.position ++ (four_bytes (length p.request) ++ p.request))

-- the record's bytes, which end with the SHA-256 of all bytes before
unfoldable pub pending_spelling : PendingRecord → List ℕ
pending_spelling p = pending_front p ++ sha256 (pending_front p)

-- what reading a slot's bytes as a record gives: there is one answer for each slot and list of
-- bytes
abbrev pub ReadsPendingRecord : ℕ → List ℕ → Option PendingRecord → Type 0
ReadsPendingRecord slot bytes None = (p : PendingRecord) → IsPending slot p
    → bytes ≢ pending_spelling p
ReadsPendingRecord slot bytes (Some p) = IsPending slot p × (bytes ≡ pending_spelling p)

-- the law of the format: a slot's bytes have one reading
abbrev pub HasOneReading : Type 0
HasOneReading = (slot : ℕ) (bytes : List ℕ) (p q : Option PendingRecord)
    → ReadsPendingRecord slot bytes p
    →
    ReadsPendingRecord slot bytes q → p ≡ q

-- the bytes are what is hashed of this record, whose numbers fit their fields
pub record SpellsRecord (front : List ℕ) (p : PendingRecord) : Type 0 where
  pub position : p.position < 2 ^ 64
  pub size : length p.request < 2 ^ 32
  pub spelled : front ≡ pending_front p

-- the bytes are what is hashed of no record
abbrev pub SpellsNoRecord : List ℕ → Type 0
SpellsNoRecord front = (p : PendingRecord) → length p.request < 2 ^ 32 → front ≢ pending_front p

-- A pending request in code, as plain data.

abbrev pub pending_of : PendingRequest → PendingRecord
pending_of pending = record { position = pending.position; request = pending.request.now }

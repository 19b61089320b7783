-- A batch of requests under one commit, as contracts see it. With it: numbers of eight bytes in
-- states; byte lists.
use Rattle.std.specs.Int.{w64, from_be_bytes}
use Rattle.std.specs.List.{slice_split, list_any, list_all}
use Rattle.std.specs.Prelude.{◌==◌, ℕ, List, [], ◌∷◌, length, IsTrue, if◌then◌else◌, Bool, nat_lt}

-- one request, or a text whose pieces between bytes TAB, which are 9, are the requests
pub data Batch : Type 0 where
  One : (request : List ℕ) → Batch
  Many : (text : List ℕ) → Batch

-- the requests of a batch, in order
abbrev pub members_of : Batch → List (List ℕ)
members_of (One request) = request ∷ []
members_of (Many text) = slice_split (λ byte. byte == 9) text

-- the bytes of a batch: its members, joined by TABs
abbrev pub batch_text : Batch → List ℕ
batch_text (One request) = request
batch_text (Many text) = text

-- how many requests a batch has
abbrev pub size_of : Batch → ℕ
size_of batch = length (members_of batch)

-- the same members as such a batch
abbrev pub normal_batch : Batch → Batch
normal_batch (One request) = One request
normal_batch (Many text) = if list_any (λ byte. byte == 9) text then Many text else One text

-- a TAB
abbrev pub is_tab : ℕ → Bool
is_tab byte = byte == 9

-- some byte is a TAB
abbrev pub has_tab : List ℕ → Bool
has_tab text = list_any is_tab text

-- Numbers of eight bytes in states.

-- the number that eight bytes spell, the highest first
unfoldable pub number_of_eight_bytes : List ℕ → ℕ
number_of_eight_bytes bytes = from_be_bytes w64 bytes

-- Byte lists.

-- a byte
abbrev pub is_byte : ℕ → Bool
is_byte byte = nat_lt byte 256

-- each is a byte
abbrev pub are_bytes : List ℕ → Bool
are_bytes bytes = list_all is_byte bytes

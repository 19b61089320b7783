-- A module round another, which counts requests and gives receipts.
use Rattle.std.specs.Prelude.{ℕ, ◌+◌, ◌%◌, ◌==◌, ◌&&◌, ◌||◌, Bool, false, nat_le, List, [], ◌∷◌, ◌++◌, length, take, drop, replicate, codes}
use Rattle.std.specs.Prelude.{Option, Some, None, if◌then◌else◌}
use Rattle.std.specs.Str.{bytes_eq}
use Rattle.mm_bytes.specs.Limits.{eight_bytes, last_position}
use Rattle.mm_module.specs.Batch.{are_bytes, number_of_eight_bytes}
use Rattle.mm_module.specs.Meaning.{Meaning, value_at, words_of}
use Rattle.mm_receipted.specs.Receipts.{receipt_of}

-- how many requests were run, the key once it is set, and the state of the module inside
pub record ReceiptState : Type 0 where
  pub count : ℕ
  pub key : Option (List ℕ)
  pub inner : List ℕ

-- the key that a request `key HEX` brings
abbrev pub key_of_words : List (List ℕ) → Option (List ℕ)
key_of_words (word ∷ digits ∷ []) = if bytes_eq word (codes "key") then value_at digits else None
key_of_words _ = None

-- what is said to a request that brings this key
abbrev pub keyed_text : Option (List ℕ) → List ℕ
keyed_text None = codes "unkeyed"
keyed_text (Some key) = codes "keyed"

-- a request before a key is set
abbrev pub outcome_without_key : ReceiptState → Option (List ℕ) → ReceiptState × List ℕ
outcome_without_key kept key =
    (record { count = kept.count + 1; key = key; inner = kept.inner }, keyed_text key)

-- a request under a key
abbrev pub outcome_under_key : Meaning → ReceiptState → List ℕ → List ℕ → ReceiptState × List ℕ
outcome_under_key inner kept request key = (
  record { count = kept.count + 1; key = Some key; inner = inner.next kept.inner request },
  receipt_of key (kept.count + 1) request (inner.says kept.inner request),
)

abbrev pub outcome_by_key : Meaning → ReceiptState → List ℕ → Option (List ℕ)
    → ReceiptState × List ℕ
outcome_by_key inner kept request None = outcome_without_key kept (key_of_words (words_of request))
outcome_by_key inner kept request (Some key) = outcome_under_key inner kept request key

-- what a request does, and what is said: there are 2^48 positions
abbrev pub outcome_of : Meaning → ReceiptState → List ℕ → ReceiptState × List ℕ
outcome_of inner kept request =
    if kept.count == last_position then (kept, codes "full") else outcome_by_key inner
    kept request kept.key

-- before every request
abbrev pub first_receipt_state : Meaning → ReceiptState
first_receipt_state inner = record { count = 0; key = None; inner = inner.first }

-- a byte and a key: 00 and zeros, or 01 and the key
abbrev pub key_bytes : Option (List ℕ) → List ℕ
key_bytes None = 0 ∷ replicate 32 0
key_bytes (Some key) = 1 ∷ key

-- the bytes of a state
abbrev pub spelling_of : ReceiptState → List ℕ
spelling_of kept = eight_bytes kept.count ++ (key_bytes kept.key ++ kept.inner)

-- the key, where the byte before it is 01
abbrev pub key_in : ℕ → List ℕ → Option (List ℕ)
key_in form bytes = if form == 1 then Some bytes else None

-- a byte and a key in front
abbrev pub is_keyed : List ℕ → Bool
is_keyed [] = false
is_keyed (form ∷ rest) = form == 1 || (form == 0 && bytes_eq (take 32 rest) (replicate 32 0))

-- a count and a key in front
abbrev pub is_front : List ℕ → Bool
is_front bytes =
    nat_le 41 (length bytes)
    && (nat_le (number_of_eight_bytes (take 8 bytes)) last_position && is_keyed (drop 8 bytes))

abbrev pub receipt_state_after : ℕ → List ℕ → ReceiptState
receipt_state_after count [] = record { count = count; key = None; inner = [] }
receipt_state_after count (form ∷ rest) =
    record { count = count; key = key_in form (take 32 rest); inner = drop 32 rest }

-- what a state keeps
unfoldable pub receipt_state_in : List ℕ → ReceiptState
receipt_state_in bytes = receipt_state_after (number_of_eight_bytes (take 8 bytes)) (drop 8 bytes)

-- the bytes spell a state
unfoldable pub is_state : Meaning → List ℕ → Bool
is_state inner bytes =
    are_bytes bytes && (is_front bytes && inner.is_spelled (receipt_state_in bytes).inner)

-- the module round another
abbrev pub receipted_module : Meaning → Meaning
receipted_module inner = record {
  id = (inner.id + 64) % 256;
  first = spelling_of (first_receipt_state inner);
  next = λ state request. spelling_of (outcome_of inner (receipt_state_in state) request).0;
  says = λ state request. (outcome_of inner (receipt_state_in state) request).1;
  is_spelled = is_state inner;
}

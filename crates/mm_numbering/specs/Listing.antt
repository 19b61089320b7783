-- Messages with their numbers: each once, in the order of its first coming. With it: what the
-- numbers in code say of a list; the guards of batches in code.
use Rattle.std.specs.BTreeMap as tree
use Rattle.std.specs.BTreeSet.{BTreeSet, contains}
use Rattle.std.specs.Cmp.Lexicographic.{slice_cmp}
use Rattle.std.specs.List.{list_any}
use Rattle.std.specs.Option.{option_map, unwrap_or}
use Rattle.std.specs.Ordering.{nat_cmp, is_eq}
use Rattle.std.specs.Prelude.{ℕ, ◌+◌, nat_lt, Bool, true, false, List, [], ◌∷◌, ◌++◌, map, Option, None, Some, if◌then◌else◌, ◌≡◌, length}
use Rattle.std.specs.Prelude.{IsSome}
use Rattle.std.specs.Str.{bytes_eq}
use Rattle.mm_numbering.specs.Below.{sha256, zero_bytes, Digest, Variant, Basic, Opt, Batch, normal_batch, own_values, is_long, Event}
use Rattle.mm_numbering.specs.Below.{event_of, CodeEvent, asked_batches, event_foreign_values}
use Rattle.mm_numbering.specs.declared.digests.DigestIndex.{DigestIndex}
use Rattle.mm_numbering.specs.declared.digests.NumberPair.{NumberPair}
use Rattle.mm_numbering.specs.declared.messages.Numbers.{Numbers}

-- the number, from 1, of the first that passes
abbrev pub number_of_first : {A : Type 0} → (A → Bool) → List A → Option ℕ
number_of_first p [] = None
number_of_first p (x ∷ xs) = if p x then Some 1 else option_map (λ n. n + 1) (number_of_first p xs)

-- the first number that is found, once this one is found or not
abbrev pub first_number_of : Option ℕ → Bool → ℕ → Option ℕ
first_number_of (Some first) is_found number = Some first
first_number_of None true number = Some number
first_number_of None false number = None

-- one more message, if it hasn't come before
abbrev pub messages_with : List (List ℕ) → List ℕ → List (List ℕ)
messages_with seen m = if list_any (bytes_eq m) seen then seen else seen ++ m ∷ []

abbrev pub message_digests : List (List ℕ) → List (List ℕ)
message_digests messages = map sha256 messages

-- a pair of numbers, each one higher
abbrev pub pair_plus_one : ℕ × ℕ → ℕ × ℕ
pair_plus_one pair = (pair.0 + 1, pair.1 + 1)

-- the first of these digests comes again at this number among the later ones; else the later ones
-- decide
abbrev pub shared_pair_with : Option ℕ → Option (ℕ × ℕ) → Option (ℕ × ℕ)
shared_pair_with (Some n) later = Some (1, n + 1)
shared_pair_with None later = option_map pair_plus_one later

-- of two equal digests the numbers: the lowest first, and then the lowest second
abbrev pub shared_pair_in : List (List ℕ) → Option (ℕ × ℕ)
shared_pair_in [] = None
shared_pair_in (d ∷ ds) = shared_pair_with (number_of_first (bytes_eq d) ds) (shared_pair_in ds)

abbrev pub is_zero : List ℕ → Bool
is_zero digest = bytes_eq digest zero_bytes

-- the number of the first digest of zeros
abbrev pub zero_number_in : List (List ℕ) → Option ℕ
zero_number_in digests = number_of_first is_zero digests

-- The pair once a digest of the number `second` has come, whose first has the number `first`.
abbrev pub lower_pair : Option (ℕ × ℕ) → ℕ → ℕ → Option (ℕ × ℕ)
lower_pair None first second = Some (first, second)
lower_pair (Some pair) first second =
    if nat_lt first pair.0 then Some (first, second) else Some pair

-- What the numbers in code say of a list.

abbrev pub pair_of : Option NumberPair → Option (ℕ × ℕ)
pair_of None = None
pair_of (Some pair) = Some (pair.first, pair.second)

-- the number of the first message of a digest
abbrev pub number_at : DigestIndex → List ℕ → Option ℕ
number_at it d = tree.get (slice_cmp nat_cmp) it.firsts d

-- These are the digests, in order.
pub record CountsDigests (digests : List (List ℕ)) (it : DigestIndex) : Type 0 where
  pub firsts : (d : List ℕ) → number_at it d ≡ number_of_first (bytes_eq d) digests
  pub count : it.count ≡ length digests
  pub shared : pair_of it.shared ≡ shared_pair_in digests
  pub zero : it.zero ≡ zero_number_in digests

-- what one more digest changes, whichever it is
pub record AddsDigest (digest : List ℕ) (old new : DigestIndex) : Type 0 where
  pub count : new.count ≡ old.count + 1
  pub zero : new.zero ≡ first_number_of old.zero (is_zero digest) (old.count + 1)

-- What one more message changes, if it is the first of its digest. Else that first one's number is
-- found, and nothing changes.
pub record AddsIfFirst (digest : List ℕ) (first : Option ℕ) (old new : DigestIndex) : Type 0 where
  pub found : first ≡ number_at old digest
  pub firsts : (d : List ℕ) → number_at new d
      ≡ (if is_eq (slice_cmp nat_cmp digest d) then Some (unwrap_or first (old.count + 1))
      else number_at old d)
  pub shared : new.shared ≡ old.shared
  pub adds : first ≡ None → AddsDigest digest old new
  pub stays : IsSome first → (new.count ≡ old.count) × (new.zero ≡ old.zero)

-- These are the messages, each once and in order.
pub record ListsMessages (seen : List (List ℕ)) (it : Numbers) : Type 0 where
  pub texts : it.texts ≡ seen
  pub counts : CountsDigests (message_digests seen) it.digests

-- The guards of batches in code.

abbrev pub events_of : List CodeEvent → List Event
events_of events = map event_of events

-- the batch, if it isn't too long
abbrev pub batches_unless_long : Batch → List Batch
batches_unless_long b = if is_long b then [] else normal_batch b ∷ []

abbrev pub digest_items : Option Digest → List (List ℕ)
digest_items None = []
digest_items (Some digest) = digest.bytes ∷ []

-- the set has these digests and no other
abbrev pub HasAll : List (List ℕ) → BTreeSet (List ℕ) → Type 0
HasAll digests set =
    (d : List ℕ) → contains (slice_cmp nat_cmp) set d ≡ list_any (bytes_eq d) digests

-- others extend the register
abbrev pub has_foreign_value : Event → Bool
has_foreign_value event = list_any (λ v. true) (event_foreign_values event)

-- others extend the register by a value that is one of these guards
abbrev pub is_secured : List (List ℕ) → Event → Bool
is_secured guards event = list_any (λ v. list_any (bytes_eq v) guards) (event_foreign_values event)

-- the first event at which others bring a guard, by the barrier: in Basic they aren't asked about
abbrev pub secured_event_by : Variant → List ℕ → List Event → Option ℕ
secured_event_by Basic barrier events = None
secured_event_by Opt barrier events =
    number_of_first (is_secured (own_values barrier (asked_batches events))) events

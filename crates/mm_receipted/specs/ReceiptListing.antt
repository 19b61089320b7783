-- The listing of a module that gives receipts, from that of the module inside. With it: the values
-- of the code as those of the definitions; what receipts prove of a run.
use Rattle.std.specs.List.{AllByRecursion}
use Rattle.std.specs.Prelude.{List, ℕ, ◌++◌, codes, ◌≡◌, ◌≢◌, ◌+◌, ◌^◌, ◌<◌, ◌≤◌, [], ◌∷◌, length, drop, slice_get, Some, Ok, ◌⊎◌}
use Rattle.std.proofs.Common.{refl, ap}
use Rattle.mm_bytes.specs.Limits.{last_position, longest_request}
use Rattle.mm_module.specs.Meaning.{Meaning, IsShort, outputs_from}
use Rattle.mm_listing.specs.Listing.{Listing, listing_of, IsListing, IsName, PromisesNothing}
use Rattle.mm_receipted.specs.declared.receipted.KeptState.{KeptState}
use Rattle.mm_receipted.specs.ReceiptedLaws.{receipted_is_lawful}
use Rattle.mm_receipted.specs.Receipts.{receipt_message, check_of_receipt}
use Rattle.mm_receipted.specs.Table.{receipted_module, ReceiptState, outcome_of, first_receipt_state}
use Rattle.mm_receipted.specs.Table as table

-- `receipt-` and the name of the module inside, whose requests it is asked
abbrev pub receipt_listing : Listing → Listing
receipt_listing inner =
    listing_of (codes "receipt-" ++ inner.name) (receipted_module inner.meaning) inner.request
    PromisesNothing

receipt_named : (name : List ℕ) → IsName name → IsName (codes "receipt-" ++ name)
receipt_named name is = record { begins = refl; letters = is.letters; other = refl }

pub receipt_is_listed : (meaning : Meaning) (inner : Listing)
    → IsListing meaning inner → IsShort meaning
    → IsListing (receipted_module meaning) (receipt_listing inner)
receipt_is_listed meaning inner is short = record {
  means = ap receipted_module is.means;
  lawful = receipted_is_lawful meaning is.lawful short;
  named = receipt_named inner.name is.named;
  asks = is.asks;
  keeps = λ requests tellings said. tt;
}

-- The values of the code as those of the definitions.

abbrev pub kept_state_of : KeptState → table.ReceiptState
kept_state_of kept = record { count = kept.count; key = kept.key; inner = kept.inner.now }

-- What receipts prove of a run.

-- A request is run under this key, and this is the message of its receipt.
pub record IsTaggedBy (inner : Meaning) (key : List ℕ) (kept : ReceiptState)
    (request message : List ℕ) : Type 0 where
  pub room : kept.count ≢ last_position
  pub keyed : kept.key ≡ Some key
  pub is : message ≡ receipt_message (kept.count + 1) request (inner.says kept.inner request)

-- The message of one of these requests, run one after another.
abbrev pub IsTagged : Meaning → List ℕ → ReceiptState → List (List ℕ) → List ℕ → Type 0
IsTagged inner key kept [] message = ⊥
IsTagged inner key kept (request ∷ requests) message =
    IsTaggedBy inner key kept request message ⊎ IsTagged inner key (outcome_of inner kept request).0
    requests message

-- a request has fewer than 2^32 bytes
abbrev pub IsCounted : List ℕ → Type 0
IsCounted request = length request < 2 ^ 32

-- An output that `verify` accepts, with its message among those that were tagged: it isn't forged.
pub record IsUnforged (inner : Meaning) (requests : List (List ℕ)) (key : List ℕ) (position : ℕ)
    (request output : List ℕ) : Type 0 where
  pub near : position ≤ last_position
  pub short : length request ≤ longest_request
  pub accepted : check_of_receipt key position request output ≡ Ok tt
  pub tagged : IsTagged inner key (first_receipt_state inner) requests
      (receipt_message position request (drop 65 output))

-- the request at this position, from 1, and what was said to it
pub record WasRun (inner : Meaning) (requests : List (List ℕ)) (position : ℕ)
    (request output : List ℕ) : Type 0 where
  pub before : ℕ
  pub place : position ≡ before + 1
  pub asked : slice_get requests before ≡ Some request
  pub said : slice_get (outputs_from (receipted_module inner)
      (receipted_module inner).first requests)
      before ≡ Some output

-- an unforged receipt tells the request at its position and what was said to it
abbrev pub ReceiptsAreTrue : Type 0
ReceiptsAreTrue = (inner : Meaning) (requests : List (List ℕ)) → AllByRecursion IsCounted requests
    → (key : List ℕ) (position : ℕ) (request output : List ℕ)
    → IsUnforged inner requests key position request output
    → WasRun inner requests position request output

-- two unforged receipts of one position are of one request and one output
abbrev pub ReceiptsDoNotClash : Type 0
ReceiptsDoNotClash =
    (inner : Meaning) (requests : List (List ℕ)) → AllByRecursion IsCounted requests
    → (key : List ℕ) (position : ℕ) (request output other said : List ℕ)
    → IsUnforged inner requests key position request output
    → IsUnforged inner requests key position other said
    → (request ≡ other) × (output ≡ said)

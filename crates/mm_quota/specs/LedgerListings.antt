-- The listings of both ledgers. With it: the requests of generated schedules; the two ledgers;
-- accounts that a request does not name stay.
use Rattle.std.specs.Fmt.{decimal}
use Rattle.std.specs.Prelude.{ℕ, ◌/◌, ◌%◌, ◌==◌, nat_lt, List, ◌∷◌, ◌++◌, if◌then◌else◌, codes, ◌≡◌, ◌≤◌, true, [], length, ◌≢◌, ◌^◌, ◌<◌}
use Rattle.std.specs.Prelude.{Bool, false, nat_le, Option, Some, None}
use Rattle.std.specs.Str.{bytes_eq}
use Rattle.std.proofs.Common.{arith, refl, sym, ◌∙◌, ap}
use Rattle.std.proofs.lemmas.Slice.Eq.{bytes_eq-Decides}
use Rattle.mm_module.specs.LineLaws.{IsText, is_unbroken}
use Rattle.mm_module.specs.Meaning.{Meaning, IsLawful, IsShort, words_of}
use Rattle.mm_listing.specs.Listing.{Listing, listing_of, IsListing, PromisesNothing}
use Rattle.mm_listing.specs.RequestLaws.{both, counted, in_both, listed, literal, numbered, request, word}
use Rattle.mm_quota.specs.LedgerLaws.{quota_is_lawful, quota_is_short, account_of_name-found, others-after, put-place, IsQuotaRequest}
use Rattle.mm_quota.specs.LedgerLaws.{request_of-IsQuotaRequest, IsPutIfAny, decision_of-is, outcome-IsOutcome}
use Rattle.mm_quota.specs.SpellingLaws.{is_state-SpellsLedger, ledger_of-spelling_of}
use Rattle.mm_quota.specs.Table.{quota, LedgerAccount, LedgerRequest, Sum, On, account_of_name, accounts_after, outcome_of, request_of}
use Rattle.mm_quota.specs.Table.{is_account, spelling_of, is_state, ledger_of, outcome_of_bytes}
use Rattle.mm_quota.specs.Views.{IsLedger}

-- The requests of generated schedules.

-- one of sixteen accounts
abbrev pub account_name : ℕ → List ℕ
account_name choice = codes "a" ++ decimal (choice / 8 % 16)

-- an amount below 500
abbrev pub amount_text : ℕ → List ℕ
amount_text choice = decimal (choice / 128 % 500)

abbrev pub account_request : ℕ → List ℕ
account_request choice =
    if choice % 8 == 0 then codes "open " ++ account_name choice ++ codes " 100000"
    else if nat_lt (choice % 8) 4
    then codes "use " ++ account_name choice ++ 32 ∷ amount_text choice
    else if nat_lt (choice % 8) 6
    then codes "free " ++ account_name choice ++ 32 ∷ amount_text choice
    else if choice % 8 == 6 then codes "left " ++ account_name choice
    else codes "sum"

-- The two ledgers.

-- id 3 with 256 accounts, and id 128 with 16,384
abbrev pub small_ledger : Meaning
small_ledger = quota 3 256

abbrev pub wide_ledger : Meaning
wide_ledger = quota 128 16384

pub small_ledger_is_lawful : IsLawful small_ledger
small_ledger_is_lawful = quota_is_lawful 3 256 (omega arith) (omega arith)

pub small_ledger_is_short : IsShort small_ledger
small_ledger_is_short = quota_is_short 3

pub wide_ledger_is_lawful : IsLawful wide_ledger
wide_ledger_is_lawful = quota_is_lawful 128 16384 (omega arith) (omega arith)

-- The listings of both ledgers.

abbrev pub quota_listing : Listing
quota_listing =
    listing_of (codes "quota") small_ledger account_request PromisesNothing

abbrev pub ledger_listing : Listing
ledger_listing =
    listing_of (codes "ledger") wide_ledger account_request PromisesNothing

-- a word, an account, and an amount
moving : (front : List ℕ) (choice : ℕ) → is_unbroken front ≡ true → length front ≤ 20
    → IsText 256 (front ++ decimal (choice / 8 % 16) ++ 32 ∷ decimal (choice / 128 % 500))
moving front choice is few =
    let account = numbered front (choice / 8 % 16) is few (omega arith) in
    let amount = numbered (32 ∷ []) (choice / 128 % 500) refl (omega arith) (omega arith) in
    request 80 _ (omega arith)
    (both 40 40 (front ++ decimal (choice / 8 % 16)) (32 ∷ decimal (choice / 128 % 500)) account
    amount)

-- an account that is opened
opening : (choice : ℕ) → IsText 256 (codes "open a" ++ decimal (choice / 8 % 16) ++ codes " 100000")
opening choice =
    let account = numbered (codes "open a") (choice / 8 % 16) refl (omega arith) (omega arith) in
    let limit = literal (codes " 100000") refl (omega arith) in
    request 60 _ (omega arith)
    (both 40 20 (codes "open a" ++ decimal (choice / 8 % 16)) (codes " 100000") account limit)

asks : (choice : ℕ) → IsText 256 (account_request choice)
asks choice =
    in_both (IsText 256) (choice % 8 == 0) _ _ (opening choice)
    (in_both (IsText 256) (nat_lt (choice % 8) 4) _ _
    (moving (codes "use a") choice refl (omega arith))
    (in_both (IsText 256) (nat_lt (choice % 8) 6) _ _
    (moving (codes "free a") choice refl (omega arith))
    (in_both (IsText 256) (choice % 8 == 6) _ _
    (counted (codes "left a") (choice / 8 % 16) refl (omega arith) (omega arith))
    (word (codes "sum") refl (omega arith)))))

pub quota_is_listed : IsListing small_ledger quota_listing
quota_is_listed =
    listed quota_listing (record { begins = refl; letters = refl; other = refl })
    small_ledger_is_lawful asks (λ requests tellings said. tt)

pub ledger_is_listed : IsListing wide_ledger ledger_listing
ledger_is_listed =
    listed ledger_listing (record { begins = refl; letters = refl; other = refl })
    wide_ledger_is_lawful asks (λ requests tellings said. tt)

-- Accounts that a request does not name stay.

-- the name that a request gives
abbrev pub name_in : Option LedgerRequest → Option (List ℕ)
name_in (Some (On name action)) = Some name
name_in (Some Sum) = None
name_in None = None

-- every other account is in both states the same, or in neither
abbrev pub OthersStay : List ℕ → List ℕ → List ℕ → Type 0
OthersStay state request after =
    (name : List ℕ) → name_in (request_of (words_of request)) ≢ Some name
    → account_of_name name (ledger_of after) ≡ account_of_name name (ledger_of state)

settled-others : (full : Bool) (wanted name : List ℕ) (accounts : List LedgerAccount)
    (change : Option LedgerAccount)
    → IsPutIfAny full wanted (account_of_name wanted accounts) change → (wanted ≡ name → ⊥)
    → account_of_name name (accounts_after accounts change) ≡ account_of_name name accounts
settled-others full wanted name accounts None is apart = refl
settled-others full wanted name accounts (Some account) is apart =
    let named = is.named in
    others-after (put-place account accounts) name
    (differ (bytes_eq name account.name) (λ same. apart
    (sym named ∙ sym ((bytes_eq-Decides name account.name).0 same))))
  where
    differ : (flag : Bool) → (flag ≡ true → ⊥) → flag ≡ false
    differ flag apart = grind arith

pub others_stay : (most : ℕ) (state request : List ℕ) → most < 2 ^ 16 → is_state most state ≡ true
    → OthersStay state request (spelling_of (outcome_of_bytes most state request).0)
unfolding outcome_of_bytes
others_stay most state request small is = λ name apart.
    let ledger = (is_state-SpellsLedger most state is).ledger in
    ap (λ (accounts : List LedgerAccount). account_of_name name accounts)
    (ledger_of-spelling_of most _ small
    (outcome-IsOutcome most (ledger_of state) request small ledger).state)
    ∙ by name ledger (request_of (words_of request))
    (request_of-IsQuotaRequest (words_of request)) apart
  where
    by : (name : List ℕ) → IsLedger most (ledger_of state) → (asked : Option LedgerRequest)
        → IsQuotaRequest asked → name_in asked ≢ Some name
        → account_of_name name (outcome_of most (ledger_of state) asked).0
        ≡ account_of_name name (ledger_of state)
    by name ledger (Some Sum) is apart = refl
    by name ledger None is apart = refl
    by name ledger (Some (On wanted action)) is apart =
        let accounts = ledger_of state in
        let d = decision_of-is (nat_le most (length accounts)) wanted
        (account_of_name wanted accounts) action is.0 is.1
        (account_of_name-found is_account wanted accounts ledger.good) in
        settled-others (nat_le most (length accounts)) wanted name accounts _ d.change
        (λ same. apart (ap (λ (n : List ℕ). Some n) same))

-- Laws of lists of accounts. With it: the laws of the quota ledger.
use Rattle.std.specs.Cmp.Lexicographic.{texts_ties}
use Rattle.std.specs.declared.cmp.Ordering.{Ordering}
use Rattle.std.specs.declared.cmp.Ordering.TheVariants.{Less, Equal, Greater}
use Rattle.std.specs.List.{list_all}
use Rattle.std.specs.Ordering.{is_lt, is_eq, ordering_reverse, match_ordering}
use Rattle.std.specs.Prelude.{◌≡◌, ℕ, suc, Bool, true, false, List, [], ◌∷◌, length, Option, Some, None, is_some, if◌then◌else◌, ◌+◌, ◌*◌}
use Rattle.std.specs.Prelude.{◌^◌, ◌<◌, ◌≤◌, nat_le}
use Rattle.std.specs.Str.{bytes_eq}
use Rattle.std.proofs.Common.{refl, ◌∙◌, ap, arith, sym, subst}
use Rattle.std.proofs.lemmas.Bool.Decides.{nat_tests}
use Rattle.std.proofs.lemmas.Cmp.{nat_list_cmp_total}
use Rattle.std.proofs.lemmas.Slice.Eq.{bytes_eq-Decides}
use Rattle.mm_bytes.specs.Limits.{limit_of}
use Rattle.mm_module.specs.LineLaws.{and-true, and-both, IsText, is_unbroken-decimal, length-decimal}
use Rattle.mm_module.specs.Meaning.{IsLawful, IsShort, words_of}
use Rattle.mm_module.specs.RunLaws.{Table, IsTable, IsOutcome, table_by, table_is_lawful, table_is_short}
use Rattle.mm_quota.specs.SpellingLaws.{is_state-SpellsLedger, are_bytes-state, length-spelling_of, is_state-spelling_of}
use Rattle.mm_quota.specs.SpellingLaws.{ledger_of-spelling_of, IsAccount-from, is_account-made}
use Rattle.mm_quota.specs.Table.{LedgerAccount, order_of, account_of_name, accounts_with, is_rising_from, LedgerAction, Open, LedgerRequest}
use Rattle.mm_quota.specs.Table.{Sum, On, LedgerOutput, IsUsed, IsOver, IsUnder, HasLeft, HasSum, used_total, decision_of, accounts_after}
use Rattle.mm_quota.specs.Table.{outcome_of, text_of, is_name, request_of, is_account, count_bytes, spelling_of, ledger_of}
use Rattle.mm_quota.specs.Table.{outcome_of_bytes, quota, greatest_limit}
use Rattle.mm_quota.specs.Views.{IsLedger}

-- names that the order tells apart are not the same bytes
pub bytes_eq-order : (name other : List ℕ) (order : Ordering) → order_of name other ≡ order → bytes_eq name other ≡ is_eq order
bytes_eq-order name other order is = texts_ties name other ∙ ap is_eq is

-- names that the order does not tell apart are one
order-Equal : (name other : List ℕ) → order_of name other ≡ Equal → name ≡ other
order-Equal name other same = (bytes_eq-Decides name other).0 (bytes_eq-order name other Equal same)

-- the order the other way round
order-turned : (name other : List ℕ) → order_of name other ≡ Greater → order_of other name ≡ Less
order-turned name other is = nat_list_cmp_total.antisymm other name ∙ ap ordering_reverse is

-- the names rise from the first on, and then from the one behind it
record RisesOn (previous : List ℕ) (account : LedgerAccount) (accounts : List LedgerAccount) : Type 0 where
  first : order_of previous account.name ≡ Less
  later : is_rising_from account.name accounts ≡ true

is_lt-Less : (order : Ordering) → is_lt order ≡ true → order ≡ Less
is_lt-Less order is = grind arith

rises-on : (previous : List ℕ) (account : LedgerAccount) (accounts : List LedgerAccount)
    → is_rising_from previous (account ∷ accounts) ≡ true → RisesOn previous account accounts
rises-on previous account accounts rising =
    let w = and-true (is_lt (order_of previous account.name)) (is_rising_from account.name accounts) rising
    in record { first = is_lt-Less _ w.0; later = w.1 }

-- an account of another name is passed over
pub account_of_name-other : (name : List ℕ) (account : LedgerAccount) (accounts : List LedgerAccount) → bytes_eq name account.name ≡ false
    → account_of_name name (account ∷ accounts) ≡ account_of_name name accounts
account_of_name-other name account accounts other = rw other refl

-- an account of the name is found
pub account_of_name-this : (name : List ℕ) (account : LedgerAccount) (accounts : List LedgerAccount) → bytes_eq name account.name ≡ true
    → account_of_name name (account ∷ accounts) ≡ Some account
account_of_name-this name account accounts this = rw this refl

-- where the names rise from a greater one on, there is no account of the name
pub account_of_name-absent : (name previous : List ℕ) (accounts : List LedgerAccount) → order_of name previous ≡ Less
    → is_rising_from previous accounts ≡ true → account_of_name name accounts ≡ None
account_of_name-absent name previous [] less rising = refl
account_of_name-absent name previous (account ∷ accounts) less rising =
    let r = rises-on previous account accounts rising in
    let below = nat_list_cmp_total.trans name previous account.name less r.first in
    account_of_name-other name account accounts (bytes_eq-order name account.name Less below)
    ∙ account_of_name-absent name account.name accounts below r.later

-- Where an account is put: behind all, before a greater name, in the place of its name, or behind
-- a smaller one.
pub data PutsAccount (new : LedgerAccount) : List LedgerAccount → List LedgerAccount → Type 0 where
  Last : PutsAccount new [] (new ∷ [])
  Before : {account : LedgerAccount} {accounts : List LedgerAccount} → order_of new.name account.name ≡ Less
      → PutsAccount new (account ∷ accounts) (new ∷ account ∷ accounts)
  Instead : {account : LedgerAccount} {accounts : List LedgerAccount} → order_of new.name account.name ≡ Equal
      → PutsAccount new (account ∷ accounts) (new ∷ accounts)
  Behind : {account : LedgerAccount} {accounts after : List LedgerAccount}
      → order_of new.name account.name ≡ Greater → PutsAccount new accounts after
      → PutsAccount new (account ∷ accounts) (account ∷ after)

puts-by : (new account : LedgerAccount) (accounts : List LedgerAccount) (order : Ordering) → order_of new.name account.name ≡ order
    → PutsAccount new accounts (accounts_with new accounts)
    → PutsAccount new (account ∷ accounts) (match_ordering order (new ∷ account ∷ accounts) (new ∷ accounts)
    (account ∷ accounts_with new accounts))
puts-by new account accounts Less is later = Before is
puts-by new account accounts Equal is later = Instead is
puts-by new account accounts Greater is later = Behind is later

pub put-place : (new : LedgerAccount) (accounts : List LedgerAccount) → PutsAccount new accounts (accounts_with new accounts)
put-place new [] = Last
put-place new (account ∷ accounts) = puts-by new account accounts _ refl (put-place new accounts)

-- a put keeps names that rise
pub rises-after : {new : LedgerAccount} {accounts after : List LedgerAccount} → PutsAccount new accounts after → (previous : List ℕ)
    → order_of previous new.name ≡ Less → is_rising_from previous accounts ≡ true → is_rising_from previous after ≡ true
rises-after Last previous less rising = rw less refl
rises-after (Before {account} {accounts} is) previous less rising = rw (less, is) (rises-on previous account accounts rising).later
rises-after {new = new} (Instead {account} {accounts} is) previous less rising =
    rw (less, order-Equal new.name account.name is)
    (rises-on previous account accounts rising).later
rises-after {new = new} (Behind {account} {accounts} is later) previous less rising =
    let r = rises-on previous account accounts rising in
    rw r.first
    (rises-after later account.name (order-turned new.name account.name is) r.later)

-- and a test of each account
pub all-after : {new : LedgerAccount} {accounts after : List LedgerAccount} → PutsAccount new accounts after
    → (p : LedgerAccount → Bool) → p new ≡ true → list_all p accounts ≡ true → list_all p after ≡ true
all-after Last p is all = rw is refl
all-after (Before _) p is all = rw is all
all-after (Instead {account} {accounts} _) p is all = rw is (and-true (p account) (list_all p accounts) all).1
all-after (Behind {account} {accounts} _ later) p is all =
    let w = and-true (p account) (list_all p accounts) all in
    and-both _ _ w.0 (all-after later p is w.1)

-- it adds an account where there is none of the name
pub length-after : {new : LedgerAccount} {accounts after : List LedgerAccount} → PutsAccount new accounts after → (previous : List ℕ)
    → is_rising_from previous accounts ≡ true
    → length after ≡ (if is_some (account_of_name new.name accounts) then length accounts else suc (length accounts))
length-after Last previous rising = refl
length-after {new = new} (Before {account} {accounts} is) previous rising =
    rw (
      bytes_eq-order new.name account.name Less is,
      account_of_name-absent new.name account.name
          accounts is (rises-on previous account accounts rising).later,
    ) refl
length-after {new = new} (Instead {account} is) previous rising = rw (bytes_eq-order new.name account.name Equal is) refl
length-after {new = new} (Behind {account} {accounts} is later) previous rising =
    let more = length-after later account.name (rises-on previous account accounts rising).later in
    rw (bytes_eq-order new.name account.name Greater is) (grind (arith, more))

-- accounts of other names stay
pub others-after : {new : LedgerAccount} {accounts after : List LedgerAccount} → PutsAccount new accounts after → (name : List ℕ)
    → bytes_eq name new.name ≡ false → account_of_name name after ≡ account_of_name name accounts
others-after Last name other = rw other refl
others-after (Before _) name other = rw other refl
others-after {new = new} (Instead {account} {accounts} is) name other = rw (other, ← order-Equal new.name account.name is, other) refl
others-after (Behind {account} _ later) name other =
    ap (λ found. if bytes_eq name account.name then Some account else found)
    (others-after later name other)

-- an account that was found has the name and passes the test of all
pub record IsFound (p : LedgerAccount → Bool) (wanted : List ℕ) (account : LedgerAccount) : Type 0 where
  pub named : account.name ≡ wanted
  pub passed : p account ≡ true

abbrev pub IsFoundIfAny : (LedgerAccount → Bool) → List ℕ → Option LedgerAccount → Type 0
IsFoundIfAny p name None = Unit {0}
IsFoundIfAny p name (Some account) = IsFound p name account

found-first : (p : LedgerAccount → Bool) (name : List ℕ) (account : LedgerAccount) (more : Option LedgerAccount) → p account ≡ true
    → IsFoundIfAny p name more
    → IsFoundIfAny p name (if bytes_eq name account.name then Some account else more)
found-first p name account more passed later = grind (arith, bytes_eq-Decides name account.name)

pub account_of_name-found : (p : LedgerAccount → Bool) (name : List ℕ) (accounts : List LedgerAccount) → list_all p accounts ≡ true
    → IsFoundIfAny p name (account_of_name name accounts)
account_of_name-found p name [] all = tt
account_of_name-found p name (account ∷ accounts) all =
    let w = and-true (p account) (list_all p accounts) all in
    found-first p name account _ w.0 (account_of_name-found p name accounts w.1)

-- The laws of the quota ledger.

-- an action and a request that can be read
abbrev pub IsAction : LedgerAction → Type 0
IsAction (Open limit) = limit ≤ greatest_limit
IsAction _ = Unit {0}

abbrev pub IsQuotaRequest : Option LedgerRequest → Type 0
IsQuotaRequest (Some (On name action)) = (is_name name ≡ true) × IsAction action
IsQuotaRequest (Some Sum) = Unit {0}
IsQuotaRequest None = Unit {0}

pub request_of-IsQuotaRequest : (words : List (List ℕ)) → IsQuotaRequest (request_of words)
unfolding request_of
request_of-IsQuotaRequest words = grind (arith, nat_tests)

-- what is said, with a number of 64 bits
abbrev pub SaysNumber : LedgerOutput → Type 0
SaysNumber (IsUsed used) = used < 2 ^ 64
SaysNumber (IsOver left) = left < 2 ^ 64
SaysNumber (IsUnder used) = used < 2 ^ 64
SaysNumber (HasLeft left) = left < 2 ^ 64
SaysNumber (HasSum sum) = sum < 2 ^ 64
SaysNumber _ = Unit {0}

-- an account that is put: it has the name, and stands where one of the name stood, or where there
-- is room
pub record IsPut (full : Bool) (wanted : List ℕ) (found : Option LedgerAccount)
    (account : LedgerAccount) : Type 0 where
  pub good : is_account account ≡ true
  pub named : account.name ≡ wanted
  pub room : is_some found ≡ false → full ≡ false

abbrev pub IsPutIfAny : Bool → List ℕ → Option LedgerAccount → Option LedgerAccount → Type 0
IsPutIfAny full name found None = Unit {0}
IsPutIfAny full name found (Some account) = IsPut full name found account

pub record IsDecision (full : Bool) (wanted : List ℕ) (found : Option LedgerAccount)
    (decision : Option LedgerAccount × LedgerOutput) : Type 0 where
  pub change : IsPutIfAny full wanted found decision.0
  pub said : SaysNumber decision.1

pub decision_of-is : (full : Bool) (name : List ℕ) (found : Option LedgerAccount) (action : LedgerAction) → is_name name ≡ true
    → IsAction action
    → IsFoundIfAny is_account name found → IsDecision full name found (decision_of full name found action)
decision_of-is full name found action named is there = grind (arith, nat_tests, IsAccount-from, is_account-made)

-- a name is greater than no bytes
order-empty : (name : List ℕ) → 1 ≤ length name → order_of [] name ≡ Less
order-empty [] some = absurd (omega arith)
order-empty (x ∷ xs) some = refl

-- a decision keeps a ledger
settled-ledger : (most : ℕ) (accounts : List LedgerAccount) (name : List ℕ) (change : Option LedgerAccount)
    → IsPutIfAny (nat_le most (length accounts)) name (account_of_name name accounts) change → IsLedger most accounts
    → IsLedger most (accounts_after accounts change)
settled-ledger most accounts name None is ledger = ledger
settled-ledger most accounts name (Some account) is ledger =
    let kept = IsAccount-from account is.good in
    record {
      few =
          let longer = length-after (put-place account accounts) [] ledger.rising in
          let room = is.room in grind (arith, nat_tests);
      good = all-after (put-place account accounts) is_account is.good ledger.good;
      rising = rises-after (put-place account accounts) [] (order-empty account.name kept.named.some) ledger.rising;
    }

-- the sum of what is used
pub used_total-le : (accounts : List LedgerAccount) → list_all is_account accounts ≡ true → used_total accounts
    ≤ greatest_limit * length accounts
used_total-le [] all = omega arith
used_total-le (account ∷ accounts) all =
    let w = and-true (is_account account) (list_all is_account accounts) all in
    let kept = IsAccount-from account w.0 in
    omega (arith, kept.limited, kept.within, used_total-le accounts w.1)

outcome_of-is : (most : ℕ) (accounts : List LedgerAccount) (request : Option LedgerRequest) → most < 2 ^ 16 → IsLedger most accounts
    → IsQuotaRequest request → IsOutcome (IsLedger most) SaysNumber (outcome_of most accounts request)
outcome_of-is most accounts (Some Sum) small ledger asked =
    record { state = ledger; said = omega (arith, used_total-le accounts ledger.good, ledger.few) }
outcome_of-is most accounts (Some (On name action)) small ledger asked =
    let d = decision_of-is (nat_le most (length accounts)) name (account_of_name name accounts) action
    asked.0 asked.1
    (account_of_name-found is_account name accounts ledger.good) in
    record { state = settled-ledger most accounts name _ d.change ledger; said = d.said }
outcome_of-is most accounts None small ledger asked = record { state = ledger; said = tt }

pub outcome-IsOutcome : (most : ℕ) (accounts : List LedgerAccount) (request : List ℕ) → most < 2 ^ 16 → IsLedger most accounts
    → IsOutcome (IsLedger most) SaysNumber (outcome_of most accounts (request_of (words_of request)))
outcome-IsOutcome most accounts request small ledger =
    outcome_of-is most accounts _ small ledger (request_of-IsQuotaRequest (words_of request))

-- what is said has at most 26 bytes, with no LF
text_of-IsText : (says : LedgerOutput) → SaysNumber says → IsText 26 (text_of says)
text_of-IsText says is = grind (arith, length-decimal, is_unbroken-decimal)

empty_bytes : 0 ∷ 0 ∷ [] ≡ spelling_of []
unfolding spelling_of count_bytes
empty_bytes = refl

abbrev pub quota_table : ℕ → Table (List LedgerAccount)
quota_table most = table_by [] ledger_of spelling_of request_of (outcome_of most) text_of

-- a ledger that its id allows is a module
pub quota_is_table : (id most : ℕ) → most < 2 ^ 16 → IsTable (quota_table most) (quota id most) (IsLedger most) (2 + 49 * most) 26
unfolding outcome_of_bytes
quota_is_table id most small = record {
  begins = empty_bytes;
  first = record { few = omega arith; good = refl; rising = refl };
  reads = λ bytes is. (is_state-SpellsLedger most bytes is).ledger;
  spells = λ accounts ledger. is_state-spelling_of most accounts small ledger;
  back = λ accounts ledger. ledger_of-spelling_of most accounts small ledger;
  next = λ bytes request. refl;
  says = λ bytes request. refl;
  stays = λ accounts request ledger. (outcome-IsOutcome most accounts request small ledger).state;
  tells = λ accounts request ledger.
      text_of-IsText _ (outcome-IsOutcome most accounts request small ledger).said;
  fits = λ bytes is.
      let h = is_state-SpellsLedger most bytes is in
      subst (λ (s : List ℕ). length s ≤ 2 + 49 * most) (sym h.spelled)
      (length-spelling_of most _ h.ledger);
  bytes = are_bytes-state most;
}

pub quota_is_lawful : (id most : ℕ) → most < 2 ^ 16 → 2 + 49 * most ≤ limit_of id → IsLawful (quota id most)
quota_is_lawful id most small allowed = table_is_lawful (quota_is_table id most small) allowed (omega arith)

-- the small ledger is short
pub quota_is_short : (id : ℕ) → IsShort (quota id 256)
quota_is_short id = table_is_short (quota_is_table id 256 (omega arith)) (omega arith) (omega arith)

-- Going through the accounts of a ledger. With it: what an action does to the bytes of a ledger.
use Rattle.std.specs.declared.cmp.Ordering.{Ordering}
use Rattle.std.specs.declared.cmp.Ordering.TheVariants.{Less, Equal, Greater}
use Rattle.std.specs.List.{list_all}
use Rattle.std.specs.Ordering.{is_lt, match_ordering}
use Rattle.std.specs.Prelude.{ℕ, ◌-◌, min}
use Rattle.std.proofs.Math.Seq.{take-append_seam}
use Rattle.mm_module.specs.Batch.{are_bytes}
use Rattle.mm_module.specs.LineLaws.{are_bytes-drop}
use Rattle.mm_quota.specs.declared.account.Account as declared
use Rattle.mm_quota.specs.declared.place.AccountPlace.{AccountPlace}
use Rattle.mm_quota.specs.LedgerLaws.{IsAction, IsQuotaRequest, request_of-IsQuotaRequest, IsPutIfAny, IsPut, decision_of-is}
use Rattle.mm_quota.specs.LedgerListings.{OthersStay, others_stay}
use Rattle.mm_quota.specs.Table.{accounts_of, is_ledger, is_state, spelling_of}
use Rattle.mm_quota.specs.Views.{IsAccountPlace, as_account}
use Rattle.mm_quota.proofs.Below.{◌≡◌, suc, ◌+◌, ◌^◌, ◌<◌, ◌≤◌, ◌&&◌, Bool, true, false, nat_le, List, [], ◌∷◌, ◌++◌, length, take, drop}
use Rattle.mm_quota.proofs.Below.{Option, Some, None, option_map, option_and_then, refl, sym, ◌∙◌, ap, arith, subst, append_assoc}
use Rattle.mm_quota.proofs.Below.{length-append, nat_tests, and-true, LedgerAccount, order_of, account_of_name, accounts_with, used_total}
use Rattle.mm_quota.proofs.Below.{is_account, is_rising_from, account_bytes, body_of, account_at, accounts_from, count_of_bytes, has_ledger}
use Rattle.mm_quota.proofs.Below.{ledger_of, used_total-le, account_of_name-other, account_of_name-this, account_of_name-absent}
use Rattle.mm_quota.proofs.Below.{bytes_eq-order, account_at-account_bytes, ReadsBody, accounts_from-reads, IsSpelled, has_rising_from}
use Rattle.mm_quota.proofs.Below.{Result, Ok, Err, IfOk, is_some, if◌then◌else◌, LedgerAction, LedgerRequest, On, LedgerOutput, decision_of}
use Rattle.mm_quota.proofs.Below.{is_name, request_of, count_bytes, outcome_of_bytes, greatest_limit, IsFoundIfAny, account_of_name-found}
use Rattle.mm_quota.proofs.Below.{length-after, put-place, is_state-SpellsLedger, IsAccount-from}

-- the rest, where an account stands in front of it
pub follow-front : (previous : List ℕ) (account : LedgerAccount) (accounts : Option (List LedgerAccount))
    → has_rising_from previous (option_map (λ others. account ∷ others) accounts) ≡ (is_account account
    && (is_lt (order_of previous account.name) && has_rising_from account.name accounts))
follow-front previous account accounts = grind arith

-- the accounts that are left, whose bytes are the rest
pub record Left (rest : List ℕ) (count number : ℕ) (todo : List LedgerAccount) : Type 0 where
  pub counted : length todo + number ≡ count
  pub good : list_all is_account todo ≡ true
  pub spelled : rest ≡ body_of todo

-- the first of them is read
record ReadsNext (rest : List ℕ) (count number : ℕ) (todo : List LedgerAccount) : Type 0 where
  account : LedgerAccount
  others : List LedgerAccount
  is : todo ≡ account ∷ others
  read : account_at rest ≡ Some (account, body_of others)
  later : Left (body_of others) count (number + 1) others

reads-next : (rest : List ℕ) (count number : ℕ) (todo : List LedgerAccount) → Left rest count number todo → number < count
    → ReadsNext rest count number todo
reads-next rest count number [] left going = absurd (omega (arith, left.counted))
reads-next rest count number (account ∷ others) left going =
    let w = and-true (is_account account) (list_all is_account others) left.good in
    record {
      account = account;
      others = others;
      is = refl;
      read = ap account_at left.spelled ∙ account_at-account_bytes account (body_of others) w.0;
      later = record { counted = omega (arith, left.counted); good = w.1; spelled = refl };
    }

-- a sum that goes on
pub record Summing (bytes rest : List ℕ) (count number total : ℕ) : Type 0 where
  pub todo : List LedgerAccount
  pub left : Left rest count number todo
  pub summed : total + used_total todo ≡ used_total (ledger_of bytes)

-- what the next account gives
abbrev pub NextSum : List ℕ → ℕ → ℕ → ℕ → Option (LedgerAccount × List ℕ) → Type 0
NextSum bytes count number total None = ⊥
NextSum bytes count number total (Some front) =
    (total + front.0.used ≤ used_total (ledger_of bytes)) × Summing bytes front.1 count (number + 1) (total + front.0.used)

pub Summing-given : (bytes rest : List ℕ) (count number total : ℕ) (front : Option (LedgerAccount × List ℕ))
    → Summing bytes rest count number total → number < count → front ≡ account_at rest → NextSum bytes count number total front
Summing-given bytes rest count number total front is going read =
    let n = reads-next rest count number is.todo is.left going in
    let used : used_total is.todo ≡ n.account.used + used_total n.others = ap used_total n.is in
    subst (NextSum bytes count number total) (sym (read ∙ n.read))
    (omega (arith, used, is.summed), record { todo = n.others; left = n.later; summed = omega (arith, used, is.summed) })

-- the sum has 64 bits
pub IsSpelled-sum : (bytes : List ℕ) → IsSpelled bytes → used_total (ledger_of bytes) < 2 ^ 64
IsSpelled-sum bytes is = omega (arith, used_total-le (ledger_of bytes) is.ledger.good, is.ledger.few)

-- a search that goes on: every account so far comes before the name
pub record Finding (bytes name body rest : List ℕ) (count number : ℕ) : Type 0 where
  pub todo : List LedgerAccount
  pub front : List ℕ
  pub previous : List ℕ
  pub left : Left rest count number todo
  pub rising : is_rising_from previous todo ≡ true
  pub whole : body ≡ front ++ rest
  pub fits : length rest ≤ length body
  pub named : account_of_name name (ledger_of bytes) ≡ account_of_name name todo
  pub puts : (new : LedgerAccount) → new.name ≡ name → body_of (accounts_with new (ledger_of bytes)) ≡ front
      ++ body_of (accounts_with new todo)

pub Finding-begins : (bytes name body : List ℕ) (count : ℕ) → IsSpelled bytes → body ≡ drop 2 bytes → count ≡ length (ledger_of bytes)
    → Finding bytes name body body count 0
Finding-begins bytes name body count is body_is count_is =
    record {
      todo = ledger_of bytes;
      front = [];
      previous = [];
      left = record { counted = omega arith; good = is.ledger.good; spelled = body_is ∙ is.body };
      rising = is.ledger.rising;
      whole = refl;
      fits = omega arith;
      named = refl;
      puts = λ new is_named. refl;
    }

-- what is put stands between the bytes in front of the rest and these bytes
abbrev pub Stands : List ℕ → List ℕ → List ℕ → List ℕ → List ℕ → Type 0
Stands bytes name body rest back =
    (new : LedgerAccount) → new.name ≡ name → body_of (accounts_with new (ledger_of bytes)) ≡ take (length body - length rest) body
    ++ (account_bytes new ++ back)

pub record NextPlace (bytes name body rest : List ℕ) (count number : ℕ) (account : LedgerAccount) (others : List ℕ) : Type 0 where
  pub greater : order_of name account.name ≡ Greater → Finding bytes name body others count (number + 1)
  pub equal : order_of name account.name ≡ Equal → (account_of_name name (ledger_of bytes) ≡ Some account)
      × Stands bytes name body rest others
  pub less : order_of name account.name ≡ Less → (account_of_name name (ledger_of bytes) ≡ None) × Stands bytes name body rest rest

abbrev pub NextOf : List ℕ → List ℕ → List ℕ → List ℕ → ℕ → ℕ → Option (LedgerAccount × List ℕ) → Type 0
NextOf bytes name body rest count number None = ⊥
NextOf bytes name body rest count number (Some front) = NextPlace bytes name body rest count number front.0 front.1

-- where the account of the name is put
pub place-is : (bytes name body rest : List ℕ) (place : AccountPlace)
    → (account_of_name name (ledger_of bytes) ≡ option_map as_account place.found)
    × Stands bytes name body rest place.back.now → place.front.now ≡ take (length body - length rest) body
    → IsAccountPlace name (ledger_of bytes) place
place-is bytes name body rest place is front_is =
    record { account = sym is.0; puts = λ new named. rw front_is (is.1 new named) }

-- the bytes in front are the first ones
in-front : (body front rest : List ℕ) → body ≡ front ++ rest → take (length body - length rest) body ≡ front
in-front body front rest whole =
    let n : length body - length rest ≡ length front = omega (arith, ap (λ (b : List ℕ). length b) whole, length-append front rest) in
    rw (n, whole) (take-append_seam front rest)

put-by : (new account : LedgerAccount) (accounts : List LedgerAccount) (name : List ℕ) (order : Ordering) → new.name ≡ name
    → order_of name account.name ≡ order
    → accounts_with new (account ∷ accounts) ≡ match_ordering order (new ∷ account ∷ accounts) (new ∷ accounts)
    (account ∷ accounts_with new accounts)
put-by new account accounts name order named is =
    let e : order_of new.name account.name ≡ order = ap (λ (n : List ℕ). order_of n account.name) named ∙ is in rw e refl

-- what the next account gives
pub Finding-given : (bytes name body rest : List ℕ) (count number : ℕ) (front : Option (LedgerAccount × List ℕ))
    → Finding bytes name body rest count number → number < count → front ≡ account_at rest → NextOf bytes name body rest count number front
Finding-given bytes name body rest count number front is going read =
    let n = reads-next rest count number is.todo is.left going in
    let account = n.account in
    let others = n.others in
    let named = is.named ∙ ap (account_of_name name) n.is in
    let rising : is_rising_from is.previous (account ∷ others) ≡ true = ap (is_rising_from is.previous) (sym n.is) ∙ is.rising in
    let later = (and-true (is_lt (order_of is.previous account.name)) (is_rising_from account.name others) rising).1 in
    let puts = λ (new : LedgerAccount) (is_named : new.name ≡ name) (order : Ordering) (o : order_of name account.name ≡ order).
    is.puts new is_named
    ∙ ap (λ (all : List LedgerAccount). is.front ++ body_of all) (ap (accounts_with new) n.is ∙ put-by new account others name
    order is_named o) in
    let spelled : rest ≡ account_bytes account ++ body_of others = is.left.spelled ∙ ap body_of n.is in
    let split : body ≡ (is.front ++ account_bytes account) ++ body_of others = is.whole ∙ ap (λ (b : List ℕ). is.front ++ b) spelled
    ∙ sym (append_assoc is.front (account_bytes account) (body_of others)) in
    let head = in-front body is.front rest is.whole in
    subst (NextOf bytes name body rest count number) (sym (read ∙ n.read)) (record {
      greater = λ o. record {
        todo = others;
        front = is.front ++ account_bytes account;
        previous = account.name;
        left = n.later;
        rising = later;
        whole = split;
        fits = omega (arith, ap (λ (b : List ℕ). length b) split, length-append (is.front ++ account_bytes account) (body_of others));
        named = named ∙ account_of_name-other name account others (bytes_eq-order name account.name Greater o);
        puts = λ new is_named. puts new is_named Greater o
            ∙ sym (append_assoc is.front (account_bytes account) (body_of (accounts_with new others)));
      };
      equal = λ o. (
        named ∙ account_of_name-this name account others (bytes_eq-order name account.name Equal o),
        λ new is_named. puts new is_named Equal o ∙ ap (λ (f : List ℕ). f ++ (account_bytes new ++ body_of others)) (sym head),
      );
      less = λ o. (
        named ∙ account_of_name-other name account others (bytes_eq-order name account.name Less o)
            ∙ account_of_name-absent name account.name others o later,
        λ new is_named. puts new is_named Less o
            ∙ ap (λ (f : List ℕ). f ++ (account_bytes new ++ body_of (account ∷ others))) (sym head)
            ∙ ap (λ (b : List ℕ). take (length body - length rest) body ++ (account_bytes new ++ b)) (sym spelled),
      );
    })

-- one account more of a body
pub accounts_from-suc : (count number : ℕ) (rest : List ℕ) → number < count
    → accounts_from (count - number) rest ≡ option_and_then
    (λ (f : LedgerAccount × List ℕ). option_map (λ accounts. f.0 ∷ accounts) (accounts_from (count - (number + 1)) f.1)) (account_at rest)
accounts_from-suc count number rest going = let n : count - number ≡ suc (count - (number + 1)) = omega arith in rw n refl

-- the rest follows, where a formed account of a later name stands in front of it
pub follow-next : (previous rest : List ℕ) (count number : ℕ) (front : LedgerAccount × List ℕ) → number < count
    → Some front ≡ account_at rest
    → true ≡ is_account front.0 → true ≡ is_lt (order_of previous front.0.name)
    → has_rising_from previous (accounts_from (count - number) rest) ≡ has_rising_from front.0.name
    (accounts_from (count - (number + 1)) front.1)
follow-next previous rest count number front going read formed later =
    ap (λ (a : Option (List LedgerAccount)). has_rising_from previous a) (accounts_from-suc count number rest going
    ∙ ap (λ (f : Option (LedgerAccount × List ℕ)). option_and_then
    (λ (g : LedgerAccount × List ℕ). option_map (λ accounts. g.0 ∷ accounts) (accounts_from (count - (number + 1)) g.1)) f) (sym read)) ∙
    follow-front previous front.0 (accounts_from (count - (number + 1)) front.1) ∙
    ap (λ (b : Bool). b && (is_lt (order_of previous front.0.name) && has_rising_from front.0.name
    (accounts_from (count - (number + 1)) front.1)))
    (sym formed) ∙
    ap (λ (b : Bool). b && has_rising_from front.0.name (accounts_from (count - (number + 1)) front.1)) (sym later)

holds-follow : (most count : ℕ) (body : List ℕ) (accounts : Option (List LedgerAccount)) → ReadsBody count body accounts
    → has_ledger most accounts ≡ (nat_le count most && has_rising_from [] accounts)
unfolding is_ledger
holds-follow most count body accounts reads = grind arith

accounts_of-short : (bytes : List ℕ) → length bytes < 2 → accounts_of bytes ≡ None
unfolding accounts_of
accounts_of-short bytes short = grind (arith, nat_tests)

accounts_of-long : (bytes : List ℕ) → 2 ≤ length bytes → accounts_of bytes ≡ accounts_from (count_of_bytes (take 2 bytes)) (drop 2 bytes)
unfolding accounts_of
accounts_of-long bytes long = let flag : nat_le 2 (length bytes) ≡ true = grind (arith, nat_tests) in rw flag refl

-- fewer than two bytes are no state
pub is_state-short : (most : ℕ) (bytes : List ℕ) → length bytes < 2 → is_state most bytes ≡ false
unfolding is_state
is_state-short most bytes short = rw (accounts_of-short bytes short) (grind arith)

-- bytes with a count that the ledger allows are a state, where their accounts follow
pub is_state-long : (most : ℕ) (bytes : List ℕ) → 2 ≤ length bytes → are_bytes bytes ≡ true
    → is_state most bytes ≡ (nat_le (count_of_bytes (take 2 bytes)) most
    && has_rising_from [] (accounts_from (count_of_bytes (take 2 bytes)) (drop 2 bytes)))
unfolding is_state
is_state-long most bytes long is =
    rw (is, accounts_of-long bytes long)
    (holds-follow most (count_of_bytes (take 2 bytes)) (drop 2 bytes) _
    (accounts_from-reads (count_of_bytes (take 2 bytes)) (drop 2 bytes) (are_bytes-drop 2 bytes is)))

pub state-within : (most count : ℕ) (bytes body : List ℕ) → 2 ≤ length bytes → are_bytes bytes ≡ true
    → count ≡ count_of_bytes (take 2 bytes) → body ≡ drop 2 bytes → count ≤ most
    → has_rising_from [] (accounts_from count body) ≡ is_state most bytes
state-within most count bytes body long is count_is body_is few =
    let flag : nat_le count most ≡ true = grind (arith, nat_tests) in
    sym (is_state-long most bytes long is ∙ rw (← count_is, ← body_is, flag) refl)

pub state-beyond : (most count : ℕ) (bytes : List ℕ) → 2 ≤ length bytes → are_bytes bytes ≡ true → count ≡ count_of_bytes (take 2 bytes)
    → most < count → nat_le count most ≡ is_state most bytes
state-beyond most count bytes long is count_is many =
    let flag : nat_le count most ≡ false = grind (arith, nat_tests) in
    flag ∙ sym (is_state-long most bytes long is ∙ rw (← count_is, flag) refl)

-- What an action does to the bytes of a ledger.

-- a state spells a ledger that its size allows
pub IsSpelled-from : (most : ℕ) (bytes : List ℕ) → most < 2 ^ 16 → is_state most bytes ≡ true → IsSpelled bytes
IsSpelled-from most bytes small is =
    let h = is_state-SpellsLedger most bytes is in
    record {
      ledger = record { few = omega (arith, h.ledger.few); good = h.ledger.good; rising = h.ledger.rising };
      spelled = h.spelled;
      body = h.body;
      counted = h.counted;
      headed = h.headed;
    }

pub few-from : (most : ℕ) (bytes : List ℕ) → is_state most bytes ≡ true → length (ledger_of bytes) ≤ most
few-from most bytes is = (is_state-SpellsLedger most bytes is).ledger.few

-- the account that was found
within : (name : List ℕ) (found : Option declared.Account) (named : Option LedgerAccount) → option_map as_account found ≡ named
    → IsFoundIfAny is_account name named → (account : declared.Account) → found ≡ Some account
    → (account.used ≤ account.limit) × (account.limit ≤ greatest_limit)
within name found (Some other) same is account this = grind (arith, IsAccount-from other is.passed)
within name found None same is account this = grind arith

pub found-within : (bytes name : List ℕ) (found : Option declared.Account) → IsSpelled bytes
    → option_map as_account found ≡ account_of_name name (ledger_of bytes) → (account : declared.Account) → found ≡ Some account
    → (account.used ≤ account.limit) × (account.limit ≤ greatest_limit)
found-within bytes name found is same account this =
    within name found _ same (account_of_name-found is_account name (ledger_of bytes) is.ledger.good) account this

-- the account that a decision puts
pub put-is : (most : ℕ) (bytes name : List ℕ) (action : LedgerAction) (account : LedgerAccount) → IsSpelled bytes → is_name name ≡ true
    → IsAction action → (decision_of (nat_le most (length (ledger_of bytes))) name (account_of_name name (ledger_of bytes)) action).0 ≡ Some
    account → IsPut (nat_le most (length (ledger_of bytes))) name (account_of_name name (ledger_of bytes)) account
put-is most bytes name action account is named acts puts =
    let d = decision_of-is (nat_le most (length (ledger_of bytes))) name (account_of_name name (ledger_of bytes)) action named acts
    (account_of_name-found is_account name (ledger_of bytes) is.ledger.good) in
    let P : Option LedgerAccount
    → Type 0 = λ change. IsPutIfAny (nat_le most (length (ledger_of bytes))) name (account_of_name name (ledger_of bytes)) change in
    subst P puts d.change

count-case : (most : ℕ) (accounts : List LedgerAccount) (account : LedgerAccount) (there : Bool)
    → is_some (account_of_name account.name accounts) ≡ there
    → is_rising_from [] accounts ≡ true → (there ≡ false → nat_le most (length accounts) ≡ false) → most < 2 ^ 16
    → (if there then length accounts else min (length accounts + 1) 65535) ≡ length (accounts_with account accounts)
count-case most accounts account there is rising room small = grind (arith, nat_tests, length-after (put-place account accounts) [] rising)

-- the bytes with the account at its place are those of the ledger with the account
pub put-spelled : (most count : ℕ) (bytes name front back : List ℕ) (account : LedgerAccount) (there : Bool) → most < 2 ^ 16
    → IsSpelled bytes
    → IsPut (nat_le most (length (ledger_of bytes))) name (account_of_name name (ledger_of bytes)) account
    → there ≡ is_some (account_of_name name (ledger_of bytes))
    → count ≡ (if there then length (ledger_of bytes) else min (length (ledger_of bytes) + 1) 65535)
    → ((new : LedgerAccount) → new.name ≡ name → body_of (accounts_with new (ledger_of bytes)) ≡ front ++ (account_bytes new ++ back))
    → count_bytes count ++ (front ++ (account_bytes account ++ back)) ≡ spelling_of (accounts_with account (ledger_of bytes))
unfolding spelling_of
put-spelled most count bytes name front back account there small is puts there_is count_is stands =
    let found : is_some (account_of_name account.name (ledger_of bytes)) ≡ there = ap
    (λ (n : List ℕ). is_some (account_of_name n (ledger_of bytes))) puts.named ∙ sym there_is in
    let counted : count ≡ length (accounts_with account (ledger_of bytes)) = count_is
    ∙ count-case most (ledger_of bytes) account there found is.ledger.rising (λ absent. puts.room (sym there_is ∙ absent)) small in
    rw (counted, stands account puts.named) refl

pub is_some-as_account : (found : Option declared.Account) → is_some found ≡ is_some (option_map as_account found)
is_some-as_account None = refl
is_some-as_account (Some account) = refl

-- a decision on what was counted and found is one on the ledger
pub decided : (most count : ℕ) (bytes name : List ℕ) (found : Option LedgerAccount) (action : LedgerAction)
    (decision : Option LedgerAccount × LedgerOutput)
    → decision ≡ decision_of (nat_le most count) name found action → count ≡ length (ledger_of bytes)
    → found ≡ account_of_name name (ledger_of bytes)
    → decision ≡ decision_of (nat_le most (length (ledger_of bytes))) name (account_of_name name (ledger_of bytes)) action
decided most count bytes name found action decision is count_is found_is =
    is ∙ ap (λ (n : ℕ). decision_of (nat_le most n) name found action) count_is
    ∙ ap (λ (f : Option LedgerAccount). decision_of (nat_le most (length (ledger_of bytes))) name f action) found_is

-- what was read of a request
pub asked-named : (words : List (List ℕ)) (name : List ℕ) (action : LedgerAction) → request_of words ≡ Some (On name action)
    → (is_name name ≡ true) × IsAction action
asked-named words name action is = subst (λ (r : Option LedgerRequest). IsQuotaRequest r) is (request_of-IsQuotaRequest words)

-- what a step gives, where it gives the state of the table
pub IfOk-others : {X E : Type 0} (r : Result X E) (view : X → List ℕ) (most : ℕ) (state request : List ℕ) → most < 2 ^ 16
    → is_state most state ≡ true → IfOk r (λ x. view x ≡ spelling_of (outcome_of_bytes most state request).0)
    → IfOk r (λ x. OthersStay state request (view x))
IfOk-others (Ok x) view most state request small is same =
    subst (λ (s : List ℕ). OthersStay state request s) (sym same) (others_stay most state request small is)
IfOk-others (Err e) view most state request small is same = tt

-- The quota ledger: accounts with a name, a limit and what is used, in the order of their names.
use Rattle.std.specs.Prelude.{ℕ, zero, suc, ◌+◌, ◌-◌, ◌^◌, ◌==◌, ◌&&◌, Bool, true, false, nat_le, List, [], ◌∷◌, ◌++◌, length, take, drop}
use Rattle.std.specs.Prelude.{codes, Option, Some, None, unwrap_or, option_map, option_and_then, if◌then◌else◌}
use Rattle.std.specs.declared.cmp.Ordering.{Ordering}
use Rattle.std.specs.Cmp.Lexicographic.{slice_cmp}
use Rattle.std.specs.Fmt.{decimal}
use Rattle.std.specs.Int.{w16, to_be_bytes, from_be_bytes}
use Rattle.std.specs.List.{list_all}
use Rattle.std.specs.Ordering.{nat_cmp, is_lt, match_ordering}
use Rattle.std.specs.Str.{bytes_eq}
use Rattle.mm_bytes.specs.Limits.{decimal_number, eight_bytes}
use Rattle.mm_module.specs.Batch.{are_bytes, number_of_eight_bytes}
use Rattle.mm_module.specs.Meaning.{is_visible, words_of, Meaning}

-- an account
pub record LedgerAccount : Type 0 where
  pub name : List ℕ
  pub limit : ℕ
  pub used : ℕ

-- what a request does with the account that it names
pub data LedgerAction : Type 0 where
  Open : (limit : ℕ) → LedgerAction
  Use : (number : ℕ) → LedgerAction
  Free : (number : ℕ) → LedgerAction
  Left : LedgerAction

-- ask for the sum of what is used, or act on one account
pub data LedgerRequest : Type 0 where
  Sum : LedgerRequest
  On : (name : List ℕ) (action : LedgerAction) → LedgerRequest

-- what is said
pub data LedgerOutput : Type 0 where
  IsOpened : LedgerOutput
  IsThere : LedgerOutput
  IsFull : LedgerOutput
  IsNone : LedgerOutput
  IsUsed : (used : ℕ) → LedgerOutput
  IsOver : (left : ℕ) → LedgerOutput
  IsUnder : (used : ℕ) → LedgerOutput
  HasLeft : (left : ℕ) → LedgerOutput
  HasSum : (sum : ℕ) → LedgerOutput
  IsBad : LedgerOutput

-- the order of two names, by their bytes
abbrev pub order_of : List ℕ → List ℕ → Ordering
order_of name other = slice_cmp nat_cmp name other

-- the account of this name
abbrev pub account_of_name : List ℕ → List LedgerAccount → Option LedgerAccount
account_of_name name [] = None
account_of_name name (account ∷ accounts) =
    if bytes_eq name account.name then Some account else account_of_name name accounts

-- the accounts, with this one at its place in the order, instead of the one with its name
abbrev pub accounts_with : LedgerAccount → List LedgerAccount → List LedgerAccount
accounts_with new [] = new ∷ []
accounts_with new (account ∷ accounts) =
    match_ordering (order_of new.name account.name) (new ∷ account ∷ accounts) (new ∷ accounts)
    (account ∷ accounts_with new accounts)

-- what is used of all accounts
abbrev pub used_total : List LedgerAccount → ℕ
used_total [] = 0
used_total (account ∷ accounts) = account.used + used_total accounts

-- The account that an action puts, where it puts one, and what is said: from whether the ledger is
-- full, and the account of the name, where there is one.
abbrev pub decision_of : Bool → List ℕ → Option LedgerAccount → LedgerAction → Option LedgerAccount
    × LedgerOutput
decision_of full name (Some account) (Open limit) = (None, IsThere)
decision_of full name None (Open limit) = if full then (None, IsFull)
    else (Some (record { name = name; limit = limit; used = 0 }), IsOpened)
decision_of full name None (Use number) = (None, IsNone)
decision_of full name (Some account) (Use number) =
    if nat_le number (account.limit - account.used)
    then (Some (record account { used = account.used + number }), IsUsed (account.used + number))
    else (None, IsOver (account.limit - account.used))
decision_of full name None (Free number) = (None, IsNone)
decision_of full name (Some account) (Free number) =
    if nat_le number account.used
    then (
      Some (record account { used = account.used - number }),
      IsUsed
          (account.used - number),
    )
    else (None, IsUnder account.used)
decision_of full name None Left = (None, IsNone)
decision_of full name (Some account) Left = (None, HasLeft (account.limit - account.used))

-- the accounts after a decision
abbrev pub accounts_after : List LedgerAccount → Option LedgerAccount → List LedgerAccount
accounts_after accounts None = accounts
accounts_after accounts (Some account) = accounts_with account accounts

-- the accounts after a request, and what is said, in a ledger of at most so many accounts
abbrev pub outcome_of : ℕ → List LedgerAccount → Option LedgerRequest → List LedgerAccount
    × LedgerOutput
outcome_of most accounts (Some Sum) = (accounts, HasSum (used_total accounts))
outcome_of most accounts (Some (On name action)) =
    let decision = decision_of (nat_le most (length accounts)) name (account_of_name name accounts)
    action in
    (accounts_after accounts decision.0, decision.1)
outcome_of most accounts None = (accounts, IsBad)

-- the text of what is said
abbrev pub text_of : LedgerOutput → List ℕ
text_of IsOpened = codes "opened"
text_of IsThere = codes "exists"
text_of IsFull = codes "full"
text_of IsNone = codes "none"
text_of (IsUsed used) = codes "used " ++ decimal used
text_of (IsOver left) = codes "over " ++ decimal left
text_of (IsUnder used) = codes "under " ++ decimal used
text_of (HasLeft left) = codes "left " ++ decimal left
text_of (HasSum sum) = codes "sum " ++ decimal sum
text_of IsBad = codes "bad"

-- a name: 1 to 32 visible bytes
unfoldable pub is_name : List ℕ → Bool
is_name bytes = nat_le 1 (length bytes) && nat_le (length bytes) 32 && list_all is_visible bytes

-- the greatest limit of an account
abbrev pub greatest_limit : ℕ
greatest_limit = 2 ^ 48

-- an opening, where the limit may be one
abbrev pub opening_of : ℕ → Option LedgerAction
opening_of limit = if nat_le limit greatest_limit then Some (Open limit) else None

-- the action of a word with a number
abbrev pub action_of : List ℕ → ℕ → Option LedgerAction
action_of word number =
    if bytes_eq word (codes "open") then opening_of number
    else (if bytes_eq word (codes "use") then Some (Use number)
    else (if bytes_eq word (codes "free") then Some (Free number) else None))

-- the request that these words are: `sum`, `left NAME`, or `open`, `use` or `free` with a name and
-- a number
unfoldable pub request_of : List (List ℕ) → Option LedgerRequest
request_of (word ∷ []) = if bytes_eq word (codes "sum") then Some Sum else None
request_of (word ∷ name ∷ []) =
    if bytes_eq word (codes "left") && is_name name then Some (On name Left) else None
request_of (word ∷ name ∷ number ∷ []) = if is_name name
    then option_map (λ action. On name action)
    (option_and_then (action_of word) (decimal_number number)) else None
request_of _ = None

-- an account of a ledger: its name is one, its limit may be one, and at most that is used
unfoldable pub is_account : LedgerAccount → Bool
is_account account =
    is_name account.name && nat_le account.limit greatest_limit && nat_le account.used account.limit

-- the names rise strictly from this one on
abbrev pub is_rising_from : List ℕ → List LedgerAccount → Bool
is_rising_from name [] = true
is_rising_from name (account ∷ accounts) = is_lt (order_of name account.name)
    && is_rising_from account.name accounts

-- a ledger of at most so many accounts
unfoldable pub is_ledger : ℕ → List LedgerAccount → Bool
is_ledger most accounts =
    nat_le (length accounts) most && list_all is_account accounts && is_rising_from [] accounts

-- a count in 2 bytes, the greatest first
unfoldable pub count_bytes : ℕ → List ℕ
count_bytes count = to_be_bytes w16 count

-- the count that 2 bytes spell
unfoldable pub count_of_bytes : List ℕ → ℕ
count_of_bytes bytes = from_be_bytes w16 bytes

-- the bytes of an account: the length of its name, the name, the limit and what is used
unfoldable pub account_bytes : LedgerAccount → List ℕ
account_bytes account =
    length account.name ∷ (account.name ++ (eight_bytes account.limit ++ eight_bytes account.used))

-- the bytes of accounts in a row
abbrev pub body_of : List LedgerAccount → List ℕ
body_of [] = []
body_of (account ∷ accounts) = account_bytes account ++ body_of accounts

-- the bytes of a ledger: the number of accounts in two bytes, and the accounts
unfoldable pub spelling_of : List LedgerAccount → List ℕ
spelling_of accounts = count_bytes (length accounts) ++ body_of accounts

-- the account that begins with a name of this length, and the bytes after it
unfoldable pub account_after : ℕ → List ℕ → Option (LedgerAccount × List ℕ)
account_after count bytes =
    if nat_le (count + 16) (length bytes) then
    Some (
      record {
        name = take count bytes;
        limit = number_of_eight_bytes (take 8 (drop count bytes));
        used = number_of_eight_bytes (take 8 (drop 8 (drop count bytes)));
      },
      drop 8 (drop 8 (drop count bytes)),
    )
    else None

-- the account at the front of these bytes, and the bytes after it
abbrev pub account_at : List ℕ → Option (LedgerAccount × List ℕ)
account_at [] = None
account_at (count ∷ bytes) = account_after count bytes

-- so many accounts and nothing after them
abbrev pub accounts_from : ℕ → List ℕ → Option (List LedgerAccount)
accounts_from zero bytes = if length bytes == 0 then Some [] else None
accounts_from (suc count) bytes =
    option_and_then (λ (front : LedgerAccount × List ℕ). option_map (λ accounts. front.0 ∷ accounts)
    (accounts_from count front.1))
    (account_at bytes)

-- the accounts that these bytes spell
unfoldable pub accounts_of : List ℕ → Option (List LedgerAccount)
accounts_of bytes =
    if nat_le 2 (length bytes) then accounts_from (count_of_bytes (take 2 bytes)) (drop 2 bytes)
    else None

-- these are the accounts of a ledger
abbrev pub has_ledger : ℕ → Option (List LedgerAccount) → Bool
has_ledger most None = false
has_ledger most (Some accounts) = is_ledger most accounts

-- the bytes spell a ledger
unfoldable pub is_state : ℕ → List ℕ → Bool
is_state most bytes = are_bytes bytes && has_ledger most (accounts_of bytes)

-- the accounts of a spelled ledger
unfoldable pub ledger_of : List ℕ → List LedgerAccount
ledger_of bytes = unwrap_or (accounts_of bytes) []

-- what a request does to a spelled ledger
unfoldable pub outcome_of_bytes : ℕ → List ℕ → List ℕ → List LedgerAccount × LedgerOutput
outcome_of_bytes most state request =
    outcome_of most (ledger_of state) (request_of (words_of request))

-- the ledger of this id, of at most so many accounts, as a module
abbrev pub quota : ℕ → ℕ → Meaning
quota id most = record {
  id = id;
  first = 0 ∷ 0 ∷ [];
  next = λ state request. spelling_of (outcome_of_bytes most state request).0;
  says = λ state request. text_of (outcome_of_bytes most state request).1;
  is_spelled = is_state most;
}

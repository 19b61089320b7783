-- The values of the code as those of the table. With it: bytes that spell a ledger; where an
-- account stands in the bytes of a ledger.
use denote.Ref.{Bor}
use Rattle.std.specs.List.{list_all}
use Rattle.std.specs.Prelude.{ℕ, List, ◌≡◌, ◌≤◌, ◌&&◌, Bool, true, false, [], length, take, drop, Option, Some, None, ◌++◌, option_map}
use Rattle.mm_quota.specs.declared.account.Account.{Account}
use Rattle.mm_quota.specs.declared.place.AccountPlace.{AccountPlace}
use Rattle.mm_quota.specs.declared.request.Output.{Output}
use Rattle.mm_quota.specs.declared.request.Output.TheVariants as says
use Rattle.mm_quota.specs.declared.request.QuotaAction.{QuotaAction}
use Rattle.mm_quota.specs.declared.request.QuotaAction.TheVariants as action
use Rattle.mm_quota.specs.declared.request.Request.{Request}
use Rattle.mm_quota.specs.declared.request.Request.TheVariants as request
use Rattle.mm_quota.specs.Table.{LedgerAccount, is_account, is_rising_from, body_of, spelling_of, count_of_bytes, ledger_of}
use Rattle.mm_quota.specs.Table.{account_of_name, accounts_with, account_bytes}
use Rattle.mm_quota.specs.Table as table

abbrev pub as_account : Account → table.LedgerAccount
as_account account = record { name = account.name.now; limit = account.limit; used = account.used }

abbrev pub front_account : Account × Bor (List ℕ) → table.LedgerAccount × List ℕ
front_account front = (as_account front.0, front.1.now)

abbrev pub as_action : QuotaAction → table.LedgerAction
as_action (action.Open limit) = table.Open limit
as_action (action.Use number) = table.Use number
as_action (action.Free number) = table.Free number
as_action action.Left = table.Left

abbrev pub as_request : Request → table.LedgerRequest
as_request request.Sum = table.Sum
as_request (request.On name action) = table.On name.now (as_action action)

abbrev pub as_says : Output → table.LedgerOutput
as_says says.Opened = table.IsOpened
as_says says.Exists = table.IsThere
as_says says.Full = table.IsFull
as_says says.None = table.IsNone
as_says (says.Used used) = table.IsUsed used
as_says (says.Over left) = table.IsOver left
as_says (says.Under used) = table.IsUnder used
as_says (says.Left left) = table.HasLeft left
as_says (says.Sum sum) = table.HasSum sum
as_says says.Bad = table.IsBad

-- Bytes that spell a ledger.

-- what a ledger of at most so many accounts keeps
pub record IsLedger (most : ℕ) (accounts : List LedgerAccount) : Type 0 where
  pub few : length accounts ≤ most
  pub good : list_all is_account accounts ≡ true
  pub rising : is_rising_from [] accounts ≡ true

-- the bytes spell such a ledger
pub record SpellsLedger (most : ℕ) (bytes : List ℕ) : Type 0 where
  pub ledger : IsLedger most (ledger_of bytes)
  pub spelled : bytes ≡ spelling_of (ledger_of bytes)
  pub body : drop 2 bytes ≡ body_of (ledger_of bytes)
  pub counted : count_of_bytes (take 2 bytes) ≡ length (ledger_of bytes)
  pub headed : 2 ≤ length bytes

-- they spell one of some size
abbrev pub IsSpelled : List ℕ → Type 0
IsSpelled bytes = SpellsLedger 65535 bytes

-- accounts whose names rise from this one on
abbrev pub has_rising_from : List ℕ → Option (List LedgerAccount) → Bool
has_rising_from name None = false
has_rising_from name (Some accounts) = list_all is_account accounts && is_rising_from name accounts

-- Where an account stands in the bytes of a ledger.

-- The account of a name, where there is one, with the bytes of the accounts before and behind it:
-- what is put there takes its place among them.
pub record IsAccountPlace (name : List ℕ) (accounts : List LedgerAccount)
    (place : AccountPlace) : Type 0 where
  pub account : option_map as_account place.found ≡ account_of_name name accounts
  pub puts : (new : LedgerAccount) → new.name ≡ name → body_of (accounts_with new accounts)
      ≡ place.front.now
      ++ (account_bytes new ++ place.back.now)

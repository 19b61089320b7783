-- The limiter: a secret that opens, and a number of wrong guesses after which it is locked for
-- good.
use Rattle.std.specs.Prelude.{ℕ, ◌≤◌, ◌-◌, ◌==◌, ◌&&◌, Bool, nat_le, List, [], ◌∷◌, ◌++◌, length, codes, Option, Some, None, is_some}
use Rattle.std.specs.Prelude.{unwrap_or, option_and_then, if◌then◌else◌}
use Rattle.std.specs.Fmt.{decimal}
use Rattle.std.specs.List.{list_all}
use Rattle.std.specs.Str.{bytes_eq}
use Rattle.mm_bytes.specs.Limits.{decimal_number}
use Rattle.mm_module.specs.Meaning.{is_visible, words_of, Meaning}

-- no secret yet; or the wrong guesses that are allowed in a row, those left, and the secret
pub data TableState : Type 0 where
  Unset : TableState
  Guarded : (tries left : ℕ) (secret : List ℕ) → TableState

-- set the secret and the guesses allowed, guess, or ask how many are left
pub data TableRequest : Type 0 where
  Guard : (secret : List ℕ) (tries : ℕ) → TableRequest
  Guess : (secret : List ℕ) → TableRequest
  Left : TableRequest

-- what is said
pub data TableOutput : Type 0 where
  IsSet : TableOutput
  IsTaken : TableOutput
  IsUnset : TableOutput
  IsLocked : TableOutput
  IsOpen : TableOutput
  IsWrong : (left : ℕ) → TableOutput
  HasLeft : (left : ℕ) → TableOutput
  IsBad : TableOutput

-- what a request does, and what is said
abbrev pub outcome_of : TableState → Option TableRequest → TableState × TableOutput
outcome_of Unset (Some (Guard secret tries)) = (Guarded tries tries secret, IsSet)
outcome_of (Guarded tries left secret) (Some (Guard other number)) =
    (Guarded tries left secret, IsTaken)
outcome_of Unset (Some (Guess guess)) = (Unset, IsUnset)
outcome_of (Guarded tries left secret) (Some (Guess guess)) =
    if left == 0 then (Guarded tries left secret, IsLocked)
    else (if bytes_eq guess secret then (Guarded tries tries secret, IsOpen)
    else (Guarded tries (left - 1) secret, IsWrong (left - 1)))
outcome_of Unset (Some Left) = (Unset, IsUnset)
outcome_of (Guarded tries left secret) (Some Left) = (Guarded tries left secret, HasLeft left)
outcome_of state None = (state, IsBad)

-- the text of what is said
abbrev pub text_of : TableOutput → List ℕ
text_of IsSet = codes "set"
text_of IsTaken = codes "taken"
text_of IsUnset = codes "unset"
text_of IsLocked = codes "locked"
text_of IsOpen = codes "open"
text_of (IsWrong left) = codes "wrong " ++ decimal left
text_of (HasLeft left) = codes "left " ++ decimal left
text_of IsBad = codes "bad"

-- a secret: 1 to 64 visible bytes
unfoldable pub is_secret : List ℕ → Bool
is_secret bytes = nat_le 1 (length bytes) && nat_le (length bytes) 64 && list_all is_visible bytes

-- a number of guesses
abbrev pub is_tries : ℕ → Bool
is_tries tries = nat_le 1 tries && nat_le tries 100

-- the secret with its number of guesses, where that is one
abbrev pub guard_of : List ℕ → ℕ → Option TableRequest
guard_of secret tries = if is_tries tries then Some (Guard secret tries) else None

-- the request that these words are: `left`, `guess S` or `set S N`
unfoldable pub request_of : List (List ℕ) → Option TableRequest
request_of (word ∷ []) = if bytes_eq word (codes "left") then Some Left else None
request_of (word ∷ secret ∷ []) =
    if bytes_eq word (codes "guess") && is_secret secret then Some (Guess secret) else None
request_of (word ∷ secret ∷ number ∷ []) = if bytes_eq word (codes "set") && is_secret secret
    then option_and_then (guard_of secret) (decimal_number number) else None
request_of _ = None

-- a guarded state: the guesses left are at most those allowed, and the length is that of a secret
unfoldable pub is_guard : ℕ → ℕ → ℕ → List ℕ → Bool
is_guard tries left count secret =
    is_tries tries && nat_le left tries && count == length secret && is_secret secret

-- the state that these bytes spell
unfoldable pub state_of : List ℕ → Option TableState
state_of (form ∷ []) = if form == 0 then Some Unset else None
state_of (form ∷ tries ∷ left ∷ count ∷ secret) =
    if form == 1 && is_guard tries left count secret then Some (Guarded tries left secret)
    else None
state_of _ = None

-- the bytes of a state
abbrev pub spelling_of : TableState → List ℕ
spelling_of Unset = 0 ∷ []
spelling_of (Guarded tries left secret) = 1 ∷ tries ∷ left ∷ length secret ∷ secret

-- the length of the secret is a byte
abbrev pub IsShortSecret : TableState → Type 0
IsShortSecret Unset = Unit {0}
IsShortSecret (Guarded tries left secret) = length secret ≤ 64

-- what a request does to a spelled state
unfoldable pub outcome_of_bytes : List ℕ → List ℕ → TableState × TableOutput
outcome_of_bytes state request =
    outcome_of (unwrap_or (state_of state) Unset) (request_of (words_of request))

-- the bytes spell a state
unfoldable pub is_state : List ℕ → Bool
is_state bytes = is_some (state_of bytes)

-- the limiter as a module
abbrev pub limiter : Meaning
limiter = record {
  id = 2;
  first = 0 ∷ [];
  next = λ state request. spelling_of (outcome_of_bytes state request).0;
  says = λ state request. text_of (outcome_of_bytes state request).1;
  is_spelled = is_state;
}

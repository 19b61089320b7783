-- What a limiter promises of a whole run, and of the lines that tell of it. With it: what a limiter
-- promises of a whole run.
use Rattle.std.specs.List.{list_any, range_with_len}
use Rattle.std.specs.Prelude.{◌≡◌, ℕ, ◌≤◌, ◌||◌, Bool, false, List, [], ◌∷◌, take, drop, count_by, codes, Option, Some, None, if◌then◌else◌}
use Rattle.std.specs.Prelude.{◌==◌, ◌&&◌}
use Rattle.std.specs.Str.{bytes_eq}
use Rattle.mm_module.specs.Meaning.{outputs_from, words_of}
use Rattle.mm_listing.specs.Listing.{Telling}
use Rattle.mm_limiter.specs.Table.{TableRequest, Guard, Guess, Left, request_of, limiter}

-- What a limiter promises of a whole run: wrong guesses run out.

-- a secret was set, or guessed right: all guesses are left again
abbrev pub is_renewal : List ℕ → Bool
is_renewal output = bytes_eq output (codes "set") || bytes_eq output (codes "open")

-- a guess was wrong
abbrev pub is_wrong : List ℕ → Bool
is_wrong output = bytes_eq (take 6 output) (codes "wrong ")

-- the number of guesses that a request allows
abbrev pub tries_in : Option TableRequest → ℕ
tries_in (Some (Guard secret tries)) = tries
tries_in (Some (Guess secret)) = 0
tries_in (Some Left) = 0
tries_in None = 0

-- the guesses that the request allows that was told `set`; 0 where none was
abbrev pub allowed_guesses : List (List ℕ) → List (List ℕ) → ℕ
allowed_guesses [] outputs = 0
allowed_guesses (request ∷ requests) [] = 0
allowed_guesses (request ∷ requests) (output ∷ outputs) =
    if bytes_eq output (codes "set") then tries_in (request_of (words_of request))
    else allowed_guesses requests outputs

-- so many outputs from this place on, as far as there are any
abbrev pub stretch : ℕ → ℕ → List (List ℕ) → List (List ℕ)
stretch from size outputs = take size (drop from outputs)

-- Where no output of a stretch is `set` or `open`, at most as many in it are wrong guesses as were
-- allowed: so between two of those outputs, and after the last.
abbrev pub LimitsGuesses : List (List ℕ) → Type 0
LimitsGuesses requests =
    let outputs = outputs_from limiter limiter.first requests in
    (from size : ℕ) → list_any is_renewal (stretch from size outputs) ≡ false
    → count_by is_wrong (stretch from size outputs) ≤ allowed_guesses requests outputs

-- so it is in every run
abbrev pub GuessesAreLimited : Type 0
GuessesAreLimited = (requests : List (List ℕ)) → LimitsGuesses requests

-- What a limiter promises of a whole run, and of the lines that tell of it.

-- some line says that the guess with so many requests before it was wrong
abbrev pub has_wrong_guess : List Telling → ℕ → Bool
has_wrong_guess tellings before =
    list_any (λ (telling : Telling). telling.before == before && is_wrong telling.output) tellings

-- Lines name wrong guesses at no more places of a stretch than were allowed, where no output in it
-- is `set` or `open`.
abbrev pub TellsFewWrong : List (List ℕ) → List Telling → Type 0
TellsFewWrong requests tellings =
    let outputs = outputs_from limiter limiter.first requests in
    (from size : ℕ) → list_any is_renewal (stretch from size outputs) ≡ false
    → count_by (has_wrong_guess tellings) (range_with_len from size)
    ≤ allowed_guesses requests outputs

-- What a limiter promises: between two outputs `set` or `open`, and after the last, wrong guesses
-- run out, whether they were told or not; and so do those that were told, however often.
pub record KeepsGuessesFew (requests : List (List ℕ)) (tellings : List Telling) : Type 0 where
  pub guesses : LimitsGuesses requests
  pub told : TellsFewWrong requests tellings

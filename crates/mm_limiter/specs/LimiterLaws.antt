-- The laws of the limiter. With it: wrong guesses run out; runs of a limiter keep its promise.
use Rattle.std.specs.List.{list_all, list_any, AllByRecursion, range_with_len}
use Rattle.std.specs.Prelude.{◌≡◌, ℕ, ◌≤◌, true, List, length, Option, Some, is_some, unwrap_or, count_by, ◌==◌, ◌&&◌, ◌||◌, ◌⊎◌, Bool}
use Rattle.std.specs.Prelude.{drop, slice_get}
use Rattle.std.proofs.Common.{refl, sym, ◌∙◌, ap, arith, subst, suc, zero, ◌+◌, false, cond, [], ◌∷◌, take, inl, inr}
use Rattle.std.proofs.lemmas.Bool.{or_parts}
use Rattle.std.proofs.lemmas.Bool.Decides.{nat_tests}
use Rattle.std.proofs.lemmas.List.Sums.{sum_by-cons}
use Rattle.mm_module.specs.Batch.{are_bytes}
use Rattle.mm_module.specs.LineLaws.{IsText, is_unbroken-decimal, length-decimal, are_bytes-visible}
use Rattle.mm_module.specs.Meaning.{IsLawful, IsShort, is_visible, words_of, outputs_from}
use Rattle.mm_module.specs.RunLaws.{Table, IsTable, IsOutcome, table_by, table_is_lawful, table_is_short, outputs_by, table_outputs}
use Rattle.mm_listing.specs.Listing.{AreSaid, Telling, WasSaid}
use Rattle.mm_listing.specs.RequestLaws.{drop-next, slice_get-drop, some-same}
use Rattle.mm_limiter.specs.Promise.{is_renewal, is_wrong, allowed_guesses, stretch, GuessesAreLimited, has_wrong_guess, KeepsGuessesFew}
use Rattle.mm_limiter.specs.Table.{TableState, Unset, Guarded, TableRequest, Guard, TableOutput, IsWrong, HasLeft, outcome_of, text_of}
use Rattle.mm_limiter.specs.Table.{is_secret, request_of, is_guard, state_of, spelling_of, IsShortSecret, outcome_of_bytes, is_state}
use Rattle.mm_limiter.specs.Table.{limiter}

-- what a secret and a guarded state keep
pub record IsSecret (secret : List ℕ) : Type 0 where
  pub some : 1 ≤ length secret
  pub short : length secret ≤ 64
  pub visible : list_all is_visible secret ≡ true

pub record IsGuard (tries left : ℕ) (secret : List ℕ) : Type 0 where
  pub some : 1 ≤ tries
  pub few : tries ≤ 100
  pub rest : left ≤ tries
  pub formed : IsSecret secret

IsSecret-from : (secret : List ℕ) → is_secret secret ≡ true → IsSecret secret
unfolding is_secret
IsSecret-from secret is = grind (arith, nat_tests)

is_secret-IsSecret : (secret : List ℕ) → IsSecret secret → is_secret secret ≡ true
unfolding is_secret
is_secret-IsSecret secret is = grind (arith, nat_tests)

-- a state that can be spelled
abbrev pub IsLimiterState : TableState → Type 0
IsLimiterState Unset = Unit {0}
IsLimiterState (Guarded tries left secret) = IsGuard tries left secret

-- a request that can be read
abbrev IsLimiterRequest : Option TableRequest → Type 0
IsLimiterRequest (Some (Guard secret tries)) = IsSecret secret × (1 ≤ tries) × (tries ≤ 100)
IsLimiterRequest _ = Unit {0}

request_of-IsLimiterRequest : (words : List (List ℕ)) → IsLimiterRequest (request_of words)
unfolding request_of
request_of-IsLimiterRequest words = grind (arith, nat_tests, IsSecret-from)

-- what is said, with a count of guesses
abbrev SaysGuesses : TableOutput → Type 0
SaysGuesses (IsWrong left) = left ≤ 100
SaysGuesses (HasLeft left) = left ≤ 100
SaysGuesses _ = Unit {0}

-- a state that can be spelled and what can be said
outcome_of-IsOutcome : (state : TableState) (request : List ℕ) → IsLimiterState state
    → IsOutcome IsLimiterState SaysGuesses (outcome_of state (request_of (words_of request)))
outcome_of-IsOutcome state request is =
    let asked = request_of-IsLimiterRequest (words_of request) in grind (arith, nat_tests)

-- bytes that spell a state are its spelling
record IsRead (bytes : List ℕ) (state : TableState) : Type 0 where
  good : IsLimiterState state
  spelled : bytes ≡ spelling_of state

state-IsRead : (bytes : List ℕ) → is_state bytes ≡ true → IsRead bytes (unwrap_or (state_of bytes) Unset)
unfolding is_state state_of is_guard
state-IsRead bytes is = grind (arith, nat_tests, IsSecret-from)

-- a spelling is read back
state_of-spelling_of : (state : TableState) → IsLimiterState state → state_of (spelling_of state) ≡ Some state
unfolding state_of is_guard
state_of-spelling_of state is = grind (arith, nat_tests, is_secret-IsSecret)

are_bytes-spelling_of : (state : TableState) → IsLimiterState state → are_bytes (spelling_of state) ≡ true
are_bytes-spelling_of state is = grind (arith, nat_tests, are_bytes-visible)

length-spelling_of : (state : TableState) → IsLimiterState state → length (spelling_of state) ≤ 68
length-spelling_of state is = grind arith

-- what is said has at most 26 bytes, with no LF
text_of-IsText : (says : TableOutput) → SaysGuesses says → IsText 26 (text_of says)
text_of-IsText says is = grind (arith, length-decimal, is_unbroken-decimal)

abbrev pub limiter_table : Table TableState
limiter_table = table_by Unset (λ bytes. unwrap_or (state_of bytes) Unset) spelling_of request_of outcome_of text_of

pub limiter_is_table : IsTable limiter_table limiter IsLimiterState 68 26
unfolding is_state outcome_of_bytes
limiter_is_table = record {
  begins = refl;
  first = tt;
  reads = λ bytes is. (state-IsRead bytes is).good;
  spells = λ state is. ap is_some (state_of-spelling_of state is);
  back = λ state is.
      ap (λ (read : Option TableState). unwrap_or read Unset) (state_of-spelling_of state is);
  next = λ bytes request. refl;
  says = λ bytes request. refl;
  stays = λ state request is. (outcome_of-IsOutcome state request is).state;
  tells = λ state request is. text_of-IsText _ (outcome_of-IsOutcome state request is).said;
  fits = λ bytes is.
      let r = state-IsRead bytes is in
      subst (λ (s : List ℕ). length s ≤ 68) (sym r.spelled) (length-spelling_of _ r.good);
  bytes = λ bytes is.
      let r = state-IsRead bytes is in ap are_bytes r.spelled ∙ are_bytes-spelling_of _ r.good;
}

-- the limiter is a module
pub limiter_is_lawful : IsLawful limiter
limiter_is_lawful = table_is_lawful limiter_is_table (omega arith) (omega arith)

-- a limiter is short
pub limiter_is_short : IsShort limiter
limiter_is_short = table_is_short limiter_is_table (omega arith) (omega arith)

short_secret : (state : TableState) → IsLimiterState state → IsShortSecret state
short_secret state is = grind arith

-- the secret after a request at a spelled state is short
pub short_after : (state request : List ℕ) → is_state state ≡ true → (was : TableState) → was ≡ unwrap_or (state_of state) Unset
    → (asked : Option TableRequest) → asked ≡ request_of (words_of request) → (after : TableState × TableOutput)
    → after ≡ outcome_of was asked
    → IsShortSecret after.0
short_after state request is was was_is asked asked_is after after_is =
    rw (after_is, asked_is, was_is)
    (short_secret _ (outcome_of-IsOutcome _ request (state-IsRead state is).good).state)

-- Wrong guesses run out: outputs are what is said from a state, and each wrong guess takes one of
-- those left.

-- what a request does at a state, and what is said
abbrev after : TableState → List ℕ → TableState × List ℕ
after state request = limiter_table.does state request

abbrev outputs_at : TableState → List (List ℕ) → List (List ℕ)
outputs_at state requests = outputs_by limiter_table state requests

-- the wrong guesses left
abbrev left_in : TableState → ℕ
left_in Unset = 0
left_in (Guarded tries left secret) = left

-- a request that renews nothing takes as many of those left as it is told wrong
costs : (state : TableState) (request : Option TableRequest) → is_renewal (text_of (outcome_of state request).1) ≡ false
    → cond (is_wrong (text_of (outcome_of state request).1)) 1 0 + left_in (outcome_of state request).0 ≤ left_in state
costs state request none = grind (arith, nat_tests)

-- no more are wrong than are left
few_wrong : (size : ℕ) (state : TableState) (requests : List (List ℕ)) → list_any is_renewal (take size (outputs_at state requests)) ≡ false
    → count_by is_wrong (take size (outputs_at state requests)) ≤ left_in state
few_wrong zero state requests none = omega arith
few_wrong (suc size) state [] none = omega arith
few_wrong (suc size) state (request ∷ requests) none =
    let o = after state request in
    let more = take size (outputs_at o.0 requests) in
    let parts = or_parts (is_renewal o.1) (list_any is_renewal more) none in
    omega (
      arith,
      sum_by-cons (λ (x : List ℕ). cond (is_wrong x) 1 0) o.1 more,
      costs state (request_of (words_of request)) parts.0,
      few_wrong size o.0 requests parts.1,
    )

-- the guesses that are allowed in all, from a state
abbrev allowed_at : TableState → List (List ℕ) → ℕ
allowed_at Unset requests = allowed_guesses requests (outputs_at Unset requests)
allowed_at (Guarded tries left secret) requests = tries

left-allowed : (state : TableState) (requests : List (List ℕ)) → IsLimiterState state → left_in state ≤ allowed_at state requests
left-allowed state requests good = grind arith

-- it stays along a run
allowed-same : (state : TableState) (request : List ℕ) (requests : List (List ℕ))
    → allowed_at (after state request).0 requests ≡ allowed_at state (request ∷ requests)
allowed-same state request requests = grind (arith, nat_tests)

-- in a stretch that renews nothing no more are wrong than are allowed
limited_at : (from size : ℕ) (state : TableState) (requests : List (List ℕ)) → IsLimiterState state
    → list_any is_renewal (stretch from size (outputs_at state requests)) ≡ false
    → count_by is_wrong (stretch from size (outputs_at state requests)) ≤ allowed_at state requests
limited_at zero size state requests good none = omega (arith, few_wrong size state requests none, left-allowed state requests good)
limited_at (suc from) zero state [] good none = omega arith
limited_at (suc from) (suc size) state [] good none = omega arith
limited_at (suc from) size state (request ∷ requests) good none =
    omega (
      arith,
      limited_at from size (after state request).0 requests
          (limiter_is_table.stays state request good) none,
      allowed-same state request requests,
    )

pub guesses-limited : GuessesAreLimited
guesses-limited requests =
    let P : List (List ℕ) → Type 0 = λ outputs. (from size : ℕ)
    → list_any is_renewal (stretch from size outputs) ≡ false
    → count_by is_wrong (stretch from size outputs) ≤ allowed_guesses requests outputs in
    subst P (sym (table_outputs limiter_is_table Unset requests tt))
    (λ from size none. limited_at from size Unset requests tt none)

-- Runs of a limiter keep its promise.

-- the output at this place is a wrong guess
abbrev IsWrongAt : List (List ℕ) → ℕ → Type 0
IsWrongAt outputs before = (output : List ℕ) × (slice_get outputs before ≡ Some output) × (is_wrong output ≡ true)

-- a place that is told wrong was wrong
told_first : (telling : Telling) (before : ℕ) (more : Bool) → ((telling.before == before && is_wrong telling.output) || more) ≡ true
    → ((telling.before ≡ before) × (is_wrong telling.output ≡ true)) ⊎ (more ≡ true)
told_first telling before more is = grind (arith, nat_tests)

told_wrong : (outputs : List (List ℕ)) (tellings : List Telling) (before : ℕ) → AllByRecursion (WasSaid outputs) tellings
    → has_wrong_guess tellings before ≡ true → IsWrongAt outputs before
told_wrong outputs [] before said is = cc
told_wrong outputs (telling ∷ tellings) before said is =
    elim (told_first telling before (has_wrong_guess tellings before) is) [
      | inl w ↦ (
        telling.output,
        subst (λ n. slice_get outputs n ≡ Some telling.output) w.0 said.0,
        w.1,
      )
      | inr later ↦ told_wrong outputs tellings before said.1 later
    ]

-- one place more
less : (a b : Bool) → (a ≡ true → b ≡ true) → cond a 1 0 ≤ cond b 1 0
less a b h = grind arith

place-counts : (p : Bool) (rest : List (List ℕ)) (size : ℕ) → (p ≡ true → IsWrongAt rest 0)
    → cond p 1 0 + count_by is_wrong (take size (drop 1 rest)) ≤ count_by is_wrong (take (suc size) rest)
place-counts true [] size holds = let none = (holds refl).1 in cc
place-counts false [] zero holds = omega arith
place-counts false [] (suc size) holds = omega arith
place-counts p (x ∷ rest) size holds =
    omega (
      arith,
      sum_by-cons (λ (y : List ℕ). cond (is_wrong y) 1 0) x (take size rest),
      less p (is_wrong x) (λ is. let w = holds is in ap is_wrong (some-same x w.0 w.1) ∙ w.2),
    )

-- as many places at most as there are outputs of the kind
places-count : (size from : ℕ) (p : ℕ → Bool) (outputs : List (List ℕ)) → ((before : ℕ) → p before ≡ true → IsWrongAt outputs before)
    → count_by p (range_with_len from size) ≤ count_by is_wrong (take size (drop from outputs))
places-count zero from p outputs holds = omega arith
places-count (suc size) from p outputs holds =
    let here : p from ≡ true → IsWrongAt (drop from outputs) 0 =
    λ is. let w = holds from is in (w.0, sym (slice_get-drop outputs from) ∙ w.1, w.2) in
    let more : count_by p (range_with_len (from + 1) size) ≤ count_by is_wrong
    (take size (drop 1 (drop from outputs))) =
    subst (λ (l : List (List ℕ)). count_by p (range_with_len (from + 1) size) ≤ count_by is_wrong
    (take size l)) (drop-next outputs from)
    (places-count size (from + 1) p outputs holds) in
    let sum = sum_by-cons (λ (n : ℕ). cond (p n) 1 0) from (range_with_len (from + 1) size) in
    omega (arith, sum, more, place-counts (p from) (drop from outputs) size here)

-- every run keeps the promise
pub keeps-few : (requests : List (List ℕ)) (tellings : List Telling) → AreSaid limiter requests tellings → KeepsGuessesFew requests tellings
keeps-few requests tellings said = record {
  guesses = guesses-limited requests;
  told = λ from size none.
      let outputs = outputs_from limiter limiter.first requests in
      let counted = places-count size from (has_wrong_guess tellings) outputs
      (λ before is. told_wrong outputs tellings before said is) in
      omega (arith, counted, guesses-limited requests from size none);
}

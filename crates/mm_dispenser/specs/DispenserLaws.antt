-- The laws of the dispenser.
use Rattle.std.specs.Prelude.{◌≡◌, ℕ, zero, suc, ◌+◌, ◌*◌, ◌^◌, ◌<◌, ◌≤◌, true, false, not, ◌==◌, List, [], ◌∷◌, ◌++◌, length, Bool, Option}
use Rattle.std.specs.Prelude.{Some, None, is_some, unwrap_or, if◌then◌else◌}
use Rattle.std.proofs.Common.{refl, ◌∙◌, ap, arith, length-append}
use Rattle.std.specs.Int.{w32, to_be_bytes}
use Rattle.std.proofs.lemmas.Bool.Decides.{nat_tests}
use Rattle.std.proofs.lemmas.List.{length-take-le}
use Rattle.std.proofs.lemmas.List.Folds.{list_all-append}
use Rattle.hex.specs.Hex.{encode_lower, lower_digits}
use Rattle.hex.proofs.HexLemmas.{length-encode_with}
use Rattle.mm_bytes.specs.Limits.{eight_bytes, last_position}
use Rattle.mm_module.specs.Batch.{is_byte, are_bytes}
use Rattle.mm_module.specs.LineLaws.{is_unbroken, and-true, and-both, IsText, is_unbroken-decimal, length-decimal, take-front, drop-front}
use Rattle.mm_module.specs.LineLaws.{are_bytes-take, are_bytes-append, length-eight, are_bytes-eight, number_of_eight_bytes-eight, IsValue}
use Rattle.mm_module.specs.LineLaws.{value_at-value, is_unbroken-encoded}
use Rattle.mm_module.specs.Meaning.{IsLawful, words_of}
use Rattle.mm_module.specs.RunLaws.{Table, IsTable, IsOutcome, table_by, table_is_lawful}
use Rattle.mm_dispenser.specs.Draws.{word_of, word_text, words_text}
use Rattle.mm_dispenser.specs.Table.{request_of, outcome_of, text_of, seeded_state_of, state_of, spelling_of, outcome_of_bytes, is_state}
use Rattle.mm_dispenser.specs.Table.{dispenser}
use Rattle.mm_dispenser.specs.declared.dispenser.State.{State}
use Rattle.mm_dispenser.specs.declared.dispenser.State.TheVariants.{Unset, Seeded}
use Rattle.mm_dispenser.specs.declared.dispenser.Request.{Request}
use Rattle.mm_dispenser.specs.declared.dispenser.Request.TheVariants.{Seed, Draw}
use Rattle.mm_dispenser.specs.declared.dispenser.Output.{Output}
use Rattle.mm_dispenser.specs.declared.dispenser.Output.TheVariants as says

-- a seed with a place
pub record IsSeeded (seed : List ℕ) (place : ℕ) : Type 0 where
  pub formed : IsValue seed
  pub within : place ≤ last_position

-- a state that can be spelled
abbrev pub IsDispenserState : State → Type 0
IsDispenserState Unset = Unit {0}
IsDispenserState (Seeded seed place) = IsSeeded seed place

-- a request that can be read
abbrev IsDispenserRequest : Option Request → Type 0
IsDispenserRequest (Some (Seed seed)) = IsValue seed
IsDispenserRequest (Some (Draw count)) = count ≤ 16
IsDispenserRequest None = Unit {0}

request_of-IsDispenserRequest : (words : List (List ℕ)) → IsDispenserRequest (request_of words)
unfolding request_of
request_of-IsDispenserRequest words = grind (arith, nat_tests, value_at-value)

-- what is said, of at most 16 words
abbrev pub SaysWords : Output → Type 0
SaysWords (says.Words seed place count) = (place < 2 ^ 64) × (count ≤ 16)
SaysWords _ = Unit {0}

-- a state that can be spelled and what can be said
pub outcome_of-IsOutcome : (state : State) (request : List ℕ) → IsDispenserState state
    → IsOutcome IsDispenserState SaysWords (outcome_of state (request_of (words_of request)))
outcome_of-IsOutcome state request good =
    let asked = request_of-IsDispenserRequest (words_of request) in grind (arith, nat_tests)

-- a spelling is read back
seeded_state_of-joined : (seed : List ℕ) (place : ℕ) → IsSeeded seed place → seeded_state_of (seed ++ eight_bytes place)
    ≡ Some (Seeded seed place)
seeded_state_of-joined seed place good =
    grind (
      arith,
      nat_tests,
      take-front 32 seed (eight_bytes place) good.formed.long,
      drop-front 32 seed (eight_bytes place) good.formed.long,
      length-append seed (eight_bytes place),
      length-eight place,
      number_of_eight_bytes-eight place,
    )

state_of-spelling_of : (state : State) → IsDispenserState state → state_of (spelling_of state) ≡ Some state
unfolding state_of
state_of-spelling_of Unset good = refl
state_of-spelling_of (Seeded [] place) good = absurd (omega (arith, good.formed.long))
state_of-spelling_of (Seeded (x ∷ xs) place) good = seeded_state_of-joined (x ∷ xs) place good

-- a spelled state is good, and has at most 41 bytes
record IsRead (bytes : List ℕ) (state : State) : Type 0 where
  good : IsDispenserState state
  short : length bytes ≤ 41
  are : are_bytes bytes ≡ true

seeded-read : (bytes : List ℕ) (state : State) → are_bytes bytes ≡ true
    → seeded_state_of bytes ≡ Some state → IsDispenserState state × (length bytes ≤ 40)
seeded-read bytes state is read =
    let front = are_bytes-take 32 bytes is in grind (arith, nat_tests, length-take-le 32 bytes)

formed-read : (formed : Bool) (read : Option State) (long : ℕ)
    → ((state : State) → read ≡ Some state → IsDispenserState state × (long ≤ 40)) → is_some (if formed then read else None) ≡ true
    → IsDispenserState (unwrap_or (if formed then read else None) Unset) × (long ≤ 40)
formed-read true (Some state) long each is = each state refl
formed-read true None long each is = cc
formed-read false read long each is = cc

state-IsRead : (bytes : List ℕ) → is_state bytes ≡ true → IsRead bytes (unwrap_or (state_of bytes) Unset)
unfolding is_state state_of
state-IsRead [] is = cc
state-IsRead (form ∷ []) is = grind (arith, nat_tests)
state-IsRead (form ∷ first ∷ rest) is =
    let w = and-true (are_bytes (form ∷ first ∷ rest)) _ is in
    let r = formed-read (form == 1) (seeded_state_of (first ∷ rest)) (length (first ∷ rest))
    (λ state read. seeded-read (first ∷ rest) state (and-true (is_byte form) _ w.0).1 read) w.1 in
    record { good = r.0; short = omega (arith, r.1); are = w.0 }

are_bytes-spelling_of : (state : State) → IsDispenserState state → are_bytes (spelling_of state) ≡ true
are_bytes-spelling_of state good = grind (arith, are_bytes-append, are_bytes-eight)

is_state-spelling_of : (state : State) → IsDispenserState state → is_state (spelling_of state) ≡ true
unfolding is_state
is_state-spelling_of state good = and-both _ _ (are_bytes-spelling_of state good) (ap is_some (state_of-spelling_of state good))

-- a word's text is a space and eight digits
unfoldable pub digits_at : List ℕ → ℕ → List ℕ
digits_at seed place = encode_lower (to_be_bytes w32 (word_of seed place))

length-word_text : (word : ℕ) → length (word_text word) ≡ 9
unfolding word_text
length-word_text word = omega (arith, length-encode_with lower_digits (to_be_bytes w32 word))

unbroken-word_text : (word : ℕ) → is_unbroken (word_text word) ≡ true
unfolding word_text
unbroken-word_text word = is_unbroken-encoded (to_be_bytes w32 word)

length-words_text : (seed : List ℕ) (place count : ℕ) → length (words_text seed place count) ≡ 9 * count
length-words_text seed place zero = refl
length-words_text seed place (suc count) =
    omega (
      arith,
      length-append (word_text (word_of seed place)) (words_text seed (place + 1) count),
      length-word_text (word_of seed place),
      length-words_text seed (place + 1) count,
    )

unbroken-words_text : (seed : List ℕ) (place count : ℕ) → is_unbroken (words_text seed place count) ≡ true
unbroken-words_text seed place zero = refl
unbroken-words_text seed place (suc count) =
    list_all-append (λ byte. not (byte == 10)) (word_text (word_of seed place))
    (words_text seed (place + 1) count)
    ∙ and-both _ _ (unbroken-word_text (word_of seed place))
    (unbroken-words_text seed (place + 1) count)

-- what is said has at most 170 bytes, with no LF
text_of-IsText : (said : Output) → SaysWords said → IsText 170 (text_of said)
text_of-IsText said is =
    grind (
      arith,
      length-append,
      length-decimal,
      length-words_text,
      list_all-append,
      is_unbroken-decimal,
      unbroken-words_text,
    )

abbrev pub dispenser_table : Table State
dispenser_table = table_by Unset (λ bytes. unwrap_or (state_of bytes) Unset) spelling_of request_of outcome_of text_of

pub dispenser_is_table : IsTable dispenser_table dispenser IsDispenserState 41 170
unfolding outcome_of_bytes
dispenser_is_table = record {
  begins = refl;
  first = tt;
  reads = λ bytes is. (state-IsRead bytes is).good;
  spells = is_state-spelling_of;
  back = λ state good.
      ap (λ (read : Option State). unwrap_or read Unset) (state_of-spelling_of state good);
  next = λ bytes request. refl;
  says = λ bytes request. refl;
  stays = λ state request good. (outcome_of-IsOutcome state request good).state;
  tells = λ state request good. text_of-IsText _ (outcome_of-IsOutcome state request good).said;
  fits = λ bytes is. (state-IsRead bytes is).short;
  bytes = λ bytes is. (state-IsRead bytes is).are;
}

-- the dispenser is a module
pub dispenser_is_lawful : IsLawful dispenser
dispenser_is_lawful = table_is_lawful dispenser_is_table (omega arith) (omega arith)

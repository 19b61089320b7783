-- No place is told by two draws: the place never falls, and a draw tells those from the place
-- before it to the one after. With it: runs of a dispenser keep its promise.
use Rattle.std.specs.Fmt.{decimal}
use Rattle.std.specs.List.{list_all, AllByRecursion}
use Rattle.std.specs.Prelude.{All, ◌⊎◌, option_and_then}
use Rattle.std.proofs.Common.{◌≡◌, ℕ, zero, suc, ◌+◌, ◌<◌, ◌≤◌, ◌^◌, Bool, true, false, not, List, [], ◌∷◌, ◌++◌, length, Option, Some}
use Rattle.std.proofs.Common.{None, refl, sym, ◌∙◌, ap, subst, arith, append-nil, inl, inr}
use Rattle.std.proofs.lemmas.Bool.Decides.{nat_tests}
use Rattle.std.proofs.lemmas.List.Splits.{slice_split_none, slice_split_at}
use Rattle.mm_bytes.specs.DecimalLaws.{read_by_spelling}
use Rattle.mm_bytes.specs.Limits.{decimal_number}
use Rattle.mm_module.specs.LineLaws.{passes-decimal, list_all-get_or, passes-encoded}
use Rattle.mm_module.specs.Meaning.{words_of, is_space, outputs_from}
use Rattle.mm_module.specs.RunLaws.{outputs_by, table_outputs}
use Rattle.mm_listing.specs.Listing.{AreSaid, Telling, WasSaid}
use Rattle.mm_listing.specs.RequestLaws.{at-place, one-telling}
use Rattle.mm_dispenser.specs.declared.dispenser.Output.{Output}
use Rattle.mm_dispenser.specs.declared.dispenser.Output.TheVariants as says
use Rattle.mm_dispenser.specs.declared.dispenser.Request.{Request}
use Rattle.mm_dispenser.specs.declared.dispenser.State.{State}
use Rattle.mm_dispenser.specs.declared.dispenser.State.TheVariants.{Unset, Seeded}
use Rattle.mm_dispenser.specs.DispenserLaws.{IsDispenserState, SaysWords, outcome_of-IsOutcome, digits_at, dispenser_table}
use Rattle.mm_dispenser.specs.DispenserLaws.{dispenser_is_table}
use Rattle.mm_dispenser.specs.Draws.{word_of, word_text, words_text, text_of_draw}
use Rattle.mm_dispenser.specs.Promise.{PlaceRange, told_places, places_at, PlacesRise, PlacesAreToldOnce, KeepsPlacesApart, TellsPlacesOnce}
use Rattle.mm_dispenser.specs.Table.{request_of, outcome_of, text_of, dispenser}

-- no space in it, as a test
abbrev is_whole : List ℕ → Bool
is_whole text = list_all (λ byte. not (is_space byte)) text

refuted : (b : Bool) → not b ≡ true → b ≡ false
refuted b is = grind arith

no_space : (text : List ℕ) → is_whole text ≡ true → All (λ byte. is_space byte ≡ false) text
no_space text is = λ k d inside. refuted _ (list_all-get_or (λ byte. not (is_space byte)) text is k d inside)

decimal-whole : (n : ℕ) → n < 2 ^ 64 → is_whole (decimal n) ≡ true
decimal-whole n small = passes-decimal (λ byte. not (is_space byte)) (λ d is. grind (arith, nat_tests)) n small

-- the words behind a first one, as many as are drawn
abbrev word_list : List ℕ → ℕ → ℕ → List (List ℕ)
word_list seed place zero = []
word_list seed place (suc count) = digits_at seed place ∷ word_list seed (place + 1) count

length-word_list : (seed : List ℕ) (place count : ℕ) → length (word_list seed place count) ≡ count
length-word_list seed place zero = refl
length-word_list seed place (suc count) = ap suc (length-word_list seed (place + 1) count)

digits_at-whole : (seed : List ℕ) (place : ℕ) → is_whole (digits_at seed place) ≡ true
unfolding digits_at
digits_at-whole seed place = passes-encoded (λ byte. not (is_space byte)) refl refl _

word_text-digits : (seed : List ℕ) (place : ℕ) → word_text (word_of seed place) ≡ 32 ∷ digits_at seed place
unfolding word_text digits_at
word_text-digits seed place = refl

-- a first word and the words that are drawn
words-drawn : (count place : ℕ) (seed front : List ℕ) → is_whole front ≡ true
    → words_of (front ++ words_text seed place count) ≡ front ∷ word_list seed place count
words-drawn zero place seed front whole = rw (append-nil front) (slice_split_none is_space front (no_space front whole))
words-drawn (suc count) place seed front whole =
    let rest = digits_at seed place ++ words_text seed (place + 1) count in
    rw (word_text-digits seed place) (slice_split_at is_space front 32 rest (no_space front whole) refl
    ∙ ap (λ (l : List (List ℕ)). front ∷ l)
    (words-drawn count (place + 1) seed (digits_at seed place) (digits_at-whole seed place)))

-- a draw tells its places
drawn-tells : (seed : List ℕ) (place count : ℕ) → place < 2 ^ 64
    → told_places (text_of_draw seed place count) ≡ Some (record { from = place; size = count })
drawn-tells seed place count small =
    rw (
      words-drawn count place seed (decimal place) (decimal-whole place small),
      read_by_spelling (decimal place) place small refl,
      length-word_list seed place count,
    ) refl

-- the places that are told
abbrev told_of : Output → Option PlaceRange
told_of (says.Words seed place count) = Some (record { from = place; size = count })
told_of _ = None

told-is : (said : Output) → SaysWords said → told_places (text_of said) ≡ told_of said
unfolding decimal_number
told-is (says.Words seed place count) is = drawn-tells seed place count is.0
told-is says.Seeded is = refl
told-is says.Taken is = refl
told-is says.Unset is = refl
told-is says.Full is = refl
told-is says.Bad is = refl

-- what a request does at a state, and what is said
abbrev after : State → List ℕ → State × List ℕ
after state request = dispenser_table.does state request

-- the place of the next word
abbrev next_place : State → ℕ
next_place Unset = 0
next_place (Seeded seed place) = place

-- places that an outcome tells are those between the place before and the place after
record Moves (place : ℕ) (outcome : State × Output) : Type 0 where
  rises : place ≤ next_place outcome.0
  tells : (p : PlaceRange) → told_of outcome.1 ≡ Some p
      → (p.from ≡ place) × (next_place outcome.0 ≡ p.from + p.size)

moves_by : (state : State) (request : Option Request) → Moves (next_place state) (outcome_of state request)
moves_by state request = record { rises = grind arith; tells = λ p is. grind arith }

record MovesOn (place next : ℕ) (output : List ℕ) : Type 0 where
  rises : place ≤ next
  tells : (p : PlaceRange) → told_places output ≡ Some p
      → (p.from ≡ place) × (next ≡ p.from + p.size)

moves : (state : State) (request : List ℕ) → IsDispenserState state
    → MovesOn (next_place state) (next_place (after state request).0) (after state request).1
moves state request good =
    let m = moves_by state (request_of (words_of request)) in
    let said = (outcome_of-IsOutcome state request good).said in
    record { rises = m.rises; tells = λ p is. m.tells p (sym (told-is _ said) ∙ is) }

-- places that are told later begin at or behind the place of now
from_here : (j : ℕ) (state : State) (requests : List (List ℕ)) → IsDispenserState state → (q : PlaceRange)
    → places_at (outputs_by dispenser_table state requests) j ≡ Some q → next_place state ≤ q.from
from_here j state [] good q is = cc
from_here zero state (request ∷ requests) good q is =
    let m = moves state request good in omega (arith, (m.tells q is).0)
from_here (suc j) state (request ∷ requests) good q is =
    let m = moves state request good in
    omega (
      arith,
      m.rises,
      from_here j (after state request).0 requests
          (dispenser_is_table.stays state request good) q is,
    )

rises-by : (i j : ℕ) (state : State) (requests : List (List ℕ)) → IsDispenserState state → (p q : PlaceRange) → i < j
    → places_at (outputs_by dispenser_table state requests) i ≡ Some p → places_at (outputs_by dispenser_table state requests) j ≡ Some q
    → p.from + p.size ≤ q.from
rises-by i j state [] good p q before one two = cc
rises-by i zero state (request ∷ requests) good p q before one two = absurd (omega arith)
rises-by zero (suc j) state (request ∷ requests) good p q before one two =
    let m = moves state request good in
    omega (
      arith,
      (m.tells p one).1,
      from_here j (after state request).0 requests
          (dispenser_is_table.stays state request good) q two,
    )
rises-by (suc i) (suc j) state (request ∷ requests) good p q before one two =
    rises-by i j (after state request).0 requests (dispenser_is_table.stays state request good) p q (omega arith)
    one two

pub places-once : PlacesAreToldOnce
places-once requests =
    subst PlacesRise (sym (table_outputs dispenser_is_table Unset requests tt))
    (λ i j p q before one two. rises-by i j Unset requests tt p q before one two)

-- Runs of a dispenser keep its promise.

places-are : (outputs : List (List ℕ)) (telling : Telling) (p : PlaceRange) → WasSaid outputs telling → told_places telling.output ≡ Some p
    → places_at outputs telling.before ≡ Some p
places-are outputs telling p said is = ap (λ (o : Option (List ℕ)). option_and_then told_places o) said ∙ is

by_order : (a b : ℕ) → (a ≡ b) ⊎ ((a < b) ⊎ (b < a))
by_order a b = grind arith

places-apart : (outputs : List (List ℕ)) → PlacesRise outputs → (tellings : List Telling)
    → AllByRecursion (WasSaid outputs) tellings → TellsPlacesOnce tellings
places-apart outputs rises tellings said i j a b p q at_a at_b pp qq =
    let one = at-place (WasSaid outputs) tellings i a said at_a in
    let two = at-place (WasSaid outputs) tellings j b said at_b in
    let first = places-are outputs a p one pp in
    let second = places-are outputs b q two qq in
    elim (by_order a.before b.before) [
      | inl same ↦ inl (one-telling outputs a b one two same)
      | inr other ↦ inr (elim other [
        | inl before ↦ inl (rises a.before b.before p q before first second)
        | inr behind ↦ inr (rises b.before a.before q p behind second first)
      ])
    ]

-- every run keeps the promise
pub keeps-apart : (requests : List (List ℕ)) (tellings : List Telling)
    → AreSaid dispenser requests tellings → KeepsPlacesApart requests tellings
keeps-apart requests tellings said = record {
  places = places-once requests;
  told =
      places-apart (outputs_from dispenser dispenser.first requests) (places-once requests) tellings
      said;
}

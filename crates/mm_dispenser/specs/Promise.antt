-- What a dispenser promises of a whole run, and of the lines that tell of it. With it: what a
-- dispenser promises of a whole run.
use Rattle.std.specs.Prelude.{◌≡◌, ℕ, ◌+◌, ◌<◌, ◌≤◌, List, [], ◌∷◌, length, slice_get, Option, Some, None, option_map, option_and_then, ◌⊎◌}
use Rattle.mm_bytes.specs.Limits.{decimal_number}
use Rattle.mm_module.specs.Meaning.{outputs_from, words_of}
use Rattle.mm_listing.specs.Listing.{Telling}
use Rattle.mm_dispenser.specs.Table.{dispenser}

-- What a dispenser promises of a whole run: no place is told by two draws.

-- so many places from one on
pub record PlaceRange : Type 0 where
  pub from : ℕ
  pub size : ℕ

-- a number, and so many words behind it
abbrev pub places_in : List (List ℕ) → Option PlaceRange
places_in [] = None
places_in (word ∷ words) =
    option_map (λ (n : ℕ). record { from = n; size = length words }) (decimal_number word)

-- The places that an output tells: those from the number on that it begins with, as many as there
-- are words behind. An output that begins with no number tells none.
abbrev pub told_places : List ℕ → Option PlaceRange
told_places output = places_in (words_of output)

-- the places that the output behind so many tells
abbrev pub places_at : List (List ℕ) → ℕ → Option PlaceRange
places_at outputs i = option_and_then told_places (slice_get outputs i)

-- Of two outputs that tell places, the later one's begin at or behind the end of the earlier one's.
abbrev pub PlacesRise : List (List ℕ) → Type 0
PlacesRise outputs =
    (i j : ℕ) (p q : PlaceRange) → i < j → places_at outputs i ≡ Some p
    → places_at outputs j ≡ Some q
    → p.from + p.size ≤ q.from

-- so it is in every run
abbrev pub PlacesAreToldOnce : Type 0
PlacesAreToldOnce =
    (requests : List (List ℕ)) → PlacesRise (outputs_from dispenser dispenser.first requests)

-- What a dispenser promises of a whole run, and of the lines that tell of it.

-- two lines tell one request of the run, or no place in common
abbrev pub TellsPlacesOnce : List Telling → Type 0
TellsPlacesOnce tellings = (i j : ℕ) (a b : Telling) (p q : PlaceRange)
    → slice_get tellings i ≡ Some a → slice_get tellings j ≡ Some b
    → told_places a.output ≡ Some p → told_places b.output ≡ Some q
    → (a ≡ b) ⊎ ((p.from + p.size ≤ q.from) ⊎ (q.from + q.size ≤ p.from))

-- What a dispenser promises: no place is told by two draws, in the run and in its lines.
pub record KeepsPlacesApart (requests : List (List ℕ)) (tellings : List Telling) : Type 0 where
  pub places : PlacesRise (outputs_from dispenser dispenser.first requests)
  pub told : TellsPlacesOnce tellings

-- What a tally promises of a whole run.
use Rattle.std.specs.Prelude.{◌≡◌, ℕ, ◌+◌, min, List, take, count_by}
use Rattle.std.specs.Fmt.{decimal}
use Rattle.std.specs.List.{AllByRecursion}
use Rattle.mm_listing.specs.Listing.{Telling}
use Rattle.mm_tally.specs.Table.{is_mark}

-- how many of the first so many requests are marks, as far as 255
abbrev pub marks_among : List (List ℕ) → ℕ → ℕ
marks_among requests size = min 255 (count_by is_mark (take size requests))

-- the line tells the marks up to its own request
abbrev pub TellsItsMarks : List (List ℕ) → Telling → Type 0
TellsItsMarks requests telling =
    telling.output ≡ decimal (marks_among requests (telling.before + 1))

-- Each line tells the marks up to its own request, each mark once, however often it was asked.
abbrev pub TellsMarks : List (List ℕ) → List Telling → Type 0
TellsMarks requests tellings =
    AllByRecursion (TellsItsMarks requests) tellings

-- Byte lists that stand in one text.
use Rattle.std.specs.Prelude.{ℕ, ◌≤◌, List, [], ◌∷◌, map, slice_range}
use Rattle.mm_numbering.specs.declared.texts.Span.{Span}

-- the bytes of a text from a span's start to its end
abbrev pub bytes_in : List ℕ → Span → List ℕ
bytes_in text span = slice_range text span.start span.end

-- those of each span
abbrev pub parts_at : List ℕ → List Span → List (List ℕ)
parts_at text spans = map (bytes_in text) spans

-- each span lies in a text of this length
abbrev pub AreWithin : ℕ → List Span → Type 0
AreWithin size [] = Unit {0}
AreWithin size (span ∷ spans) = (span.start ≤ span.end) × (span.end ≤ size) × AreWithin size spans

-- The lines of an input: each ends with LF (byte 10), and what stands after the last LF is the
-- tail. With it: lines: their bytes stand before a line feed.
use Rattle.std.specs.Io.KnownBytes.{Consumes, IsAtEnd}
use Rattle.std.specs.Prelude.{◌≢◌, ℕ, ◌==◌, List, [], ◌∷◌, ◌++◌, All, if◌then◌else◌, ◌≡◌, ◌+◌, ◌<◌, ◌≤◌, length, take, drop, Option, Some}
use Rattle.std.specs.Prelude.{None, Result, Ok, Err, Bool, true, false}
use Rattle.mm_bytes.specs.Limits.{CountRose}
use Rattle.mm_bytes.specs.declared.fault.Failed.{Failed}
use Rattle.mm_base.specs.declared.lines.LineFault.{LineFault}
use Rattle.mm_base.specs.declared.lines.LineFault.TheVariants.{ReadFault, LineLong}
use Rattle.mm_base.specs.declared.lines.SeenLine.{SeenLine}
use Rattle.mm_base.specs.declared.lines.SeenLine.TheVariants.{Line, Tail, End}

-- no byte is an LF
abbrev pub IsUnbroken : List ℕ → Type 0
IsUnbroken bytes = All (λ byte. byte ≢ 10) bytes

-- the bytes stand before the first line, where there is one
abbrev pub lines_with_front : List ℕ → List (List ℕ) → List (List ℕ)
lines_with_front bytes [] = []
lines_with_front bytes (line ∷ lines) = (bytes ++ line) ∷ lines

-- the bytes stand before the tail, where no line comes before it
abbrev pub tail_with_front : List ℕ → List (List ℕ) → List ℕ → List ℕ
tail_with_front bytes [] tail = bytes ++ tail
tail_with_front bytes (line ∷ lines) tail = tail

-- the whole lines, each without its LF
abbrev pub lines_of : List ℕ → List (List ℕ)
lines_of [] = []
lines_of (byte ∷ rest) =
    if byte == 10 then [] ∷ lines_of rest else lines_with_front (byte ∷ []) (lines_of rest)

-- what stands after the last LF
abbrev pub tail_of : List ℕ → List ℕ
tail_of [] = []
tail_of (byte ∷ rest) =
    if byte == 10 then tail_of rest else tail_with_front (byte ∷ []) (lines_of rest) (tail_of rest)

-- the bytes of these lines, each with its LF
abbrev pub joined_lines : List (List ℕ) → List ℕ
joined_lines [] = []
joined_lines (line ∷ lines) = line ++ 10 ∷ joined_lines lines

-- Lines: their bytes stand before a line feed.

-- the first line feed of the bytes stands after so many of them
pub record HasBreakAt (bytes : List ℕ) (at : ℕ) : Type 0 where
  pub within : at < length bytes
  pub line : IsUnbroken (take at bytes)
  pub parts : bytes ≡ take at bytes ++ 10 ∷ drop (at + 1) bytes

-- whether a line feed is among the bytes
abbrev pub HoldsLine : List ℕ → Bool → Type 0
HoldsLine bytes true = (at : ℕ) × HasBreakAt bytes at
HoldsLine bytes false = IsUnbroken bytes

-- how many bytes were given: none only at the end, and none after a fault
abbrev pub SourceGives : Option (List ℕ) → List ℕ → Result ℕ Failed → Type 0
SourceGives left taken (Ok count) = (length taken ≡ count) × (count ≡ 0 → IsAtEnd left)
SourceGives left taken (Err _) = taken ≡ []

-- a source gave these bytes at Ok, none only at its end, and none otherwise
pub record SourceRefills (left left' : Option (List ℕ)) (held held' : List ℕ)
    (result : Result ℕ Failed) : Type 0 where
  pub taken : List ℕ
  pub consumed : Consumes left left' taken
  pub joined : held' ≡ held ++ taken
  pub gives : SourceGives left' taken result

-- bytes that may grow into a line
pub record IsLineFront (limit : ℕ) (bytes : List ℕ) : Type 0 where
  pub unbroken : IsUnbroken bytes
  pub short : length bytes ≤ limit

-- more bytes than a line may have came without a line feed
pub record IsLong (limit : ℕ) (bytes : List ℕ) : Type 0 where
  pub unbroken : IsUnbroken (take (limit + 1) bytes)
  pub long : limit < length bytes

-- what a look at the bytes held tells: a line, none so far, or one that is too long
abbrev pub SeesLine : ℕ → List ℕ → Result (Option ℕ) LineFault → Type 0
SeesLine limit held (Ok (Some size)) = (size ≤ limit) × HasBreakAt held size
SeesLine limit held (Ok None) = IsLineFront limit held
SeesLine limit held (Err LineLong) = IsLong limit held
SeesLine limit held (Err ReadFault) = ⊥

-- what the end of the input leaves
abbrev pub seen_line_at_end : List ℕ → SeenLine
seen_line_at_end [] = End
seen_line_at_end (_ ∷ _) = Tail

-- the bytes held and the bytes taken are the bytes said and the bytes still held
pub record TakesHeldBytes (left left' : Option (List ℕ)) (held said held' : List ℕ) : Type 0 where
  pub taken : List ℕ
  pub consumed : Consumes left left' taken
  pub goes : held ++ taken ≡ said ++ held'

-- what is seen at the front of the bytes held
abbrev pub FindsLine : ℕ → Option (List ℕ) → List ℕ → Result SeenLine LineFault → Type 0
FindsLine limit left held (Ok (Line size)) = (size ≤ limit) × HasBreakAt held size
FindsLine limit left held (Ok Tail) = IsLineFront limit held × (0 < length held) × IsAtEnd left
FindsLine limit left held (Ok End) = (held ≡ []) × IsAtEnd left
FindsLine limit left held (Err ReadFault) = IsLineFront limit held
FindsLine limit left held (Err LineLong) = IsLong limit held

pub record ReaderSees (limit : ℕ) (left left' : Option (List ℕ)) (held held' : List ℕ)
    (result : Result SeenLine LineFault) : Type 0 where
  pub takes : TakesHeldBytes left left' held [] held'
  pub finds : FindsLine limit left' held' result

-- the source's count rose where it failed, and is as before otherwise
abbrev pub RisesAtFault : {T : Type 0} → ℕ → ℕ → Result T LineFault → Type 0
RisesAtFault before now (Ok _) = now ≡ before
RisesAtFault before now (Err ReadFault) = CountRose before now
RisesAtFault before now (Err LineLong) = now ≡ before

pub record CountsReads {T : Type 0} (before now : ℕ) (result : Result T LineFault) : Type 0 where
  pub later : before ≤ now
  pub told : RisesAtFault before now result

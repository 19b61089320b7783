-- The dispenser: a seed that is set once, and the place of the next word.
use Rattle.std.specs.Prelude.{ℕ, ◌+◌, ◌≤◌, ◌==◌, ◌&&◌, Bool, nat_le, List, [], ◌∷◌, ◌++◌, length, take, drop, codes, Option, Some, None}
use Rattle.std.specs.Prelude.{is_some, unwrap_or, option_map, option_and_then, if◌then◌else◌}
use Rattle.std.specs.Str.{bytes_eq}
use Rattle.mm_bytes.specs.Limits.{decimal_number, eight_bytes, last_position}
use Rattle.mm_module.specs.Batch.{are_bytes, number_of_eight_bytes}
use Rattle.mm_module.specs.Meaning.{Meaning, value_at, words_of}
use Rattle.mm_dispenser.specs.Draws.{text_of_draw}
use Rattle.mm_dispenser.specs.declared.dispenser.State.{State}
use Rattle.mm_dispenser.specs.declared.dispenser.State.TheVariants.{Unset, Seeded}
use Rattle.mm_dispenser.specs.declared.dispenser.Request.{Request}
use Rattle.mm_dispenser.specs.declared.dispenser.Request.TheVariants.{Seed, Draw}
use Rattle.mm_dispenser.specs.declared.dispenser.Output.{Output}
use Rattle.mm_dispenser.specs.declared.dispenser.Output.TheVariants as says

-- a draw of this many words, where there are 1 to 16
abbrev pub draw_of : ℕ → Option Request
draw_of number = if nat_le 1 number && nat_le number 16 then Some (Draw number) else None

-- the request that these words are: `seed HEX`, or `draw N`
unfoldable pub request_of : List (List ℕ) → Option Request
request_of (word ∷ argument ∷ []) =
    if bytes_eq word (codes "seed") then option_map (λ seed. Seed seed) (value_at argument)
    else (if bytes_eq word (codes "draw") then option_and_then draw_of (decimal_number argument)
    else None)
request_of _ = None

-- what a draw does to a seed and a place: there are 2^48 places
abbrev pub outcome_of_draw : List ℕ → ℕ → ℕ → State × Output
outcome_of_draw seed place count =
    if nat_le (place + count) last_position
    then (Seeded seed (place + count), says.Words seed place count)
    else (Seeded seed place, says.Full)

-- what a request does, and what is said
abbrev pub outcome_of : State → Option Request → State × Output
outcome_of Unset (Some (Seed seed)) = (Seeded seed 0, says.Seeded)
outcome_of (Seeded seed place) (Some (Seed other)) = (Seeded seed place, says.Taken)
outcome_of Unset (Some (Draw count)) = (Unset, says.Unset)
outcome_of (Seeded seed place) (Some (Draw count)) = outcome_of_draw seed place count
outcome_of state None = (state, says.Bad)

-- the text of what is said
abbrev pub text_of : Output → List ℕ
text_of says.Seeded = codes "seeded"
text_of says.Taken = codes "taken"
text_of says.Unset = codes "unset"
text_of says.Full = codes "full"
text_of (says.Words seed place count) = text_of_draw seed place count
text_of says.Bad = codes "bad"

-- words that are told stand at places that there are
abbrev pub IsDrawn : Output → Type 0
IsDrawn says.Seeded = Unit {0}
IsDrawn says.Taken = Unit {0}
IsDrawn says.Unset = Unit {0}
IsDrawn says.Full = Unit {0}
IsDrawn (says.Words seed place count) = place + count ≤ last_position
IsDrawn says.Bad = Unit {0}

-- a seed with a place, where there is such a place
abbrev pub state_at_place : List ℕ → ℕ → Option State
state_at_place seed place = if nat_le place last_position then Some (Seeded seed place) else None

-- a seed and the 8 bytes of a place
abbrev pub seeded_state_of : List ℕ → Option State
seeded_state_of bytes =
    if length bytes == 40 then state_at_place (take 32 bytes)
    (number_of_eight_bytes (drop 32 bytes)) else None

-- the state that these bytes spell
unfoldable pub state_of : List ℕ → Option State
state_of [] = None
state_of (form ∷ []) = if form == 0 then Some Unset else None
state_of (form ∷ first ∷ rest) = if form == 1 then seeded_state_of (first ∷ rest) else None

-- the bytes of a state
abbrev pub spelling_of : State → List ℕ
spelling_of Unset = 0 ∷ []
spelling_of (Seeded seed place) = 1 ∷ (seed ++ eight_bytes place)

-- what a request does to a spelled state
unfoldable pub outcome_of_bytes : List ℕ → List ℕ → State × Output
outcome_of_bytes state request =
    outcome_of (unwrap_or (state_of state) Unset) (request_of (words_of request))

-- the bytes spell a state
unfoldable pub is_state : List ℕ → Bool
is_state bytes = are_bytes bytes && is_some (state_of bytes)

-- the dispenser as a module
abbrev pub dispenser : Meaning
dispenser = record {
  id = 4;
  first = 0 ∷ [];
  next = λ state request. spelling_of (outcome_of_bytes state request).0;
  says = λ state request. text_of (outcome_of_bytes state request).1;
  is_spelled = is_state;
}

-- What a module is: a small program whose states, requests and outputs are byte lists. With it: a
-- request as words between single spaces; the counter: a value of 64 bits; visible bytes; outputs,
-- as contracts see them; values of 32 bytes, as words.
use Rattle.std.specs.Fmt.{decimal}
use Rattle.std.specs.List.{slice_split}
use Rattle.std.specs.Prelude.{◌≢◌, ℕ, ◌≤◌, ◌<◌, List, [], ◌∷◌, length, fold, Bool, IsTrue, All, ◌==◌, Option, Some, None, ◌+◌, ◌^◌, ◌&&◌}
use Rattle.std.specs.Prelude.{nat_lt, replicate, codes, option_map, if◌then◌else◌, nat_le}
use Rattle.std.specs.Result.{result_ok}
use Rattle.std.specs.Str.{bytes_eq}
use Rattle.hex.specs.Hex.{decode_sized}
use Rattle.mm_bytes.specs.Limits.{limit_of, longest_request, decimal_number, eight_bytes}
use Rattle.mm_module.specs.Batch.{are_bytes, number_of_eight_bytes}
use Rattle.mm_module.specs.declared.counter.Output.{Output}
use Rattle.mm_module.specs.declared.counter.Output.TheVariants.{Value, Full, Bad}
use Rattle.mm_module.specs.declared.counter.Request.{Request}
use Rattle.mm_module.specs.declared.counter.Request.TheVariants.{Read, Add}
use Rattle.mm_module.specs.declared.outputs.OutputItems.{OutputItems}
use Rattle.mm_module.specs.declared.outputs.OutputItems.TheVariants.{One, Many}

-- an id, a first state, and the state and the output that follow a state and a request
pub record Meaning : Type 0 where
  pub id : ℕ
  pub first : List ℕ
  pub next : List ℕ → List ℕ → List ℕ
  pub says : List ℕ → List ℕ → List ℕ
  pub is_spelled : List ℕ → Bool

-- what a request and an output are: at most 4,096 bytes and no LF
pub record IsLine (text : List ℕ) : Type 0 where
  pub short : length text ≤ longest_request
  pub unbroken : All (λ byte. byte ≢ 10) text

-- The laws of a module, at every request. The first state is spelled, and from a spelled state
-- every request leads to a spelled one. A spelled state has bytes, at most as many as the id
-- allows. An output is a line.
pub record IsLawful (meaning : Meaning) : Type 0 where
  pub begins : IsTrue (meaning.is_spelled meaning.first)
  pub goes_on : (state request : List ℕ) → IsTrue (meaning.is_spelled state)
      → IsTrue (meaning.is_spelled (meaning.next state request))
  pub fits : (state : List ℕ) → IsTrue (meaning.is_spelled state)
      → length state ≤ limit_of meaning.id
  pub has_bytes : (state : List ℕ) → IsTrue (meaning.is_spelled state)
      → All (λ byte. byte < 256) state
  pub says_lines : (state request : List ℕ) → IsTrue (meaning.is_spelled state)
      → IsLine (meaning.says state request)

-- a module with short states and outputs
pub record IsShort (meaning : Meaning) : Type 0 where
  pub state : (state : List ℕ) → IsTrue (meaning.is_spelled state) → length state ≤ 65000
  pub output : (state request : List ℕ) → IsTrue (meaning.is_spelled state)
      → length (meaning.says state request) ≤ 256

-- the state after these requests, from the first state
abbrev pub state_after : Meaning → List (List ℕ) → List ℕ
state_after meaning requests = fold meaning.next meaning.first requests

-- the outputs of these requests, in order, from a state
abbrev pub outputs_from : Meaning → List ℕ → List (List ℕ) → List (List ℕ)
outputs_from meaning state [] = []
outputs_from meaning state (request ∷ requests) =
    meaning.says state request ∷ outputs_from meaning (meaning.next state request) requests

-- the last output of these requests, from a state and the output before them
abbrev pub last_output_from : Meaning → List ℕ → List ℕ → List (List ℕ) → List ℕ
last_output_from meaning state said [] = said
last_output_from meaning state said (request ∷ requests) =
    last_output_from meaning (meaning.next state request) (meaning.says state request) requests

-- the last output of these requests, from the first state; nothing before the first request
abbrev pub last_output_after : Meaning → List (List ℕ) → List ℕ
last_output_after meaning requests = last_output_from meaning meaning.first [] requests

-- the state after these requests, from a state
abbrev pub state_from : Meaning → List ℕ → List (List ℕ) → List ℕ
state_from meaning state requests = fold meaning.next state requests

-- A request as words between single spaces.

-- the words of a text: the pieces between its spaces, which are 32
abbrev pub words_of : List ℕ → List (List ℕ)
words_of text = slice_split (λ byte. byte == 32) text

-- the words of what follows, where something does
abbrev pub words_after : Option (List ℕ) → List (List ℕ)
words_after None = []
words_after (Some text) = words_of text

-- The counter: a value of 64 bits.

-- the request that these words are: `read`, or `add N`
abbrev pub request_of : List (List ℕ) → Option Request
request_of (word ∷ []) = if bytes_eq word (codes "read") then Some Read else None
request_of (word ∷ number ∷ []) =
    if bytes_eq word (codes "add") then option_map (λ n. Add n) (decimal_number number) else None
request_of _ = None

-- the value after a request, and what the counter says
abbrev pub outcome_of : ℕ → Option Request → ℕ × Output
outcome_of value (Some Read) = (value, Value value)
outcome_of value (Some (Add number)) =
    if nat_lt (value + number) (2 ^ 64) then (value + number, Value (value + number))
    else (value, Full)
outcome_of value None = (value, Bad)

-- the text of what is said
abbrev pub text_of : Output → List ℕ
text_of (Value value) = decimal value
text_of Full = codes "full"
text_of Bad = codes "bad"

-- what a request does to a state
unfoldable pub outcome_of_bytes : List ℕ → List ℕ → ℕ × Output
outcome_of_bytes state request = outcome_of (number_of_eight_bytes state)
    (request_of (words_of request))

-- a state: 8 bytes
unfoldable pub is_state : List ℕ → Bool
is_state state = are_bytes state && (length state == 8)

-- the counter as a module
abbrev pub counter : Meaning
counter = record {
  id = 1;
  first = replicate 8 0;
  next = λ state request. eight_bytes (outcome_of_bytes state request).0;
  says = λ state request. text_of (outcome_of_bytes state request).1;
  is_spelled = is_state;
}

-- a space
abbrev pub is_space : ℕ → Bool
is_space byte = byte == 32

-- Visible bytes.

-- a visible byte of ASCII
abbrev pub is_visible : ℕ → Bool
is_visible byte = nat_le 33 byte && nat_le byte 126

-- Outputs, as contracts see them.

abbrev pub listed_outputs : OutputItems → List (List ℕ)
listed_outputs (One output) = output ∷ []
listed_outputs (Many items) = items.items

-- Values of 32 bytes, as words.

-- a value of 64 hexadecimal digits
unfoldable pub value_at : List ℕ → Option (List ℕ)
value_at word = result_ok (decode_sized word 32)

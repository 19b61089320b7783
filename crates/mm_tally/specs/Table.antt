-- The tally: a count of marks.
use Rattle.std.specs.Prelude.{ℕ, ◌+◌, ◌==◌, ◌&&◌, Bool, min, List, [], ◌∷◌, length, codes, if◌then◌else◌}
use Rattle.std.specs.Fmt.{decimal}
use Rattle.std.specs.Str.{bytes_eq}
use Rattle.mm_module.specs.Batch.{are_bytes}
use Rattle.mm_module.specs.Meaning.{Meaning}

-- the request that counts one more
abbrev pub is_mark : List ℕ → Bool
is_mark request = bytes_eq request (codes "mark")

-- the count after a request
abbrev pub count_after : ℕ → List ℕ → ℕ
count_after count request = if is_mark request then min (count + 1) 255 else count

-- the count of a state
abbrev pub count_in : List ℕ → ℕ
count_in [] = 0
count_in (count ∷ rest) = count

-- a state: one byte
unfoldable pub is_state : List ℕ → Bool
is_state state = are_bytes state && length state == 1

-- the tally as a module
abbrev pub tally : Meaning
tally = record {
  id = 5;
  first = 0 ∷ [];
  next = λ state request. count_after (count_in state) request ∷ [];
  says = λ state request. decimal (count_after (count_in state) request);
  is_spelled = is_state;
}

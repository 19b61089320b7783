-- Limits that several crates name. With it: counts of faults; numbers as fields of fixed length;
-- decimals: `0`, or a digit from 1 to 9 and then digits.
use Rattle.std.specs.Char.{is_ascii_digit}
use Rattle.std.specs.Int.{w32, w64, to_be_bytes}
use Rattle.std.specs.List.{list_all}
use Rattle.std.specs.Prelude.{ℕ, ◌^◌, nat_lt, if◌then◌else◌, ◌≡◌, ◌+◌, ◌-◌, ◌≤◌, min, Result, OnOk, OnErr, List, Bool, false, ◌&&◌, ◌==◌}
use Rattle.std.specs.Prelude.{[], ◌∷◌, length, Option, Some, None}
use Rattle.std.specs.Str.Parse.{digits_value}

-- the most bytes of a line, its LF apart
abbrev pub longest_line : ℕ
longest_line = 8400

-- the most bytes that a request has, or what a module says
abbrev pub longest_request : ℕ
longest_request = 4096

-- the most requests of a batch
abbrev pub most_members : ℕ
most_members = 64

-- the greatest position: the most requests that are counted
abbrev pub last_position : ℕ
last_position = 2 ^ 48

-- the bytes of a cell
abbrev pub cell_length : ℕ
cell_length = 104

-- the most events of a schedule
abbrev pub most_events : ℕ
most_events = 20000

-- the most bytes that a module's state has, by the module's id: a module with an id of 128 or more
-- is wide
abbrev pub limit_of : ℕ → ℕ
limit_of id = if nat_lt id 128 then 65536 else 1048576

-- Counts of faults: a count never falls, and stays at the greatest 64-bit number once it is there.

-- the count after one more
abbrev pub next_count : ℕ → ℕ
next_count count = min (count + 1) (2 ^ 64 - 1)

-- one call failed: the count rose by exactly one, or stays at its greatest value
abbrev pub CountRose : ℕ → ℕ → Type 0
CountRose before now = now ≡ next_count before

-- the count never falls, is as before after Ok, and rose by exactly one where the call failed
pub record CountsFaults {T E : Type 0} (before now : ℕ) (result : Result T E) : Type 0 where
  pub later : before ≤ now
  pub kept : OnOk result (now ≡ before)
  pub failed : OnErr result (CountRose before now)

-- Numbers as fields of fixed length.

-- the number in eight bytes, the highest first
unfoldable pub eight_bytes : ℕ → List ℕ
eight_bytes n = to_be_bytes w64 n

-- the number in four bytes, the highest first
unfoldable pub four_bytes : ℕ → List ℕ
four_bytes n = to_be_bytes w32 n

-- Decimals: `0`, or a digit from 1 to 9 and then digits.

-- `0` alone, or digits that do not begin with `0`
abbrev pub is_decimal : List ℕ → Bool
is_decimal [] = false
is_decimal (d ∷ ds) = if d == 48 then length ds == 0 else list_all is_ascii_digit (d ∷ ds)

-- the number, if it has at most 64 bits
abbrev pub within_64_bits : ℕ → Option ℕ
within_64_bits n = if nat_lt n (2 ^ 64) then Some n else None

-- the number that a decimal of at most 64 bits writes
unfoldable pub decimal_number : List ℕ → Option ℕ
decimal_number ds =
    if is_decimal ds && nat_lt (digits_value 10 ds) (2 ^ 64) then Some (digits_value 10 ds)
    else None

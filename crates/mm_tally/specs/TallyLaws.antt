-- The laws of the tally.
use Rattle.std.specs.Prelude.{◌≡◌, ◌==◌, ◌+◌, ◌<◌, ℕ, Bool, true, false, min, List, [], ◌∷◌, length, if◌then◌else◌}
use Rattle.std.proofs.Common.{refl, arith}
use Rattle.std.proofs.lemmas.Bool.Decides.{nat_tests}
use Rattle.std.specs.Fmt.{decimal}
use Rattle.mm_module.specs.Batch.{is_byte, are_bytes}
use Rattle.mm_module.specs.LineLaws.{and-true, All-are_bytes, is_unbroken-decimal, length-decimal}
use Rattle.mm_module.specs.Meaning.{IsLawful}
use Rattle.mm_module.specs.RunLaws.{IsTable, table_is_lawful}
use Rattle.mm_tally.specs.Table.{count_after, count_in, is_mark, is_state, tally}

-- a state has one byte
length-state : (state : List ℕ) → is_state state ≡ true → length state ≡ 1
unfolding is_state
length-state state is =
    let one = (and-true (are_bytes state) (length state == 1) is).1 in grind (arith, nat_tests)

bytes-state : (state : List ℕ) → is_state state ≡ true → are_bytes state ≡ true
unfolding is_state
bytes-state state is = (and-true (are_bytes state) (length state == 1) is).0

-- its count
count-small : (state : List ℕ) → is_state state ≡ true → count_in state < 256
count-small [] is = omega arith
count-small (count ∷ rest) is =
    All-are_bytes (count ∷ rest) (bytes-state (count ∷ rest) is) 0 0 (omega arith)

after-small : (count : ℕ) (marks : Bool) → count < 256
    → (if marks then min (count + 1) 255 else count) < 256
after-small count true small = omega arith
after-small count false small = small

is_state-one : (count : ℕ) → count < 256 → is_state (count ∷ []) ≡ true
unfolding is_state
is_state-one count small =
    let byte : is_byte count ≡ true = grind (arith, nat_tests) in
    rw byte refl

-- a state is its count, which is said in digits
tally_table : IsTable (record {
  first = 0;
  read = count_in;
  spelling = λ count. count ∷ [];
  does = λ count request. (count_after count request, decimal (count_after count request));
}) tally (λ count. count < 256) 1 20
tally_table = record {
  begins = refl;
  first = omega arith;
  reads = count-small;
  spells = is_state-one;
  back = λ count small. refl;
  next = λ state request. refl;
  says = λ state request. refl;
  stays = λ count request small. after-small count (is_mark request) small;
  tells = λ count request small.
      let next = after-small count (is_mark request) small in record {
        short = length-decimal (count_after count request) (omega (arith, next));
        unbroken = is_unbroken-decimal (count_after count request) (omega (arith, next));
      };
  fits = λ state is. omega (arith, length-state state is);
  bytes = bytes-state;
}

-- the tally is a module
pub tally_is_lawful : IsLawful tally
tally_is_lawful = table_is_lawful tally_table (omega arith) (omega arith)

-- A cell is read exactly where its bytes are spelled. With it: bytes taken apart at fixed places,
-- and tests.
use Rattle.std.proofs.lemmas.Bool.Decides.{nat_tests}
use Rattle.std.proofs.lemmas.Slice.Eq.{bytes_eq-Decides}
use Rattle.std.proofs.Math.Seq.{take-append_seam, drop-append_seam, drop-append-add}
use Rattle.mm_seal.specs.Cell.{cell_spelling, blank_cell}
use Rattle.mm_move.specs.Cells.{waiting_spelling, retired_spelling, is_spelled_by, moved_cell_of}
use Rattle.mm_move.specs.declared.cell.MovedCell.TheVariants as moved
use Rattle.mm_move.specs.declared.cell.RetiredCell.{RetiredCell}
use Rattle.mm_move.proofs.Below.{◌≡◌, ℕ, ◌+◌, ◌-◌, ◌≤◌, Bool, true, false, ◌&&◌, not, List, ◌++◌, length, take, drop, refl, sym, ap, ◌∙◌}
use Rattle.mm_move.proofs.Below.{arith, length-take, length-drop, nat_le, ◌==◌, bytes_eq, append-nil, Variant, Basic, Opt, variant_byte}
use Rattle.mm_move.proofs.Below.{zero_bytes, FitsVariant, fits_variant, part, get_or, Result, Ok, Err, subst, slice_index, if◌then◌else◌}
use Rattle.mm_move.proofs.Below.{cell_length, Cell, CellFault, Blank, Unspelled, IsCell, flag_byte, WaitingCell, MovedCell, variant_in}
use Rattle.mm_move.proofs.Below.{moved_spelling, IsWaiting, IsRetired, IsMoved, SpellsMoved, waiting_cell_in, retired_cell_in, live_cell_in}
use Rattle.mm_move.proofs.Below.{moved_cell_in, is_fit_for_variant, moved_cell_by, CellsAreRead}

-- Bytes taken apart at fixed places, and tests.

pub take_front : (n : ℕ) (xs ys : List ℕ) → length xs ≡ n → take n (xs ++ ys) ≡ xs
take_front n xs ys e = ap (λ (m : ℕ). take m (xs ++ ys)) (sym e) ∙ take-append_seam xs ys

pub take_all : (n : ℕ) (xs : List ℕ) → length xs ≡ n → take n xs ≡ xs
take_all n xs e = ap (take n) (sym (append-nil xs)) ∙ take_front n xs _ e

pub drop_front : (n : ℕ) (xs ys : List ℕ) → length xs ≡ n → drop n (xs ++ ys) ≡ ys
drop_front n xs ys e = ap (λ (m : ℕ). drop m (xs ++ ys)) (sym e) ∙ drop-append_seam xs ys

-- past the front of a list
pub drop_past : (n m : ℕ) (xs ys : List ℕ) → length xs ≡ n → drop (n + m) (xs ++ ys) ≡ drop m ys
drop_past n m xs ys e = ap (λ (k : ℕ). drop (k + m) (xs ++ ys)) (sym e) ∙ drop-append-add xs ys m

-- three fields of 32 bytes, one after another
pub record AreThree (a b c bytes : List ℕ) : Type 0 where
  pub first : take 32 bytes ≡ a
  pub second : take 32 (drop 32 bytes) ≡ b
  pub third : take 32 (drop 64 bytes) ≡ c

pub three : (a b c : List ℕ) → length a ≡ 32 → length b ≡ 32 → length c ≡ 32 → AreThree a b c (a ++ (b ++ c))
three a b c la lb lc = record {
  first = take_front 32 a (b ++ c) la;
  second = ap (take 32) (drop_front 32 a (b ++ c) la) ∙ take_front 32 b c lb;
  third = ap (take 32) (drop_past 32 32 a (b ++ c) la ∙ drop_front 32 b c lb) ∙ take_all 32 c lc;
}

pub length-part : (at : ℕ) (bytes : List ℕ) → at + 32 ≤ length bytes → length (part at bytes) ≡ 32
length-part at bytes h = omega (arith, length-take (at + 32 - at) (drop at bytes), length-drop at bytes)

pub both_true : (a b : Bool) → a ≡ true → b ≡ true → (a && b) ≡ true
both_true a b e f = ap (λ (x : Bool). x && b) e ∙ f

pub and_parts : (a b : Bool) → (a && b) ≡ true → (a ≡ true) × (b ≡ true)
and_parts true b e = (refl, e)
and_parts false b e = cc

pub is_false : (b : Bool) → (b ≡ true → ⊥) → b ≡ false
is_false true h = absurd (h refl)
is_false false h = refl

pub le_is : (a b : ℕ) → a ≤ b → nat_le a b ≡ true
le_is a b h = grind (arith, nat_tests)

pub le_tells : (a b : ℕ) → nat_le a b ≡ true → a ≤ b
le_tells a b e = grind (arith, nat_tests)

pub eq_is : (a b : ℕ) → a ≡ b → (a == b) ≡ true
eq_is a b h = grind (arith, nat_tests)

pub eq_tells : (a b : ℕ) → (a == b) ≡ true → a ≡ b
eq_tells a b e = grind (arith, nat_tests)

pub bytes_tell : (xs ys : List ℕ) → bytes_eq xs ys ≡ true → xs ≡ ys
bytes_tell xs ys = (bytes_eq-Decides xs ys).0

pub bytes_are : (xs ys : List ℕ) → xs ≡ ys → bytes_eq xs ys ≡ true
bytes_are xs ys = (bytes_eq-Decides xs ys).1

-- a cell fits its variant where the test says so
pub fits_tell : (v : Variant) (flag : Bool) (barrier : List ℕ) → fits_variant v flag barrier ≡ true → FitsVariant v flag barrier
fits_tell Basic true barrier e = cc
fits_tell Basic false barrier e = (refl, bytes_tell barrier zero_bytes e)
fits_tell Opt flag barrier e = tt

pub fits_are : (v : Variant) (flag : Bool) (barrier : List ℕ) → FitsVariant v flag barrier → fits_variant v flag barrier ≡ true
fits_are Basic flag barrier (clear, zero_barrier) =
    ap (λ (f : Bool). not f && bytes_eq barrier zero_bytes) clear ∙ bytes_are barrier zero_bytes zero_barrier
fits_are Opt flag barrier h = refl

-- A cell is read exactly where its bytes are spelled.

-- the variant of its own byte
pub variant_back : (v : Variant) → (if variant_byte v == 2 then Opt else Basic) ≡ v
variant_back Basic = refl
variant_back Opt = refl

flag_back : (f : Bool) → (flag_byte f == 1) ≡ f
flag_back true = refl
flag_back false = refl

waiting_back : (cell : WaitingCell) → IsWaiting cell → moved_cell_in (waiting_spelling cell) ≡ moved.Waiting cell
unfolding waiting_spelling
waiting_back cell is =
    let t = three cell.nonce cell.key cell.barrier is.nonce is.key is.barrier in let v = variant_back cell.variant in
    λ i. moved.Waiting (record { variant = v i; «module» = cell.module; nonce = t.first i; key = t.second i; barrier = t.third i })

retired_back : (cell : RetiredCell) → IsRetired cell → moved_cell_in (retired_spelling cell) ≡ moved.Retired cell
unfolding retired_spelling
retired_back cell is =
    let t = three cell.summary.bytes cell.key cell.nonce is.summary is.key is.nonce in
    let v = variant_back cell.variant in
    λ i. moved.Retired (record {
      variant = v i;
      «module» = cell.module;
      summary = record { bytes = t.first i };
      key = t.second i;
      nonce = t.third i;
    })

live_back : (cell : Cell) → IsCell cell → moved_cell_in (cell_spelling cell) ≡ moved.Live cell
unfolding cell_spelling
live_back cell is =
    let t = three cell.summary.bytes cell.key cell.barrier is.summary is.key is.barrier in
    let v = variant_back cell.variant in let f = flag_back cell.flag in
    λ i. moved.Live (record {
      variant = v i;
      «module» = cell.module;
      flag = f i;
      summary = record { bytes = t.first i };
      key = t.second i;
      barrier = t.third i;
    })

back : (cell : MovedCell) → IsMoved cell → moved_cell_in (moved_spelling cell) ≡ cell
back (moved.Live cell) is = live_back cell is
back (moved.Waiting cell) is = waiting_back cell is
back (moved.Retired cell) is = retired_back cell is

begins : (cell : MovedCell) → get_or (moved_spelling cell) 0 0 ≡ 0x4d
unfolding cell_spelling waiting_spelling retired_spelling
begins (moved.Live cell) = refl
begins _ = refl

begins_blank : get_or blank_cell 0 0 ≡ 0
unfolding blank_cell
begins_blank = refl

zero_unlike_letter : (a b : ℕ) → a ≡ 0 → b ≡ 0x4d → a ≡ b → ⊥
zero_unlike_letter a b e f g = omega arith

not_blank : (cell : MovedCell) → bytes_eq (moved_spelling cell) blank_cell ≡ false
not_blank cell =
    is_false (bytes_eq (moved_spelling cell) blank_cell) (λ e. zero_unlike_letter (get_or blank_cell 0 0) (get_or (moved_spelling cell) 0 0)
    begins_blank (begins cell) (ap (λ (x : List ℕ). get_or x 0 0) (sym (bytes_tell (moved_spelling cell) blank_cell e))))

fitting : (cell : MovedCell) → IsMoved cell → is_fit_for_variant cell ≡ true
fitting (moved.Live cell) is = fits_are cell.variant cell.flag cell.barrier is.variant
fitting (moved.Waiting cell) is = fits_are cell.variant false cell.barrier is.variant
fitting (moved.Retired cell) is = refl

-- a spelled cell is read
pub moved_back : (cell : MovedCell) → IsMoved cell → moved_cell_of (moved_spelling cell) ≡ Ok cell
unfolding moved_cell_of
moved_back cell is =
    let bytes : List ℕ = moved_spelling cell in
    let spelled : is_spelled_by bytes cell ≡ true =
    both_true (is_fit_for_variant cell) (bytes_eq bytes bytes) (fitting cell is) (bytes_are bytes bytes refl) in
    ap (λ (b : Bool). if b then Err Blank else moved_cell_by bytes (moved_cell_in bytes)) (not_blank cell)
    ∙ ap (moved_cell_by bytes) (back cell is)
    ∙ ap (λ (b : Bool). if b then Ok cell else Err Unspelled) spelled

-- what a reading that succeeds has found
record IsRead (bytes : List ℕ) (cell : MovedCell) : Type 0 where
  pub spelled : is_spelled_by bytes (moved_cell_in bytes) ≡ true
  pub found : moved_cell_in bytes ≡ cell

read_by : (blank spelled : Bool) (one cell : MovedCell)
    → (if blank then Err Blank else (if spelled then Ok one else Err Unspelled)) ≡ Ok cell → (spelled ≡ true) × (one ≡ cell)
read_by false true one cell e = (refl, cc)
read_by _ _ one cell e = cc

is_read : (bytes : List ℕ) (cell : MovedCell) → moved_cell_of bytes ≡ Ok cell → IsRead bytes cell
unfolding moved_cell_of
is_read bytes cell e =
    let both = read_by (bytes_eq bytes blank_cell) (is_spelled_by bytes (moved_cell_in bytes)) (moved_cell_in bytes) cell e in
    record { spelled = both.0; found = both.1 }

abbrev formed_as : Bool → Bool → List ℕ → MovedCell
formed_as waits left bytes =
    if waits then moved.Waiting (waiting_cell_in bytes) else (if left then moved.Retired (retired_cell_in bytes) else moved.Live
    (live_cell_in bytes))

formed : (waits left : Bool) (bytes : List ℕ) → length bytes ≡ cell_length → is_fit_for_variant (formed_as waits left bytes) ≡ true
    → IsMoved (formed_as waits left bytes)
formed true left bytes size e = record {
  nonce = length-part 8 bytes (omega arith);
  key = length-part 40 bytes (omega arith);
  barrier = length-part 72 bytes (omega arith);
  variant = fits_tell (waiting_cell_in bytes).variant false (waiting_cell_in bytes).barrier e;
}
formed false true bytes size e = record {
  summary = length-part 8 bytes (omega arith);
  key = length-part 40 bytes (omega arith);
  nonce = length-part 72 bytes (omega arith);
}
formed false false bytes size e = record {
  summary = length-part 8 bytes (omega arith);
  key = length-part 40 bytes (omega arith);
  barrier = length-part 72 bytes (omega arith);
  variant = fits_tell (live_cell_in bytes).variant (live_cell_in bytes).flag (live_cell_in bytes).barrier e;
}

-- what is read is spelled
pub moved_spells : (bytes : List ℕ) (cell : MovedCell) → length bytes ≡ cell_length → moved_cell_of bytes ≡ Ok cell → SpellsMoved bytes cell
moved_spells bytes cell size e =
    let r = is_read bytes cell e in
    let parts = and_parts (is_fit_for_variant (moved_cell_in bytes)) (bytes_eq (moved_spelling (moved_cell_in bytes)) bytes) r.spelled in
    let is = formed (slice_index bytes 2 == 0x57) (slice_index bytes 2 == 0x58) bytes size parts.0 in
    subst (λ (c : MovedCell). SpellsMoved bytes c) r.found (is, sym (bytes_tell (moved_spelling (moved_cell_in bytes)) bytes parts.1))

pub cells_are_read : CellsAreRead
cells_are_read bytes cell size = (
  moved_spells bytes cell size,
  λ (spells : SpellsMoved bytes cell). ap moved_cell_of spells.1
      ∙ moved_back cell spells.0,
)

-- how a reading goes on, test by test
pub blank_read : (bytes : List ℕ) → bytes_eq bytes blank_cell ≡ true → Err Blank ≡ moved_cell_of bytes
unfolding moved_cell_of
blank_read bytes e = sym (ap (λ (b : Bool). if b then Err Blank else moved_cell_by bytes (moved_cell_in bytes)) e)

pub cell_read : (bytes : List ℕ) (cell : MovedCell) → bytes_eq bytes blank_cell ≡ false → cell ≡ moved_cell_in bytes
    → is_spelled_by bytes cell ≡ true → Ok cell ≡ moved_cell_of bytes
unfolding moved_cell_of
cell_read bytes cell blank e spelled =
    sym (ap (λ (b : Bool). if b then Err Blank else moved_cell_by bytes (moved_cell_in bytes)) blank ∙ ap (moved_cell_by bytes) (sym e)
    ∙ ap (λ (b : Bool). if b then Ok cell else Err Unspelled) spelled)

pub none_read : (bytes : List ℕ) (cell : MovedCell) → bytes_eq bytes blank_cell ≡ false → cell ≡ moved_cell_in bytes
    → is_spelled_by bytes cell ≡ false → Err Unspelled ≡ moved_cell_of bytes
unfolding moved_cell_of
none_read bytes cell blank e spelled =
    sym (ap (λ (b : Bool). if b then Err Blank else moved_cell_by bytes (moved_cell_in bytes)) blank ∙ ap (moved_cell_by bytes) (sym e)
    ∙ ap (λ (b : Bool). if b then Ok cell else Err Unspelled) spelled)

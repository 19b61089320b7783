-- Two cells and a selector as one list of bytes, and what is put in place of a part.
use Rattle.mm_twocell.proofs.Below.{ℕ, ◌≡◌, ◌+◌, ◌*◌, ◌≤◌, ◌⊎◌, inl, inr, zero, suc, List, [], ◌∷◌, ◌++◌, length, take, drop, get_or, refl}
use Rattle.mm_twocell.proofs.Below.{sym, ap, ◌∙◌, arith, lit<, length-append, append_assoc, length-drop, ◌%◌, slice_index, take-append-drop}
use Rattle.mm_twocell.proofs.Below.{length-take-le, get_or-append-add, drop-drop, cell_length, range_of, bytes_with_part, picked_cell, Bool}
use Rattle.mm_twocell.proofs.Below.{true, false}
use Rattle.std.specs.Prelude.{not}
use Rattle.std.proofs.Math.Seq.{take-append_seam, drop-append_seam, drop-append-add}
use Rattle.std.proofs.lemmas.Bool.{cases_lt}
use Rattle.std.proofs.lemmas.Nat.{mod_below}

take_front : (n : ℕ) (xs ys : List ℕ) → length xs ≡ n → take n (xs ++ ys) ≡ xs
take_front n xs ys e = ap (λ (m : ℕ). take m (xs ++ ys)) (sym e) ∙ take-append_seam xs ys

drop_front : (n : ℕ) (xs ys : List ℕ) → length xs ≡ n → drop n (xs ++ ys) ≡ ys
drop_front n xs ys e = ap (λ (m : ℕ). drop m (xs ++ ys)) (sym e) ∙ drop-append_seam xs ys

drop_past : (n m : ℕ) (xs ys : List ℕ) → length xs ≡ n → drop (n + m) (xs ++ ys) ≡ drop m ys
drop_past n m xs ys e = ap (λ (k : ℕ). drop (k + m) (xs ++ ys)) (sym e) ∙ drop-append-add xs ys m

at_past : (n m : ℕ) (xs ys : List ℕ) → length xs ≡ n → get_or (xs ++ ys) (n + m) 0 ≡ get_or ys m 0
at_past n m xs ys e = ap (λ (k : ℕ). get_or (xs ++ ys) (k + m) 0) (sym e) ∙ get_or-append-add xs ys m 0

-- one byte
pub one_item : (xs : List ℕ) → length xs ≡ 1 → xs ≡ get_or xs 0 0 ∷ []
one_item [] h = absurd (omega arith)
one_item (x ∷ []) h = refl
one_item (x ∷ y ∷ xs) h = absurd (omega arith)

-- two cells and a selector; and the same by whether the second cell is the picked one, which comes first here
abbrev pub three : List ℕ → List ℕ → ℕ → List ℕ
three first second selector = first ++ (second ++ selector ∷ [])

abbrev pub pair : Bool → List ℕ → List ℕ → ℕ → List ℕ
pair true own other selector = three other own selector
pair false own other selector = three own other selector

-- the number of the picked cell, and that of the other one
abbrev pub number : Bool → ℕ
number true = 1
number false = 0

pub record InThree (size : ℕ) (bytes : List ℕ) : Type 0 where
  pub first : List ℕ
  pub second : List ℕ
  pub selector : ℕ
  pub whole : bytes ≡ three first second selector
  pub first_size : length first ≡ size
  pub second_size : length second ≡ size

pub in_three : (size : ℕ) (bytes : List ℕ) → length bytes ≡ size + (size + 1) → InThree size bytes
in_three size bytes l =
    let after : List ℕ = drop size bytes in
    let end : List ℕ = drop size after in
    let la : length after ≡ size + 1 = omega (arith, length-drop size bytes, l) in
    let le : length end ≡ 1 = omega (arith, length-drop size after, la) in
    record {
      first = take size bytes;
      second = take size after;
      selector = get_or end 0 0;
      whole = sym (take-append-drop size bytes)
          ∙ ap (λ (r : List ℕ). take size bytes ++ r) (sym (take-append-drop size after)
          ∙ ap (λ (r : List ℕ). take size after ++ r) (one_item end le));
      first_size = length-take-le size bytes (omega (arith, l));
      second_size = length-take-le size after (omega (arith, la));
    }

pub selector_of : (a b : List ℕ) (n : ℕ) → length a ≡ cell_length → length b ≡ cell_length → slice_index (three a b n) 208 ≡ n
selector_of a b n la lb =
    at_past cell_length cell_length a (b ++ n ∷ []) la ∙ at_past cell_length 0 b (n ∷ []) lb

picks : (a b : List ℕ) (n k : ℕ) → length a ≡ cell_length → length b ≡ cell_length → n % 2 ≡ k
    → picked_cell (three a b n) ≡ take cell_length (drop (cell_length * k) (three a b n))
picks a b n k la lb e =
    ap (λ (m : ℕ). take cell_length (drop (cell_length * (m % 2)) (three a b n))) (selector_of a b n la lb)
    ∙ ap (λ (m : ℕ). take cell_length (drop (cell_length * m) (three a b n))) e

pub picks_own : (second : Bool) (x y : List ℕ) (n : ℕ) → length x ≡ cell_length → length y ≡ cell_length → n % 2 ≡ number second
    → picked_cell (pair second x y n) ≡ x
picks_own false x y n lx ly e = picks x y n 0 lx ly e ∙ take_front cell_length x (y ++ n ∷ []) lx
picks_own true x y n lx ly e =
    picks y x n 1 ly lx e ∙ ap (take cell_length) (drop_front cell_length y (x ++ n ∷ []) ly) ∙ take_front cell_length x (n ∷ []) lx

pub picks_other : (second : Bool) (x y : List ℕ) (n : ℕ) → length x ≡ cell_length → length y ≡ cell_length → n % 2 ≡ number (not second)
    → picked_cell (pair second x y n) ≡ y
picks_other false x y n lx ly e = picks_own true y x n ly lx e
picks_other true x y n lx ly e = picks_own false y x n ly lx e

pub parity : (n : ℕ) → (n % 2 ≡ 0) ⊎ (n % 2 ≡ 1)
parity n = elim (cases_lt (n % 2) 1) [
  | inl below ↦ inl (omega arith)
  | inr past ↦ inr (omega (arith, mod_below n 2 (lit< tt)))
]

-- a part in place of one as long
put_in_place : (at : ℕ) (front part range rest : List ℕ) → length front ≡ at → length range ≡ length part
    → bytes_with_part at part (front ++ (range ++ rest)) ≡ front ++ (part ++ rest)
put_in_place at front part range rest l m =
    let all : List ℕ = front ++ (range ++ rest) in
    ap (λ (f : List ℕ). (f ++ part) ++ drop (at + length part) all) (take_front at front (range ++ rest) l)
    ∙ ap (λ (r : List ℕ). (front ++ part) ++ r) (drop_past at (length part) front (range ++ rest) l ∙ drop_front (length part) range rest m)
    ∙ append_assoc front part rest

pub put_other : (second : Bool) (x y w : List ℕ) (n : ℕ) → length x ≡ cell_length → length y ≡ cell_length → length w ≡ cell_length
    → bytes_with_part (cell_length * number (not second)) w (pair second x y n) ≡ pair second x w n
put_other true x y w n lx ly lw = put_in_place 0 [] w y (x ++ n ∷ []) refl (ly ∙ sym lw)
put_other false x y w n lx ly lw = put_in_place cell_length x w y (n ∷ []) lx (ly ∙ sym lw)

put_at_end : (a b : List ℕ) (m n : ℕ) → length a ≡ cell_length → length b ≡ cell_length
    → bytes_with_part 208 (m ∷ []) (three a b n) ≡ three a b m
put_at_end a b m n la lb =
    ap (bytes_with_part 208 (m ∷ [])) (sym (append_assoc a b (n ∷ [])))
    ∙ put_in_place 208 (a ++ b) (m ∷ []) (n ∷ []) [] (length-append a b ∙ omega (arith, la, lb)) refl
    ∙ append_assoc a b (m ∷ [])

pub put_selector : (second : Bool) (x y : List ℕ) (m n : ℕ) → length x ≡ cell_length → length y ≡ cell_length
    → bytes_with_part 208 (m ∷ []) (pair second x y n) ≡ pair second x y m
put_selector true x y m n lx ly = put_at_end y x m n ly lx
put_selector false x y m n lx ly = put_at_end x y m n lx ly

-- what is put in front of a range, with the old bytes of the range behind it
pub kept_behind : (k n : ℕ) (xs : List ℕ) → k ≤ n → drop k (take n xs) ++ drop n xs ≡ drop k xs
kept_behind zero n xs h = take-append-drop n xs
kept_behind (suc k) zero xs h = absurd (omega arith)
kept_behind (suc k) (suc n) [] h = refl
kept_behind (suc k) (suc n) (x ∷ xs) h = kept_behind k n xs (omega arith)

abbrev pub behind : List ℕ → List ℕ → List ℕ
behind part range = part ++ drop (length part) range

pub length-behind : (part range : List ℕ) → length part ≤ length range → length (behind part range) ≡ length range
length-behind part range h = length-append part (drop (length part) range) ∙ omega (arith, length-drop (length part) range, h)

pub put_behind : (at n : ℕ) (part bytes : List ℕ) → length part ≤ n → at + n ≤ length bytes
    → bytes_with_part at part bytes ≡ bytes_with_part at (behind part (range_of at n bytes)) bytes
put_behind at n part bytes h within =
    let xs : List ℕ = drop at bytes in
    let lx : n ≤ length xs = omega (arith, length-drop at bytes, within) in
    let lr : length (take n xs) ≡ n = length-take-le n xs lx in
    let lp : length part ≤ length (take n xs) = omega (arith, lr, h) in
    let lb : length (behind part (take n xs)) ≡ n = length-behind part (take n xs) lp ∙ lr in
    let left : drop (at + length part) bytes ≡ drop (length part) xs = sym (drop-drop (length part) at bytes) in
    let right : drop (at + length (behind part (take n xs))) bytes ≡ drop n xs =
    ap (λ (k : ℕ). drop (at + k) bytes) lb ∙ sym (drop-drop n at bytes) in
    let front : List ℕ = take at bytes in
    let old : List ℕ = drop (length part) (take n xs) in
    let rest : List ℕ = drop (at + length (behind part (take n xs))) bytes in
    ap (λ (r : List ℕ). (front ++ part) ++ r) (left ∙ sym (kept_behind (length part) n xs h) ∙ ap (λ (r : List ℕ). old ++ r) (sym right))
    ∙ append_assoc front part (old ++ rest)
    ∙ ap (λ (r : List ℕ). front ++ r) (sym (append_assoc part old rest))
    ∙ sym (append_assoc front (part ++ old) rest)

-- what is put in place of a part leaves the number of bytes
pub length-spliced : (at : ℕ) (part bytes : List ℕ) → at + length part ≤ length bytes → length (bytes_with_part at part bytes)
    ≡ length bytes
length-spliced at part bytes h =
    length-append (take at bytes ++ part) (drop (at + length part) bytes)
    ∙ omega (arith, length-append (take at bytes) part, length-take-le at bytes (omega (arith, h)), length-drop (at + length part) bytes, h)

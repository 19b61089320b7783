-- Reading meddles one after another. With it: which words spell bytes, and which bytes; the lines
-- of a batch.
use Rattle.std.proofs.lemmas.List.{append-nil}
use Rattle.std.proofs.lemmas.List.Sums.{list_all-from_AllPass, AllPass-from_list_all}
use Rattle.mm_schedule.specs.Events.{meddles_at}
use Rattle.mm_schedule.specs.Headers.{bytes_at}
use Rattle.mm_schedule.proofs.Below.{◌≡◌, ℕ, suc, List, [], ◌∷◌, ◌++◌, refl, append_assoc, Option, Some, None, codes, Meddle, meddle_at}
use Rattle.mm_schedule.proofs.Below.{meddles_behind, ◌>>=◌, rest_after_prefix, ◌≢◌, ◌%◌, ◌*◌, Bool, true, false, length, sym, ◌∙◌, arith}
use Rattle.mm_schedule.proofs.Below.{cond, nat_tests, list_all, Result, Ok, Err, is_some, unwrap_or, ◌==◌, result_ok, bytes_eq}
use Rattle.mm_schedule.proofs.Below.{FromHexError, decode_of, is_hex_digit, decode_of-ok, decode_of-digits, ◌+◌, ◌<◌, zero, ap, option_map}
use Rattle.mm_schedule.proofs.Below.{slice_get, told_lines, told_line}

pub behind_none : (front : List Meddle) (line : List ℕ) → Some (front, line) ≡ meddles_behind front (Some ([], line))
behind_none front line = rw (append-nil front) refl

behind_one : (front : List Meddle) (first : Meddle) (read : Option (List Meddle × List ℕ))
    → meddles_behind (front ++ first ∷ []) read ≡ meddles_behind front
    (read >>= λ (others : List Meddle × List ℕ). Some (first ∷ others.0, others.1))
behind_one front first None = refl
behind_one front first (Some later) = rw (append_assoc front (first ∷ []) later.0) refl

-- no room is left
pub full : (front : List Meddle) (room least : ℕ) (line : List ℕ) → room ≡ 0
    → Some (front, line) ≡ meddles_behind front (meddles_at room least line)
unfolding meddles_at
full front room least line none = rw none (behind_none front line)

-- no further meddle stands there
pub over : (front : List Meddle) (room rest least : ℕ) (line : List ℕ) → room ≡ suc rest → rest_after_prefix (codes "meddle ") line ≡ None
    → Some (front, line) ≡ meddles_behind front (meddles_at room least line)
unfolding meddles_at
over front room rest least line some none = rw (some, none) (behind_none front line)

-- what stands there is no meddle
pub bad : (front : List Meddle) (room rest least : ℕ) (line words : List ℕ) → room ≡ suc rest → rest_after_prefix (codes "meddle ") line
    ≡ Some
    words → meddle_at least words ≡ None → None ≡ meddles_behind front (meddles_at room least line)
unfolding meddles_at
bad front room rest least line words some found none = rw (some, found, none) refl

-- one more meddle
pub more : (front : List Meddle) (room rest least : ℕ) (line words later : List ℕ) (first : Meddle) → room ≡ suc rest
    → rest_after_prefix (codes "meddle ") line ≡ Some words → meddle_at least words ≡ Some (first, later)
    → meddles_behind (front ++ first ∷ []) (meddles_at rest first.step later) ≡ meddles_behind front (meddles_at room least line)
unfolding meddles_at
more front room rest least line words later first some found read =
    rw (some, found, read) (behind_one front first (meddles_at rest first.step later))

-- Which words spell bytes, and which bytes.

digits_by : (word : List ℕ) → length word % 2 ≡ 0 → (all : Bool) → list_all is_hex_digit word ≡ all
    → (r : Result (List ℕ) FromHexError) → decode_of word ≡ r → all ≡ is_some (result_ok r)
digits_by word even true all (Err e) is =
    let decoded = decode_of-digits word even (AllPass-from_list_all is_hex_digit word all) in
    let clash : Ok decoded.0 ≡ Err e = sym decoded.1 ∙ is in cc
digits_by word even false all (Ok bytes) is =
    let passes : list_all is_hex_digit word ≡ true = list_all-from_AllPass is_hex_digit word (decode_of-ok word bytes is).1 in
    let clash : true ≡ false = sym passes ∙ all in cc
digits_by word even _ all _ is = refl

-- an even number of digits, and no other text but `-`
pub digits_spell : (word : List ℕ) → bytes_eq word (codes "-") ≡ false → (length word == 0) ≡ false → length word % 2 ≢ 1
    → list_all is_hex_digit word ≡ is_some (bytes_at word)
unfolding bytes_at
digits_spell word dash some odd = rw (dash, some) (digits_by word (omega arith) (list_all is_hex_digit word) refl (decode_of word) refl)

none_of : (bytes : List ℕ) → length bytes ≡ 0 → [] ≡ bytes
none_of [] none = refl
none_of (b ∷ bytes) none = absurd (omega arith)

bytes_by : (word bytes : List ℕ) → decode_of word ≡ Ok bytes → (none : Bool) → (length word == 0) ≡ none
    → unwrap_or (cond none None (result_ok (decode_of word))) [] ≡ bytes
bytes_by word bytes is true none =
    let size : length word ≡ 2 * length bytes = (decode_of-ok word bytes is).2 in
    let empty : length word ≡ 0 = grind (arith, nat_tests) in
    none_of bytes (omega arith)
bytes_by word bytes is false none = rw is refl

-- the bytes that digits spell
pub digits_give : (word bytes : List ℕ) → bytes_eq word (codes "-") ≡ false → decode_of word ≡ Ok bytes
    → unwrap_or (bytes_at word) [] ≡ bytes
unfolding bytes_at
digits_give word bytes dash is = rw dash (bytes_by word bytes is (length word == 0) refl)

-- The lines of a batch.

-- a line for each output
pub length-told_lines : (again : Bool) (before : ℕ) (outputs : List (List ℕ)) → length (told_lines again before outputs) ≡ length outputs
length-told_lines again before [] = refl
length-told_lines again before (output ∷ outputs) = ap (λ (n : ℕ). suc n) (length-told_lines again (before + 1) outputs)

-- and which
pub told_lines-at : (again : Bool) (before : ℕ) (outputs : List (List ℕ)) (index : ℕ)
    → slice_get (told_lines again before outputs) index ≡ option_map (told_line again (before + index + 1)) (slice_get outputs index)
told_lines-at again before [] index = refl
told_lines-at again before (output ∷ outputs) zero =
    let counts : before + 1 ≡ before + 0 + 1 = omega arith in ap (λ (n : ℕ). Some (told_line again n output)) counts
told_lines-at again before (output ∷ outputs) (suc index) =
    let counts : before + 1 + index + 1 ≡ before + suc index + 1 = omega arith in
    told_lines-at again (before + 1) outputs index ∙ ap (λ (n : ℕ). option_map (told_line again n) (slice_get outputs index)) counts

-- an index within the list has an element
pub not_missing : {A : Type 0} (xs : List A) (index : ℕ) → index < length xs → slice_get xs index ≡ None → ⊥
not_missing [] index within none = absurd (omega arith)
not_missing (x ∷ xs) zero within none = cc
not_missing (x ∷ xs) (suc index) within none = not_missing xs index (omega arith) none

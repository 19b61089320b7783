-- Laws of bytes and lines, for the laws of modules. Both tests hold where their conjunction does,
-- and the other way round, and a test that each element passes holds at each place. With it: laws
-- of values of 32 bytes and of hexadecimal digits, for the laws of modules; laws of the parts of
-- byte lists, for the laws of modules.
use Rattle.std.specs.Char.{is_ascii_digit}
use Rattle.std.specs.Fmt.{decimal}
use Rattle.std.specs.List.{list_all}
use Rattle.std.specs.Prelude.{◌≡◌, ◌≢◌, ◌==◌, ℕ, ◌%◌, ◌^◌, ◌<◌, ◌≤◌, List, [], ◌∷◌, length, Bool, true, not, All, zero, suc, Option, Some}
use Rattle.std.specs.Prelude.{None, Result, Ok, Err, slice_index, ◌++◌, take, drop}
use Rattle.std.specs.Result.{result_ok}
use Rattle.std.specs.Str.{all_ascii_digits}
use Rattle.std.proofs.Common.{refl, arith, lit<, get_or, Fits, w8, sym, ◌∙◌, ap}
pub use Rattle.std.proofs.lemmas.Bool.{and_parts as and-true, and_from as and-both}
use Rattle.std.proofs.lemmas.Bool.Decides.{nat_tests}
use Rattle.std.proofs.lemmas.Fmt.{digits_decimal, length-decimal-le}
use Rattle.std.proofs.lemmas.Grind.{get_or_default_zero}
use Rattle.std.proofs.lemmas.List.{take-append-drop}
use Rattle.std.proofs.lemmas.List.Folds.{list_all-append}
pub use Rattle.std.proofs.lemmas.List.Sums.{AllPass-from_list_all as list_all-get_or}
use Rattle.std.proofs.lemmas.List.Sums.{list_all-from_AllPass}
use Rattle.std.proofs.lemmas.Nat.{be_bytes_8, from_be_bytes-to_be_bytes_8}
use Rattle.std.proofs.lemmas.Str.Parse.{numerals_by_value, tells_all_ascii_digits}
use Rattle.std.proofs.Math.Seq.{take-append_seam, drop-append_seam}
use Rattle.hex.specs.declared.error.FromHexError.{FromHexError}
use Rattle.hex.specs.Hex.{decode_sized, decode_of, encode_with, encode_lower, lower_digits, IsBytes}
use Rattle.hex.proofs.HexLemmas.{decode_sized-ok, decode_sized-twice, decode_of-ok}
use Rattle.mm_bytes.specs.Limits.{longest_request, eight_bytes}
use Rattle.mm_module.specs.Batch.{is_byte, are_bytes, number_of_eight_bytes}
use Rattle.mm_module.specs.Meaning.{IsLine, value_at, is_visible}

-- no LF, as a test
abbrev pub is_unbroken : List ℕ → Bool
is_unbroken text = list_all (λ byte. not (byte == 10)) text

pub All-are_bytes : (bytes : List ℕ) → are_bytes bytes ≡ true → All (λ byte. byte < 256) bytes
All-are_bytes bytes is =
    λ k d inside. let passed = list_all-get_or is_byte bytes is k d inside
    in grind (arith, nat_tests)

pub All-is_unbroken : (text : List ℕ) → is_unbroken text ≡ true → All (λ byte. byte ≢ 10) text
All-is_unbroken text is =
    λ k d inside. let passed = list_all-get_or (λ byte. not (byte == 10)) text is k d inside in
    λ e. let broken : not (10 == 10) ≡ true = rw e at passed in cc

byte-Fits : (x : ℕ) → Fits w8 x → is_byte x ≡ true
byte-Fits x fits = let small : x < 256 = omega (arith, fits) in grind (arith, nat_tests)

-- the bytes of a slice are bytes
pub are_bytes-Fits : (bytes : List ℕ) → ((i : ℕ) → Fits w8 (get_or bytes i 0)) → are_bytes bytes ≡ true
are_bytes-Fits bytes fits =
    list_all-from_AllPass is_byte bytes (λ k d inside. rw (get_or_default_zero bytes k d inside) (byte-Fits _ (fits k)))

-- a remainder of 256 is a byte
pub is_byte-rem : (x : ℕ) → is_byte (x % 256) ≡ true
is_byte-rem x = let small : x % 256 < 256 = omega arith in grind (arith, nat_tests)

-- what each digit passes, a decimal passes
digits-pass : (p : ℕ → Bool) → ((d : ℕ) → is_ascii_digit d ≡ true → p d ≡ true)
    → (digits : List ℕ) → all_ascii_digits digits ≡ true → list_all p digits ≡ true
digits-pass p each [] is = refl
digits-pass p each (d ∷ ds) is = let w = and-true (is_ascii_digit d) (all_ascii_digits ds) is in
    and-both (p d) (list_all p ds) (each d w.0) (digits-pass p each ds w.1)

pub passes-decimal : (p : ℕ → Bool) → ((d : ℕ) → is_ascii_digit d ≡ true → p d ≡ true)
    → (n : ℕ) → n < 2 ^ 64 → list_all p (decimal n) ≡ true
passes-decimal p each n small =
    digits-pass p each (decimal n)
    (digits_decimal (numerals_by_value (λ ds. all_ascii_digits ds ≡ true)
    tells_all_ascii_digits) n small)

-- a decimal has no LF
pub is_unbroken-decimal : (n : ℕ) → n < 2 ^ 64 → is_unbroken (decimal n) ≡ true
is_unbroken-decimal n small = passes-decimal (λ byte. not (byte == 10)) (λ d is. grind (arith, nat_tests)) n small

-- a decimal of 64 bits has at most 20 digits
pub length-decimal : (n : ℕ) → n < 2 ^ 64 → length (decimal n) ≤ 20
length-decimal n small = length-decimal-le 20 n (lit< tt) (omega arith) small

-- a text of at most so many bytes, with no LF
pub record IsText (most : ℕ) (text : List ℕ) : Type 0 where
  pub short : length text ≤ most
  pub unbroken : is_unbroken text ≡ true

-- such a text is a line
pub IsLine-text : (most : ℕ) (text : List ℕ) → most ≤ longest_request → IsText most text → IsLine text
IsLine-text most text few is = record { short = omega (arith, is.short, few); unbroken = All-is_unbroken text is.unbroken }

-- a text with no LF, from each byte
pub is_unbroken-All : (text : List ℕ) → All (λ byte. byte ≢ 10) text → is_unbroken text ≡ true
is_unbroken-All text all =
    list_all-from_AllPass (λ byte. not (byte == 10)) text (λ k d inside. let other = all k d inside in grind (arith, nat_tests))

-- Laws of values of 32 bytes and of hexadecimal digits, for the laws of modules.

-- a value: 32 bytes
pub record IsValue (value : List ℕ) : Type 0 where
  pub long : length value ≡ 32
  pub bytes : are_bytes value ≡ true

-- where there is one, it is a value
abbrev pub MayBeValue : Option (List ℕ) → Type 0
MayBeValue None = Unit {0}
MayBeValue (Some value) = IsValue value

are_bytes-IsBytes : (bytes : List ℕ) → IsBytes bytes → are_bytes bytes ≡ true
are_bytes-IsBytes bytes below =
    list_all-from_AllPass is_byte bytes (λ k d inside. rw (get_or_default_zero bytes k d inside)
    (let small : get_or bytes k 0 < 256 = below k in grind (arith, nat_tests)))

decoded-value : (word : List ℕ) (decoded : Result (List ℕ) FromHexError) → decode_sized word 32 ≡ decoded → MayBeValue (result_ok decoded)
decoded-value word (Ok bytes) is =
    let double = decode_sized-ok word 32 bytes is in
    let whole : decode_of word ≡ Ok bytes = sym (decode_sized-twice word 32 double) ∙ is in
    let read = decode_of-ok word bytes whole in
    record { long = omega (arith, read.2, double); bytes = are_bytes-IsBytes bytes read.3 }
decoded-value word (Err fault) is = tt

-- a word of 64 digits stands for a value
pub value_at-value : (word : List ℕ) → MayBeValue (value_at word)
unfolding value_at
value_at-value word = decoded-value word (decode_sized word 32) refl

-- what each of these numbers passes, and 0, passes each of them and any past the end
passes_at : (p : ℕ → Bool) (xs : List ℕ) → list_all p xs ≡ true → p 0 ≡ true → (i : ℕ) → p (slice_index xs i) ≡ true
passes_at p [] all none i = none
passes_at p (x ∷ xs) all none zero = (and-true (p x) (list_all p xs) all).0
passes_at p (x ∷ xs) all none (suc i) = passes_at p xs (and-true (p x) (list_all p xs) all).1 none i

-- what hexadecimal digits pass, a text of them passes
pub passes-encoded : (p : ℕ → Bool) → list_all p lower_digits ≡ true → p 0 ≡ true → (bytes : List ℕ)
    → list_all p (encode_lower bytes) ≡ true
unfolding encode_with
passes-encoded p all none [] = refl
passes-encoded p all none (b ∷ rest) =
    and-both _ _ (passes_at p lower_digits all none _)
    (and-both _ _ (passes_at p lower_digits all none _) (passes-encoded p all none rest))

-- such a text has no LF
pub is_unbroken-encoded : (bytes : List ℕ) → is_unbroken (encode_lower bytes) ≡ true
is_unbroken-encoded bytes = passes-encoded (λ byte. not (byte == 10)) refl refl bytes

-- Laws of the parts of byte lists, for the laws of modules.

-- the front of a list, and what follows
pub take-front : (n : ℕ) (front back : List ℕ) → length front ≡ n → take n (front ++ back) ≡ front
take-front n front back is = rw (← is) (take-append_seam front back)

pub drop-front : (n : ℕ) (front back : List ℕ) → length front ≡ n → drop n (front ++ back) ≡ back
drop-front n front back is = rw (← is) (drop-append_seam front back)

-- the bytes of each part are bytes
are_bytes-parts : (n : ℕ) (bytes : List ℕ) → are_bytes bytes ≡ true → (are_bytes (take n bytes) ≡ true) × (are_bytes (drop n bytes) ≡ true)
are_bytes-parts n bytes is =
    and-true _ _ (sym (list_all-append is_byte (take n bytes) (drop n bytes)) ∙ ap are_bytes (take-append-drop n bytes) ∙ is)

pub are_bytes-take : (n : ℕ) (bytes : List ℕ) → are_bytes bytes ≡ true → are_bytes (take n bytes) ≡ true
are_bytes-take n bytes is = (are_bytes-parts n bytes is).0

pub are_bytes-drop : (n : ℕ) (bytes : List ℕ) → are_bytes bytes ≡ true → are_bytes (drop n bytes) ≡ true
are_bytes-drop n bytes is = (are_bytes-parts n bytes is).1

-- and those of parts that are put together
pub are_bytes-append : (xs ys : List ℕ) → are_bytes xs ≡ true → are_bytes ys ≡ true → are_bytes (xs ++ ys) ≡ true
are_bytes-append xs ys is_xs is_ys = list_all-append is_byte xs ys ∙ and-both _ _ is_xs is_ys

-- numbers below 256 are bytes, and a byte list has them at each place
pub are_bytes-All : (bytes : List ℕ) → All (λ byte. byte < 256) bytes → are_bytes bytes ≡ true
are_bytes-All bytes all = list_all-from_AllPass is_byte bytes (λ k d inside. let small = all k d inside in grind (arith, nat_tests))

pub get_or-small : (bytes : List ℕ) → are_bytes bytes ≡ true → (i : ℕ) → get_or bytes i 0 < 256
get_or-small [] is i = omega arith
get_or-small (x ∷ xs) is zero =
    let w = and-true (is_byte x) (are_bytes xs) is in grind (arith, nat_tests)
get_or-small (x ∷ xs) is (suc i) = get_or-small xs (and-true (is_byte x) (are_bytes xs) is).1 i

-- visible bytes are bytes
pub are_bytes-visible : (bytes : List ℕ) → list_all is_visible bytes ≡ true → are_bytes bytes ≡ true
are_bytes-visible bytes is =
    list_all-from_AllPass is_byte bytes (λ k d inside.
    let seen = list_all-get_or is_visible bytes is k d inside in grind (arith, nat_tests))

-- eight bytes and their number
pub length-eight : (n : ℕ) → length (eight_bytes n) ≡ 8
unfolding eight_bytes
length-eight n = refl

pub are_bytes-eight : (n : ℕ) → are_bytes (eight_bytes n) ≡ true
unfolding eight_bytes
are_bytes-eight n = simp is_byte-rem

pub number_of_eight_bytes-eight : (n : ℕ) → n < 2 ^ 64 → number_of_eight_bytes (eight_bytes n) ≡ n
unfolding number_of_eight_bytes eight_bytes
number_of_eight_bytes-eight n small = from_be_bytes-to_be_bytes_8 n small

pub eight-number_of_eight_bytes : (bytes : List ℕ) → length bytes ≡ 8 → are_bytes bytes ≡ true → eight_bytes (number_of_eight_bytes bytes)
    ≡ bytes
unfolding number_of_eight_bytes eight_bytes
eight-number_of_eight_bytes bytes eight is = be_bytes_8 bytes _ eight (get_or-small bytes is) refl

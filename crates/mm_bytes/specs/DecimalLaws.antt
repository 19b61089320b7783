-- A decimal is what std's `decimal` spells, and no other text. With it: laws of fields of fixed
-- length.
use Rattle.std.specs.Char.{digit_value, is_ascii_digit}
use Rattle.std.specs.Fmt.{decimal}
use Rattle.std.specs.Int.{w32, w64, from_be_bytes}
use Rattle.std.specs.List.{list_all}
use Rattle.std.specs.Prelude.{◌+◌, ◌-◌, ◌*◌, ◌≤◌, Some, None, IsTrue}
use Rattle.std.specs.Str.Parse.{digits_value, digits_value_after}
use Rattle.std.proofs.Common.{subst, ◌≡◌, ◌≢◌, ◌<◌, ◌^◌, ℕ, Bool, true, false, List, [], ◌∷◌, length, get_or, refl, sym, ap, ◌∙◌, arith}
use Rattle.std.proofs.Common.{rules, ◌⊎◌, inl, inr, cond, ◌&&◌, nat_lt, lit<, zero, suc, ◌++◌, take, drop}
use Rattle.std.proofs.lemmas.Bool.{cases_lt}
use Rattle.std.proofs.lemmas.Bool.Decides.{nat_tests}
use Rattle.std.proofs.lemmas.Fmt.{decimal-digits_value, digits_decimal, digits_value-decimal, first_decimal, decimal_digit}
use Rattle.std.proofs.lemmas.Fmt.{decimal_nonempty}
use Rattle.std.proofs.lemmas.Grind.{common_steps}
use Rattle.std.proofs.lemmas.List.{take-append-drop, get_or-take, get_or_past}
use Rattle.std.proofs.lemmas.Nat.{be_bytes_4, be_bytes_8, from_be_bytes-to_be_bytes_4, from_be_bytes-to_be_bytes_8}
use Rattle.std.proofs.lemmas.Str.Parse.{IsNumeralModel, numerals_by_value}
use Rattle.mm_bytes.specs.Limits.{is_decimal, decimal_number, within_64_bits, eight_bytes, four_bytes}

-- a text of digits, and its value
abbrev AreDigits : List ℕ → Type 0
AreDigits ds = list_all is_ascii_digit ds ≡ true

digits : IsNumeralModel AreDigits (digits_value 10)
digits = numerals_by_value AreDigits (search rules)

-- the two forms of a decimal
decimal_forms : (d : ℕ) (ds : List ℕ) → is_decimal (d ∷ ds) ≡ true → ((d ≡ 48) × (ds ≡ [])) ⊎ ((d ≢ 48) × AreDigits (d ∷ ds))
decimal_forms d ds is = grind (arith, common_steps, nat_tests)

pub digits_of_decimal : (ds : List ℕ) → is_decimal ds ≡ true → AreDigits ds
digits_of_decimal [] is = refl
digits_of_decimal (d ∷ ds) is = elim (decimal_forms d ds is) [ inl w ↦ rw (w.0, w.1) refl | inr w ↦ w.1 ]

pub alone_of_decimal : (ds : List ℕ) → is_decimal ds ≡ true → get_or ds 0 0 ≡ 48 → length ds ≡ 1
alone_of_decimal [] is leads = cc
alone_of_decimal (d ∷ ds) is leads = elim (decimal_forms d ds is) [ inl w ↦ rw w.1 refl | inr w ↦ absurd (w.0 leads) ]

pub some_of_decimal : (ds : List ℕ) → is_decimal ds ≡ true → 0 < length ds
some_of_decimal [] is = cc
some_of_decimal (d ∷ ds) is = omega arith

pub decimal_from_digits : (ds : List ℕ) → AreDigits ds → 0 < length ds → (get_or ds 0 0 ≡ 48 → length ds ≡ 1) → is_decimal ds ≡ true
decimal_from_digits [] are some alone = absurd (omega arith)
decimal_from_digits (d ∷ ds) are some alone = grind (arith, common_steps, nat_tests)

-- a number that is given where a test holds
given_where : (test : Bool) (value number : ℕ) → cond test (Some value) None ≡ Some number → (test ≡ true) × (value ≡ number)
given_where true value number is = (refl, cc)
given_where false value number is = cc

-- what is read is spelled
pub spelled_by_reading : (ds : List ℕ) (number : ℕ) → decimal_number ds ≡ Some number → ds ≡ decimal number
unfolding decimal_number
spelled_by_reading ds number is =
    let given : (is_decimal ds && nat_lt (digits_value 10 ds) (2 ^ 64) ≡ true) × (digits_value 10 ds ≡ number) = given_where _ _ number is
    in
    let form : is_decimal ds ≡ true = grind (arith, common_steps, nat_tests, given.0) in
    let small : digits_value 10 ds < 2 ^ 64 = grind (arith, common_steps, nat_tests, given.0) in
    sym (decimal-digits_value digits ds (digits_of_decimal ds form) (some_of_decimal ds form) (alone_of_decimal ds form) small)
    ∙ ap decimal given.1

alone_of_spelling : (number : ℕ) (ds : List ℕ) → number < 2 ^ 64 → ds ≡ decimal number → get_or ds 0 0 ≡ 48 → length ds ≡ 1
alone_of_spelling zero ds small is leads = rw (is, decimal_digit 0 (lit< tt)) refl
alone_of_spelling (suc number) ds small is leads =
    let more : 48 < get_or ds 0 0 = rw is (first_decimal (suc number) (omega arith) small) in absurd (omega arith)

-- what is spelled is read
pub read_by_spelling : (ds : List ℕ) (number : ℕ) → number < 2 ^ 64 → ds ≡ decimal number → decimal_number ds ≡ Some number
unfolding decimal_number
read_by_spelling ds number small is =
    let are : AreDigits ds = rw is (digits_decimal digits number small) in
    let some : 0 < length ds = rw is (decimal_nonempty number small) in
    let value : digits_value 10 ds ≡ number = rw is (digits_value-decimal digits number small) in
    let form : is_decimal ds ≡ true = decimal_from_digits ds are some (alone_of_spelling number ds small is) in
    grind (arith, common_steps, nat_tests)

-- what has not the form of a decimal is not read
pub none_without_form : (ds : List ℕ) → is_decimal ds ≡ false → decimal_number ds ≡ None
unfolding decimal_number
none_without_form ds form = rw form refl

-- a decimal writes the number of its digits
pub number_of_digits : (ds : List ℕ) → is_decimal ds ≡ true → within_64_bits (digits_value_after 10 0 ds) ≡ decimal_number ds
unfolding decimal_number
number_of_digits ds form = rw form refl

-- each digit more makes it greater
pub value_behind : (n : ℕ) (ds : List ℕ) → n ≤ digits_value_after 10 n ds
value_behind n [] = omega arith
value_behind n (d ∷ ds) = omega (arith, value_behind (n * 10 + digit_value d) ds)

pub value_of_digit : (d : ℕ) → is_ascii_digit d ≡ true → digit_value d ≡ d - 48
value_of_digit d is = grind (arith, common_steps, nat_tests)

-- the digits behind a number, of which the first is another number's last
pub digit_behind : (n d : ℕ) (ds : List ℕ) → is_ascii_digit d ≡ true
    → digits_value_after 10 n (d ∷ ds) ≡ digits_value_after 10 (n * 10 + (d - 48)) ds
digit_behind n d ds is = ap (λ (digit : ℕ). digits_value_after 10 (n * 10 + digit) ds) (value_of_digit d is)

-- too great, and so it stays
too_great : (n : ℕ) (ds : List ℕ) → 2 ^ 64 ≤ n → None ≡ within_64_bits (digits_value_after 10 n ds)
too_great n ds great =
    let more : n ≤ digits_value_after 10 n ds = value_behind n ds in
    grind (arith, common_steps, nat_tests)

first_digit : (d : ℕ) (ds : List ℕ) → IsTrue (list_all is_ascii_digit (d ∷ ds)) → is_ascii_digit d ≡ true
first_digit d ds are = grind (arith, common_steps, nat_tests)

-- with its first digit the number is too great already
pub too_great_with : (n d : ℕ) (ds digits : List ℕ) → digits ≡ d ∷ ds → IsTrue (list_all is_ascii_digit digits)
    → ¬ (n * 10 + (d - 48) < 2 ^ 64) → None ≡ within_64_bits (digits_value_after 10 n digits)
too_great_with n d ds digits is are great =
    rw (is, digit_behind n d ds (first_digit d ds (subst (λ (l : List ℕ). IsTrue (list_all is_ascii_digit l)) is are)))
    (too_great (n * 10 + (d - 48)) ds (omega arith))

-- Laws of fields of fixed length.

-- a front and what follows it make the whole
pub joined : (n : ℕ) (bytes front rest : List ℕ) → front ≡ take n bytes → rest ≡ drop n bytes → bytes ≡ front ++ rest
joined n bytes front rest e f =
    sym (take-append-drop n bytes) ∙ ap (λ (x : List ℕ). x ++ drop n bytes) (sym e)
    ∙ ap (λ (x : List ℕ). front ++ x) (sym f)

pub length-eight_bytes : (n : ℕ) → length (eight_bytes n) ≡ 8
unfolding eight_bytes
length-eight_bytes n = refl

pub length-four_bytes : (n : ℕ) → length (four_bytes n) ≡ 4
unfolding four_bytes
length-four_bytes n = refl

pub eight_bytes-injective : (m n : ℕ) → m < 2 ^ 64 → n < 2 ^ 64 → eight_bytes m ≡ eight_bytes n → m ≡ n
unfolding eight_bytes
eight_bytes-injective m n h k e =
    sym (from_be_bytes-to_be_bytes_8 m h) ∙ ap (λ (x : List ℕ). from_be_bytes w64 x) e
    ∙ from_be_bytes-to_be_bytes_8 n k

pub four_bytes-injective : (m n : ℕ) → m < 2 ^ 32 → n < 2 ^ 32 → four_bytes m ≡ four_bytes n → m ≡ n
unfolding four_bytes
four_bytes-injective m n h k e =
    sym (from_be_bytes-to_be_bytes_4 m h) ∙ ap (λ (x : List ℕ). from_be_bytes w32 x) e
    ∙ from_be_bytes-to_be_bytes_4 n k

-- the bytes of a part are bytes
bytes_of_part : (n : ℕ) (bytes part : List ℕ) → ((i : ℕ) → get_or bytes i 0 < 256) → part ≡ take n bytes →
    length part ≡ n → (i : ℕ) → get_or part i 0 < 256
bytes_of_part n bytes part h e l i =
    elim (cases_lt i n) [
      | inl below ↦ (rw e (rw (get_or-take n bytes i 0 below) (h i)))
      | inr past ↦
          (let P : ℕ → Type 0 = λ x. x < 256 in
          subst P (sym (get_or_past part i 0 (omega arith))) (lit< tt))
    ]

-- a part of eight bytes is that of its number
pub eight_bytes-front : (bytes front : List ℕ) (n : ℕ) → ((i : ℕ) → get_or bytes i 0 < 256) →
    front ≡ take 8 bytes → length front ≡ 8 → n ≡ from_be_bytes w64 front → eight_bytes n ≡ front
unfolding eight_bytes
eight_bytes-front bytes front n h e l k = be_bytes_8 front n l (bytes_of_part 8 bytes front h e l) k

-- a part of four bytes is that of its number
pub four_bytes-front : (bytes front : List ℕ) (n : ℕ) → ((i : ℕ) → get_or bytes i 0 < 256) →
    front ≡ take 4 bytes → length front ≡ 4 → n ≡ from_be_bytes w32 front → four_bytes n ≡ front
unfolding four_bytes
four_bytes-front bytes front n h e l k = be_bytes_4 front n l (bytes_of_part 4 bytes front h e l) k

-- two parts of one length at the front of one list are one part, and so is what follows
pub append-injective : (a b c d : List ℕ) → length a ≡ length b → a ++ c ≡ b ++ d → (a ≡ b) × (c ≡ d)
append-injective [] [] c d h e = (refl, e)
append-injective [] (y ∷ b) c d h e = absurd (omega arith)
append-injective (x ∷ a) [] c d h e = absurd (omega arith)
append-injective (x ∷ a) (y ∷ b) c d h e =
    let rest = append-injective a b c d (omega arith) (ap (λ (z : List ℕ). drop 1 z) e) in
    (ap (λ (z : List ℕ). get_or z 0 0 ∷ a) e ∙ ap (λ (z : List ℕ). y ∷ z) rest.0, rest.1)

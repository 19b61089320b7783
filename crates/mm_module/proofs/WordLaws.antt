-- Laws of words.
use Rattle.std.proofs.Common.{◌≡◌, ℕ, suc, ◌<◌, ◌≤◌, ◌+◌, List, [], ◌∷◌, length, take, drop, Bool, true, false, not, cond, Option, Some}
use Rattle.std.proofs.Common.{None, nat_lt, refl, ap, arith}
use Rattle.std.specs.List.{onto_first, position, position_or_len}
use Rattle.std.specs.Option.{MatchOption}
use Rattle.std.proofs.lemmas.List.Splits.{slice_split_first, length-slice_split}
use Rattle.std.proofs.lemmas.Bool.Decides.{nat_tests}
use Rattle.mm_module.specs.Meaning.{words_of, is_space}

one_word-step : (flag : Bool) (x : ℕ) (xs : List ℕ) → suc (length xs) ≤ cond (not flag) (1 + position_or_len is_space xs) 0
    → (length xs ≤ position_or_len is_space xs → words_of xs ≡ xs ∷ [])
    → cond flag ([] ∷ words_of xs) (onto_first x (words_of xs)) ≡ (x ∷ xs) ∷ []
one_word-step true x xs none more = absurd (omega arith)
one_word-step false x xs none more = ap (λ parts. onto_first x parts) (more (omega arith))

-- where there is no space, the text is the one word
pub words_of-one : (text : List ℕ) → length text ≤ position_or_len is_space text → words_of text ≡ text ∷ []
words_of-one [] none = refl
words_of-one (x ∷ xs) none = one_word-step (is_space x) x xs none (words_of-one xs)

-- the first word ends where the first space is
pub record FirstWord (text : List ℕ) (at : ℕ) : Type 0 where
  pub inside : at < length text
  pub parts : words_of text ≡ take at text ∷ words_of (drop (at + 1) text)

first_word-by : (text : List ℕ) (flag : Bool) → nat_lt (position_or_len is_space text) (length text) ≡ flag
    → MatchOption (cond flag (Some (position_or_len is_space text)) None) (words_of text ≡ text ∷ []) (λ at. FirstWord text at)
first_word-by text true is =
    let inside : position_or_len is_space text < length text = grind (arith, nat_tests)
    in record { inside = inside; parts = slice_split_first is_space text 0 inside }
first_word-by text false is = words_of-one text (grind (arith, nat_tests))

-- what the place of the first space says of the words
pub first_word-position : (text : List ℕ) (at : Option ℕ) → at ≡ position is_space text
    → MatchOption at (words_of text ≡ text ∷ []) (λ i. FirstWord text i)
first_word-position text at is = rw is (first_word-by text (nat_lt (position_or_len is_space text) (length text)) refl)

-- three words with more behind them are more than three
pub length-words_of : (text rest others more : List ℕ) (first second third : List ℕ) → words_of text ≡ first ∷ words_of rest
    → words_of rest ≡ second ∷ words_of others → words_of others ≡ third ∷ words_of more → 3 < length (words_of text)
length-words_of text rest others more first second third e f g = rw (e, f, g) (omega (arith, length-slice_split is_space more))

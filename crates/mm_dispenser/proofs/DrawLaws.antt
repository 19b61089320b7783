-- Words that are drawn one after another.
use Rattle.std.proofs.Common.{◌≡◌, ℕ, suc, ◌+◌, ◌-◌, ◌<◌, ◌%◌, ◌^◌, List, ◌++◌, refl, sym, ◌∙◌, ap, arith, append_assoc}
use Rattle.rand_chacha.specs.ChaCha.{ChaCha, key_of, next_word}
use Rattle.mm_bytes.specs.Limits.{last_position}
use Rattle.mm_dispenser.specs.Draws.{word_of, word_text, words_text}

words_text-suc : (seed : List ℕ) (at next more n : ℕ) → more ≡ suc n → next ≡ at + 1
    → words_text seed at more ≡ word_text (word_of seed at) ++ words_text seed next n
words_text-suc seed at next more n is next_is = rw (is, next_is) refl

-- one word more
pub drawn-step : (seed text drawn : List ℕ) (place count i : ℕ) → i < count → text ++ words_text seed (place + i) (count - i) ≡ drawn
    → (text ++ word_text (word_of seed (place + i))) ++ words_text seed (place + (i + 1)) (count - (i + 1)) ≡ drawn
drawn-step seed text drawn place count i before is =
    append_assoc text (word_text (word_of seed (place + i))) (words_text seed (place + (i + 1)) (count - (i + 1)))
    ∙ ap (λ (l : List ℕ). text ++ l)
    (sym (words_text-suc seed (place + i) (place + (i + 1)) (count - i) (count - (i + 1)) (omega arith) (omega arith)))
    ∙ is

-- the next word of a generator, and its place
pub record IsNext (seed : List ℕ) (at word : ℕ) (after : ChaCha) : Type 0 where
  pub is : word ≡ word_of seed at
  pub next : after ≡ record { key = key_of seed; stream = 0; word_pos = at + 1 }

pub next-drawn : (before after : ChaCha) (word : ℕ) (seed : List ℕ) (at : ℕ) → at < last_position → (word, after) ≡ next_word 10 before
    → before ≡ record { key = key_of seed; stream = 0; word_pos = at } → IsNext seed at word after
unfolding word_of
next-drawn before after word seed at small is stands =
    let e : (word, after) ≡ next_word 10 (record { key = key_of seed; stream = 0; word_pos = at }) = is
    ∙ ap (λ (g : ChaCha). next_word 10 g) stands in
    let inside : (at + 1) % 2 ^ 68 ≡ at + 1 = omega arith in
    record {
      is = ap (λ (r : ℕ × ChaCha). r.0) e;
      next = ap (λ (r : ℕ × ChaCha). r.1) e ∙ ap (λ (n : ℕ). record { key = key_of seed; stream = 0; word_pos = n }) inside;
    }

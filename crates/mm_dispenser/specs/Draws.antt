-- The words of a seed: those of ChaCha20 (RFC 8439, with a 64-bit block counter), stream 0.
use Rattle.std.specs.Prelude.{ℕ, zero, suc, ◌+◌, List, [], ◌∷◌, ◌++◌}
use Rattle.std.specs.Fmt.{decimal}
use Rattle.std.specs.Int.{w32, to_be_bytes}
use Rattle.hex.specs.Hex.{encode_lower}
use Rattle.rand_chacha.specs.ChaCha.{word_at, key_of}

-- the word at a place
unfoldable pub word_of : List ℕ → ℕ → ℕ
word_of seed place = word_at 10 (key_of seed) 0 place

-- a space, and a word in eight lower-case digits
unfoldable pub word_text : ℕ → List ℕ
word_text word = 32 ∷ encode_lower (to_be_bytes w32 word)

-- so many words from a place on
abbrev pub words_text : List ℕ → ℕ → ℕ → List ℕ
words_text seed place zero = []
words_text seed place (suc count) =
    word_text (word_of seed place) ++ words_text seed (place + 1) count

-- the place, and so many words from there on
abbrev pub text_of_draw : List ℕ → ℕ → ℕ → List ℕ
text_of_draw seed place count = decimal place ++ words_text seed place count

-- The words and laws that the proofs of this crate take from specs/ and from the crates below.
pub use Rattle.std.proofs.Common.{◌++◌, ◌+◌, ◌-◌, ◌∙◌, ◌≡◌, ◌≤◌, add_assoc, ap, arith, List, ℕ}
pub use Rattle.rand_chacha.specs.ChaCha.{key_of}
pub use Rattle.mm_dispenser.specs.Draws.{text_of_draw, word_text, words_text}

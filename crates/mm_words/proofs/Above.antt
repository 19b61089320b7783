-- What crates above may cite of these proofs: the other files can be read and changed by this crate alone.
pub use Rattle.mm_words.proofs.Matched.{one_command}

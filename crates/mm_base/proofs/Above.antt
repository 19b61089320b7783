-- What crates above may cite of these proofs: the other files can be read and changed by this crate alone.
pub use Rattle.mm_base.proofs.ReadingLemmas.{Consumes-both}

-- The words and laws that the proofs of this crate take from specs/ and from the crates below.
pub use Rattle.std.proofs.Common.{◌++◌, ◌∙◌, ◌≡◌, ap, arith, Bool, false, inl, inr, length, List, min, Option, refl, sym, take, true, ℕ}
pub use Rattle.std.proofs.lemmas.List.{length-take-le, take_all}
pub use Rattle.sha2.proofs.Facts256.{length-sha256}
pub use Rattle.mm_bytes.specs.DecimalLaws.{joined}
pub use Rattle.mm_store.specs.PendingRecord.{record_word}

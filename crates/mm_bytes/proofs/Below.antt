-- The words and laws that the proofs of this crate take from specs/ and from the crates below.
pub use Rattle.std.proofs.Common.{◌++◌, ◌∙◌, ◌≡◌, ap, arith, length}
pub use Rattle.std.proofs.Common.{List, sym, ℕ}
pub use Rattle.std.proofs.lemmas.List.{length-take-le}
pub use Rattle.mm_bytes.specs.DecimalLaws.{none_without_form, read_by_spelling, too_great_with, eight_bytes-front, four_bytes-front, joined}

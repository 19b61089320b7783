-- The words and laws that the proofs of this crate take from specs/ and from the crates below.
pub use Rattle.std.specs.Coded.{coded_list, coded_ℕ}
pub use Rattle.std.proofs.Common.{◌++◌, ◌∙◌, ◌≡◌, ap, rules}
pub use Rattle.std.proofs.Math.Logic.{∥∥₁_elim}
pub use Rattle.sha2.specs.Hashers.{Holds256}

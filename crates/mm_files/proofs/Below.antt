-- The words and laws that the proofs of this crate take from specs/ and from the crates below.
pub use Rattle.std.proofs.Common.{refl}
pub use Rattle.mm_platform.specs.Standing.{ExtendRegister, ReadRegister, ResetRegister}

-- What crates above may cite of these proofs: the other files can be read and changed by this crate alone.
pub use Rattle.mm_told.proofs.Coming.{front_made}
pub use Rattle.mm_told.proofs.Playing.{goes_bare}
pub use Rattle.mm_told.proofs.Sizing.{sealed_most}

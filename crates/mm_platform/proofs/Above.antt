-- What crates above may cite of these proofs: the other files can be read and changed by this crate alone.
pub use Rattle.mm_platform.proofs.Telling.{plan_then, told_failed, told_last, told_then}

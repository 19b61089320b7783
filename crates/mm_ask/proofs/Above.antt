-- What crates above may cite of these proofs: the other files can be read and changed by this crate alone.
pub use Rattle.mm_ask.proofs.Asking.{asked_whole, begun_stage, calls_by, counts_by, few_by, quiet_by, steps_stay}

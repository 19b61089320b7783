-- What crates above may cite of these proofs: the other files can be read and changed by this crate alone.
pub use Rattle.mm_steps.proofs.Stopping.{asks_begun, closes_begun, flight_takes_in, may_take_in}
pub use Rattle.mm_steps.proofs.Steps.{asks_broken_off, asks_stepped, closes_broken_off, closes_stepped}

-- What crates above may cite of these proofs: the other files can be read and changed by this crate alone.
pub use Rattle.mm_flight.proofs.Ending.{finish_breaks, finish_refuses, may_planned}
pub use Rattle.mm_flight.proofs.Machine.{begins, goes_on, meddled, replans, takes_in, commits_at, steps_fail, steps_faultless, steps_move}
pub use Rattle.mm_flight.proofs.Machine.{steps_over, steps_then, steps_under, AlwaysFails, counted_few, Replans}

-- What crates above may cite of these proofs: the other files can be read and changed by this crate alone.
pub use Rattle.mm_play.proofs.Runs.{first_answered, not_ok, ok_same, outcome_of}
pub use Rattle.mm_play.proofs.Telling.{for_whole, Means, plays_err, plays_ok, tells, unrefused}
pub use Rattle.mm_play.proofs.Stopped.{bare, events_err, events_ok, IsSilent, lacked_events, stopped_events}

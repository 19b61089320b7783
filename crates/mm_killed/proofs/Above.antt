-- What crates above may cite of these proofs: the other files can be read and changed by this crate alone.
pub use Rattle.mm_killed.proofs.Failing.{CallAnswers, CallFails, MayFail, killed_stops, cycle_fails, failed_standing, nothing_beside}
pub use Rattle.mm_killed.proofs.Failing.{put_back_told, step_fails}

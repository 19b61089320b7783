-- What crates above may cite of these proofs: the other files can be read and changed by this crate alone.
pub use Rattle.mm_schedule.proofs.SpelledIsRead.{header-read, spelled_is_read}
pub use Rattle.mm_schedule.proofs.TellingLaws.{promises-kept}

-- What crates above may cite of these proofs: the other files can be read and changed by this crate alone.
pub use Rattle.mm_opt.proofs.Going.{asked, asked_by, found_right, calls_to, finished_asks, finished_to}
pub use Rattle.mm_opt.proofs.Checking.{checks_on}
pub use Rattle.mm_opt.proofs.Checkpointing.{closing_blamed, closing_steps, leaves_still, numbers}
pub use Rattle.mm_opt.proofs.ClosingByMachine.{closes_whole, closing_steps_as, few_closing}
pub use Rattle.mm_opt.proofs.Reading.{HasRoom, Reads, ReadsOn, ReadsOwnCell, ReadsRegister, quiet, reads_told, room_only}

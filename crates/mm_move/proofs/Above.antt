-- What crates above may cite of these proofs: the other files can be read and changed by this crate alone.
pub use Rattle.mm_move.proofs.CellLaws.{blank_read, moved_back, bytes_are, bytes_tell, eq_is, three}
pub use Rattle.mm_move.proofs.Moving.{keeps_failed, keeps_on, no_fault_or, accepts_no_fault, retires_no_fault}
pub use Rattle.mm_move.proofs.TicketLaws.{length-zero_bytes, tickets_are_read}

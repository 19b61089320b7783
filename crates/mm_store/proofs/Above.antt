-- What crates above may cite of these proofs: the other files can be read and changed by this crate alone.
pub use Rattle.mm_store.proofs.PendingLaws.{length-pending_front, one_reading, reads_none-short, longest_slot-is, putting-twice}
pub use Rattle.mm_store.proofs.PendingLaws.{slot_in-with_slot, take-min, with_slot-same, marked_last, marks_alone}

-- What crates above may cite of these proofs: the other files can be read and changed by this crate alone.
pub use Rattle.mm_call.specs.OfferLaws.{basic_content}
pub use Rattle.mm_recovery.proofs.BatchMeeting.{beyond_none, length-pending_spelling, BatchMet, basic_batch_met, opt_batch_met}
pub use Rattle.mm_recovery.proofs.BatchMeeting.{opt_batch_met_idle}
pub use Rattle.mm_recovery.proofs.Refusing.{found_full, grows, judged_refused, keeps_refused, one_more, waiting_most}
pub use Rattle.mm_recovery.proofs.CellWriting.{AnsweredWrites, both_writes, counted_most, joined, leads_rest, rests}
pub use Rattle.mm_recovery.proofs.Exits.{answered_writes, by_refusal, CameWrites, new_most, next_came, next_told, resumes_came}
pub use Rattle.mm_recovery.proofs.Exits.{resumes_told, Told, is_checkpoint, is_call}
pub use Rattle.mm_recovery.proofs.Meeting.{fits_on, holds_issued, issued_in_opt, basic_met, IsGrownBy, IsSame, Met, not_lost, opt_grown}
pub use Rattle.mm_recovery.proofs.Meeting.{opt_met, opt_met_idle, was_powered}
pub use Rattle.mm_recovery.proofs.Recovering.{ask_exit, asked_at, Enters, IsMade, left_by, MadeOf, NoMore, one_waiting, recovers_by}
pub use Rattle.mm_recovery.proofs.Recovering.{refusal_told, Saw, saw_two}
pub use Rattle.mm_recovery.proofs.SettingUp.{is_first}

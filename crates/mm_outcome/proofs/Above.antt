-- What crates above may cite of these proofs: the other files can be read and changed by this crate alone.
pub use Rattle.mm_outcome.proofs.Expecting.{basic_begins, basic_events_agree, opt_begins, opt_events_agree}
pub use Rattle.mm_outcome.proofs.Counting.{count-made, few_committed, grown, issues, issues_one, meaning_by, printable, printed}
pub use Rattle.mm_outcome.proofs.Counting.{printed_closing, short_outputs, short_size, sizes_of, world_few, event_steps}
pub use Rattle.mm_outcome.proofs.Following.{closing_all, in_any_way, then_all, ask_moves, asking_messages, broken_reply, stopped_reply}
pub use Rattle.mm_outcome.proofs.Following.{told_reply}
pub use Rattle.mm_outcome.proofs.FirstBytes.{clear_within, goes_on}
pub use Rattle.mm_outcome.proofs.MetPremises.{anchor_nil, issued_names, said_of}
pub use Rattle.mm_outcome.proofs.Naming.{basic_events_keep_names, basic_issued_named, last_steps, opt_events_keep_names, opt_issued_named}

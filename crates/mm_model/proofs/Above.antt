-- What crates above may cite of these proofs: the other files can be read and changed by this crate alone.
pub use Rattle.mm_model.proofs.Named.{fresh_lists, basic_issued, basic_names, opt_issued, opt_names, point_items, point_kept}
pub use Rattle.mm_model.proofs.Named.{basic_stands_here, opt_stands_here}
pub use Rattle.mm_model.proofs.Paths.{live_parts, LiveParts, shut_current}
pub use Rattle.mm_model.proofs.Listing.{items_messages, opt_messages}
pub use Rattle.mm_model.proofs.Moves.{basic_digests, open_current, opt_digests, outside_moved, sound_items, sound_moved}
pub use Rattle.mm_model.proofs.OptJudge.{lost_is_zero, opt_is_judged}

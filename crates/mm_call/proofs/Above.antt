-- What crates above may cite of these proofs: the other files can be read and changed by this crate alone.
pub use Rattle.mm_call.proofs.BasicLaw.{basic_calls_agree, basic_same, names_made, plain_outside, unlacked}
pub use Rattle.mm_call.proofs.Finding.{again_of, fresh_found, fresh_of, said_last, admitted_tells, each_at, found_with_tells, live_found}
pub use Rattle.mm_call.proofs.Finding.{lives, not_lost, placed, right_at, unless_lost, weighed_tells}
pub use Rattle.mm_call.proofs.Checkpoints.{basic_checkpoint_same, basic_checkpoints_agree, opt_checkpoints_agree}
pub use Rattle.mm_call.proofs.Checkpoints.{opt_checkpoints_agree_by_lists, read_moves}
pub use Rattle.mm_call.proofs.Coming.{answered_at, asked_for, asked_idle, basic_asked, basic_comes, idle_again, idle_moves, opt_comes}
pub use Rattle.mm_call.proofs.Coming.{unless_idle}
pub use Rattle.mm_call.proofs.Committing.{BlamesFor, ends_blamed, ends_fates, fate_of, Given, MakesAll, reading_tale, refused_result}
pub use Rattle.mm_call.proofs.Committing.{steps_blamed, steps_give, Tale, tale_on}
pub use Rattle.mm_call.proofs.Completing.{Accepts, answered_result, AsFound, calls_from, calls_to, course_by, each_call, ends_result}
pub use Rattle.mm_call.proofs.Completing.{ends_untouched, given_all, GoesTo, is_memory, lacks_in, refused_reading, so_far, Told, told_on}
pub use Rattle.mm_call.proofs.Completing.{told_reading, finds, sees, stands_at, stands_for}
pub use Rattle.mm_call.proofs.Turning.{acts_told, asks_told, ends_told, finished_asks, halted_told, finish_blamed, IsQuiet, reads_blamed}
pub use Rattle.mm_call.proofs.Turning.{step_fault, steps_by, StepsBy, turn_blamed, turn_hands, calls_blamed, calls_untouched}
pub use Rattle.mm_call.proofs.Turning.{register_untouched, then_untouched}
pub use Rattle.mm_call.proofs.OptAlike.{Alike, alike_commit, alike_foreign, alike_still, clean_open, grown_by, issued_alike, names_after}
pub use Rattle.mm_call.proofs.OptAlike.{names_alike, opened, same_closed}
pub use Rattle.mm_call.proofs.OptHolding.{agrees_is, bare, counted_open, foreign_agrees, foreign_fine, foreign_may, holds_moved, holds_open}
pub use Rattle.mm_call.proofs.OptHolding.{is_agrees, life_bare, listed_bare, opt_agrees_moved, power_brings, power_fine, power_may}
pub use Rattle.mm_call.proofs.OptHolding.{sound_shut, within_items, within_of}
pub use Rattle.mm_call.proofs.OptLaw.{opt_calls_agree, opt_calls_agree_by_lists, reset_messages}
pub use Rattle.mm_call.proofs.OptLeaves.{alike_call, answered_clean_as, call_goes_on, DigestMoves, GoesOn, Hands, hands, Left, Pushed}
pub use Rattle.mm_call.proofs.OptLeaves.{seen_closes}
pub use Rattle.mm_call.proofs.OptShapes.{Brought, foreign_messages, opt_tied, reads_only, reset, Shape, shape, two_reads}
pub use Rattle.mm_call.proofs.OptShown.{flag_kept, pushed_open, shown_back, shown_front, shown_shut}
pub use Rattle.mm_call.proofs.OptWalks.{AllMay, AreOwn, ask_may, before, first_in, foreign_all, holds_made, may_of, own_asked, own_checked}
pub use Rattle.mm_call.proofs.OptWalks.{path_is, Ready, ready_closing, sight, sight_is, walk_fine}
pub use Rattle.mm_call.specs.TrailLaws.{foreign_made as brought_digests}
pub use Rattle.mm_model.specs.BatchLaws.{requests-push}

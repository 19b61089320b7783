-- The words and laws that the proofs of this crate take from specs/ and from the crates below.
pub use Rattle.std.specs.List.{AllByRecursion, Contains}
pub use Rattle.std.specs.Option.{option_map}
pub use Rattle.std.specs.Prelude.{if◌then◌else◌, nat_eq}
pub use Rattle.std.proofs.Common.{◌++◌, ◌+◌, ◌∙◌, ◌∷◌, ◌≡◌, ◌≤◌, ◌⊎◌, [], ap, append_assoc, arith, Bool, Err, false, inl, inr, List, map}
pub use Rattle.std.proofs.Common.{None, Ok, Option, refl, Result, Some, subst, sym, true, ℕ}
pub use Rattle.std.proofs.lemmas.List.{append-nil, map-append}
pub use Rattle.mm_bytes.specs.Limits.{last_position}
pub use Rattle.mm_digest.specs.Messages.{anchored_message, extended_message}
pub use Rattle.mm_digest.specs.declared.variant.Variant.{Variant}
pub use Rattle.mm_digest.specs.declared.variant.Variant.TheVariants.{Basic, Opt}
pub use Rattle.mm_seal.specs.Parts.{parts_of}
pub use Rattle.mm_seal.specs.Snapshot.{Content, IsContent, sealed_snapshot_of}
pub use Rattle.mm_platform.specs.Standing.{foreign_item, Item, item_values, Standing, quiet_plan}
pub use Rattle.mm_platform.specs.declared.fault.StepFault.{StepFault}
pub use Rattle.mm_machine.specs.declared.operation.OpFinding.{OpFinding as Given}
pub use Rattle.mm_module.specs.Batch.{Batch, One}
pub use Rattle.mm_module.specs.Meaning.{IsLawful, Meaning}
pub use Rattle.mm_model.specs.BatchLaws.{at_the_end, before_the_last, total-push}
pub use Rattle.mm_model.specs.ListLaws.{after-append}
pub use Rattle.mm_model.specs.Chains.{digest_after, guard, trail, Instance, basic_instance, opt_instance}
pub use Rattle.mm_model.specs.Moves.{IsFit, is_long, Digests, digests_of, IsAllowed, digests_after}
pub use Rattle.mm_model.specs.History.{Close, Commit, RegisterEntry, Foreign, History, Move, history_after, register_value_of, total_of}
pub use Rattle.mm_model.specs.History.{Value, cell_digest_of, values_of as entry_values, ask_steps, checkpoint_steps, Reads, DeviceStep}
pub use Rattle.mm_model.specs.History.{Writes}
pub use Rattle.mm_model.specs.Standing.{is_empty, is_lost, life_of, Live, content_of_issue, NamesPosition, IsRight, issued_bytes, StandsFor}
pub use Rattle.mm_model.specs.Messages.{IsClear, offer_messages, AreMessagesIn}
pub use Rattle.mm_model.specs.declared.answer.Answer.{Answer}
pub use Rattle.mm_model.specs.declared.answer.BatchAnswer.{BatchAnswer}
pub use Rattle.mm_model.specs.declared.refusal.Refusal.{Refusal}
pub use Rattle.mm_model.specs.declared.refusal.Refusal.TheVariants.{Device, Long, Memory}
pub use Rattle.mm_model.specs.declared.verdict.Verdict.{Verdict}
pub use Rattle.mm_model.proofs.Above.{basic_issued, opt_issued, opt_names}
pub use Rattle.mm_call.specs.CallPremises.{counted_moves, counted_part, foreign_move_values, IsAsked, IsWithin, messages_of_moves}
pub use Rattle.mm_call.specs.CallPremises.{right_messages, StepsBy, AreAsked, AreShown, IsIdle, foreign_items, standing_items}
pub use Rattle.mm_call.specs.Checkpoints.{AskPromise, checkpoint_outcome, checkpoint_ending, IsClosedWithin}
pub use Rattle.mm_call.specs.CallOutcome.{call_outcome, CallOutcome, call_ending_by, result_of_ending, reading_steps, state_seen}
pub use Rattle.mm_call.specs.CallOutcome.{call_outcome_with, walk_from_step, has_close, Course, Done, End, Fails, StepFate, moves_seen}
pub use Rattle.mm_call.specs.CallOutcome.{walk, StepsWalk}
pub use Rattle.mm_call.specs.CallKind.{CallKind, CallContinues, IsCallOnCourse}
pub use Rattle.mm_call.specs.CallFinding.{HistoryGrows, EndsWith, grown, kept, CallFinding, finding_at, right_content}
pub use Rattle.mm_call.specs.CallFinding.{finding_unless_wanting, is_fresh, CountsHandedFault, IsAccepted, batch_answer_of, batch_result_of}
pub use Rattle.mm_call.specs.CallFinding.{state_after_moves, digest_level, list_level, fault_in, fault_of}
pub use Rattle.mm_call.specs.OfferLaws.{more_batches, same_batches, basic_content, issued_once, listed_by, one_content, opt_content}
pub use Rattle.mm_call.specs.OfferLaws.{right_of, asked_by}
pub use Rattle.mm_call.specs.Standing.{items_after_moves, StandsAt}
pub use Rattle.mm_call.specs.WalkLaws.{batch, Commits, finished_walk, foreign_first, foreign_made, nothing}
pub use Rattle.mm_call.proofs.Above.{again_of, Alike, alike_call, alike_foreign, alike_still, answered_at, asked_for, asked_idle, bare}
pub use Rattle.mm_call.proofs.Above.{basic_asked, basic_comes, Brought, call_goes_on, DigestMoves, fresh_of, GoesOn, grown_by, hands}
pub use Rattle.mm_call.proofs.Above.{idle_again, idle_moves, issued_alike, Left, names_after, names_made, opt_comes, placed, Pushed}
pub use Rattle.mm_call.proofs.Above.{reads_only, right_at, same_closed, seen_closes, shown_front, stands_at, unless_idle}
pub use Rattle.mm_call.proofs.OptAlike.{still}
pub use Rattle.mm_opt.specs.CheckpointPromise.{IsCheckpointOnCourse, checkpoint_result}
pub use Rattle.mm_opt.specs.declared.segment.CheckpointRefusal.{CheckpointRefusal}
pub use Rattle.mm_opt.specs.declared.segment.Checkpointed.{Checkpointed as Said}
pub use Rattle.mm_callers.specs.Basic.{AnswersOnce, AreAskedNext, AsksAgain, AsksTwice, finding_for, in_first, in_second, AreLeftBatches}
pub use Rattle.mm_callers.specs.Basic.{call_terms, CallTerms, IsOnce, SaysFound, SaysUnlessFault}
pub use Rattle.mm_callers.specs.Opt.{AreShownUnlessIdle, ClosesBetween, EndsBehind, in_closing, MayClose, RepeatsBehind, RepeatsReply}
pub use Rattle.mm_callers.specs.Opt.{SaysClosing, batches_after_call, IsAnswer, IsOfferedAt, IsWelcome, AnswersOrLacks, AsksByQuietPlan}
pub use Rattle.mm_callers.specs.Opt.{AsksInMemory, AsksOnce, AsksWelcome}
pub use Rattle.mm_callers.specs.Counts.{again, alone, at_once, both, CountsAgain, CountsCall, replied, StepsFor}

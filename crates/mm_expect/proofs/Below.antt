-- The words and laws that the proofs of this crate take from specs/ and from the crates below.
pub use Rattle.std.specs.List.{AllByRecursion, list_any}
pub use Rattle.std.specs.Prelude.{◌==◌, ◌||◌, IfOk, if◌then◌else◌, IsTrue, nat_eq, nat_le, option_map, option_to_list, slice_get}
pub use Rattle.std.specs.Str.{bytes_eq}
pub use Rattle.std.proofs.Common.{◌&&◌, ◌++◌, ◌+◌, ◌-◌, ◌<◌, ◌∙◌, ◌∷◌, ◌≡◌, ◌≤◌, [], ap, append_assoc, arith, Bool, cond, Err, false}
pub use Rattle.std.proofs.Common.{filter, get_or, length, length-drop, List, map, None, Ok, Option, refl, Result, Some, subst, suc, sym}
pub use Rattle.std.proofs.Common.{take, true, zero, ℕ}
pub use Rattle.std.proofs.lemmas.Bool.Decides.{Decides-eqb}
pub use Rattle.std.proofs.lemmas.List.{append-nil, map-append, same_from_push}
pub use Rattle.std.proofs.lemmas.List.Elements.{filter_more}
pub use Rattle.mm_bytes.specs.Limits.{last_position, limit_of, longest_request}
pub use Rattle.mm_digest.specs.Messages.{start_digest_of, zero_bytes}
pub use Rattle.mm_digest.specs.declared.variant.Variant.{Variant}
pub use Rattle.mm_digest.specs.declared.variant.Variant.TheVariants.{Basic, Opt}
pub use Rattle.mm_seal.specs.Parts.{content_of, parts_of}
pub use Rattle.mm_seal.specs.Snapshot.{Content, Snapshot, tag_of}
pub use Rattle.mm_seal.specs.declared.snapshot.PartsFault.{PartsFault}
pub use Rattle.mm_seal.specs.declared.snapshot.Place.TheVariants.{Opt as InOpt}
pub use Rattle.mm_platform.specs.Standing.{due_values, fault_at, is_made_at}
pub use Rattle.mm_platform.specs.declared.fault.StepFault.{StepFault}
pub use Rattle.mm_platform.specs.declared.plan.Meddle.{Meddle}
pub use Rattle.mm_platform.specs.declared.plan.Stop.{Stop}
pub use Rattle.mm_platform.specs.declared.plan.Stop.TheVariants.{Fail}
pub use Rattle.mm_module.specs.Batch.{Batch, members_of, normal_batch, size_of}
pub use Rattle.mm_module.specs.Batches.{batch_of}
pub use Rattle.mm_module.specs.Meaning.{IsLawful, Meaning, outputs_from, state_after}
pub use Rattle.mm_module.specs.RunLaws.{length-outputs_from, state_after-append, state_from-is_spelled}
pub use Rattle.mm_modules.specs.Modules.{meaning_of}
pub use Rattle.mm_modules.specs.ModulesLaws.{any_is_lawful}
pub use Rattle.mm_modules.specs.declared.any.AnyModule.{AnyModule}
pub use Rattle.mm_model.specs.BatchLaws.{is_last_of, is_last_tells, total-push}
pub use Rattle.mm_model.specs.Chains.{guard, register_of, Instance, basic_instance, opt_instance}
pub use Rattle.mm_model.specs.History.{Close, Commit, history_after_commit, first_history, Foreign, History, Move, history_after}
pub use Rattle.mm_model.specs.History.{requests_of, total_of, Value, cell_digest_of, values_of, ask_steps, checkpoint_steps, Reads}
pub use Rattle.mm_model.specs.History.{DeviceStep, Writes}
pub use Rattle.mm_model.specs.Verdicts.{is_last, verdict_on, verdict_by_tests}
pub use Rattle.mm_model.specs.Standing.{has_value, is_empty, is_lost, Life, life_by, life_of, Live, issued_place, NamesPosition, digest_of}
pub use Rattle.mm_model.specs.Standing.{IsGenuine, issued_bytes}
pub use Rattle.mm_model.specs.Moves.{is_long}
pub use Rattle.mm_model.specs.declared.refusal.Refusal.{Refusal}
pub use Rattle.mm_call.specs.WalkLaws.{checkpoint_none, closes-append, closes-foreign, ClosesNone, reading_none, shut_along, walk_along}
pub use Rattle.mm_call.specs.WalkLaws.{batch, call_commits, Commits, commits-none, commits_batch, finished_walk, made-append, nothing}
pub use Rattle.mm_call.specs.WalkLaws.{seen_none, writing_commits}
pub use Rattle.mm_call.specs.CallFinding.{answer_on, last_outputs, CallFinding, finding_at, finding_by_verdict, right_content}
pub use Rattle.mm_call.specs.CallFinding.{finding_unless_wanting, is_fresh, state_after_moves, list_level}
pub use Rattle.mm_call.specs.CallOutcome.{Answers, Breaks, CallOutcome, call_outcome, call_ending_by, position_of, reading_steps}
pub use Rattle.mm_call.specs.CallOutcome.{state_seen, call_outcome_with, position_if_committed, walk_from_step, has_close, has_commit}
pub use Rattle.mm_call.specs.CallOutcome.{Course, Done, End, Fails, StepFate, fate_by_plan, moves_seen, step_moves, walk, StepsWalk, end_of}
pub use Rattle.mm_call.specs.CallOutcome.{made_move}
pub use Rattle.mm_call.specs.OfferLaws.{anchor-nil, committed_batches, more_batches, same_batches, summary-nil}
pub use Rattle.mm_call.specs.Standing.{instance_by}
pub use Rattle.mm_call.specs.declared.ended.AskResult.{AskResult}
pub use Rattle.mm_call.specs.declared.ended.AskResult.TheVariants.{Answered, Broken, Refused}
pub use Rattle.mm_call.proofs.Above.{admitted_tells, again_of, found_with_tells, fresh_found, requests-push, said_last, unlacked}
pub use Rattle.mm_call.proofs.Above.{unless_lost, weighed_tells}
pub use Rattle.mm_schedule.specs.Events.{Event, event_of}
pub use Rattle.mm_schedule.specs.Replies.{IsPrintable}
pub use Rattle.mm_schedule.specs.declared.header.Header.{Header}
pub use Rattle.mm_history.specs.Naming.{closed_marks, emptied_marks, grown_marks, linked_marks, marks_of, opened_marks, with_value}
pub use Rattle.mm_history.specs.Naming.{IsDecided}
pub use Rattle.mm_history.specs.declared.marks.HistoryMarks.{HistoryMarks}
pub use Rattle.mm_outcome.specs.Premises.{moves_after_stop, moves_after_checkpoint, course_of, event_outcome, outcome_by_lists}
pub use Rattle.mm_outcome.specs.Premises.{first_snapshots, RunOutcome, outcome_of_events, moves_after_call, Outcome, reply_of, snapshots_of}
pub use Rattle.mm_outcome.specs.Premises.{way_of, plan_of, IsGenuineEvent}
pub use Rattle.mm_outcome.specs.OneRun.{world_of, world_barrier, world_key}
pub use Rattle.mm_outcome.specs.Laws.{IsIssued}
pub use Rattle.mm_outcome.specs.EventOffers.{offered_bytes}
pub use Rattle.mm_outcome.proofs.Above.{basic_issued_named, closing_all, goes_on, in_any_way, last_steps, opt_issued_named, printed_closing}
pub use Rattle.mm_outcome.proofs.Above.{short_outputs, then_all, broken_reply, told_reply}
pub use Rattle.mm_expect.specs.Calls.{AdmitsBatch, repeat_in, ChronicleCalls, changes_on, ChronicleChanges, first_changing_step}
pub use Rattle.mm_expect.specs.Calls.{changing_steps, ending_of, NewCallGoesOn, new_ending, count_after_batch}
pub use Rattle.mm_expect.specs.ChronicleView.{call_outcome_on, listed_chronicle, ListedChronicle, moves_if, ChronicleGoesByCall}
pub use Rattle.mm_expect.specs.ChronicleView.{ChronicleGoesByEvent, barrier_of, instance_with, ChronicleView, chronicle_instance}
pub use Rattle.mm_expect.specs.ChronicleView.{state_after_batch, outputs_of_batch, ChronicleGoes, move_of, model_step_of, steps_of}
pub use Rattle.mm_expect.specs.ChronicleView.{ChronicleWalks}
pub use Rattle.mm_expect.specs.ExpectedState.{EachOfferIsDecided, IssuedAreGenuine, AreIssued, DecidesEvent, DecidesOffer}
pub use Rattle.mm_expect.specs.ExpectedState.{expected_state_after, first_expected_state, IsAfter, ExpectedState}
pub use Rattle.mm_expect.specs.declared.calls.ClosingResult.TheVariants.{Closes, HasNone, NoSegment, Stops}
pub use Rattle.mm_expect.specs.declared.replies.EventReply.{EventReply}

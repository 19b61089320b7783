-- The words and laws that the proofs of this crate take from specs/ and from the crates below.
pub use Rattle.std.specs.BTreeSet.{BTreeSet, contains, insert_key}
pub use Rattle.std.specs.Cmp.Lexicographic.{slice_cmp}
pub use Rattle.std.specs.List.{Contains, fold, list_any, slice_get, filter}
pub use Rattle.std.specs.Option.{option_copied, option_map}
pub use Rattle.std.specs.Ordering.{is_eq, match_ordering, nat_cmp}
pub use Rattle.std.specs.Prelude.{◌||◌, not, Vec, ◌==◌}
pub use Rattle.std.specs.Str.{bytes_eq}
pub use Rattle.std.proofs.Common.{◌++◌, ◌+◌, ◌<◌, ◌∙◌, ◌∷◌, ◌≡◌, ◌≤◌, ◌⊎◌, [], ap, append-nil, append_assoc, arith, Bool, cond, drop, Err}
pub use Rattle.std.proofs.Common.{false, get_or, inl, inr, length, length-append, List, map, nat_lt, None, Ok, Option, refl, Result, Some}
pub use Rattle.std.proofs.Common.{subst, suc, sym, take, true, zero, ℕ, ◌*◌, ◌-◌}
pub use Rattle.std.proofs.lemmas.Bool.Decides.{nat_tests}
pub use Rattle.std.proofs.lemmas.Cmp.{nat_list_eq_equiv}
pub use Rattle.std.proofs.lemmas.Grind.{flat_map-append}
pub use Rattle.std.proofs.lemmas.List.{drop_all, length-map, length-take, map-append, take_more, length-drop}
pub use Rattle.std.proofs.lemmas.List.Elements.{Contains-append_cases, Contains-append_left, Contains-append_right, Contains-push}
pub use Rattle.std.proofs.lemmas.List.Elements.{Contains-push_cases}
pub use Rattle.std.proofs.lemmas.List.Folds.{list_any-append}
pub use Rattle.std.proofs.lemmas.Map.Text.{is_eq-slice_cmp}
pub use Rattle.std.proofs.lemmas.Option.{get_or_from_slice_get, slice_get_read, slice_get_within}
pub use Rattle.std.proofs.lemmas.Slice.Eq.{bytes_eq-Decides}
pub use Rattle.sha2.specs.Sha256.{sha256}
pub use Rattle.mm_bytes.specs.Limits.{longest_line, most_events, most_members}
pub use Rattle.mm_digest.specs.Messages.{start_message, variant_byte, zero_bytes, anchored_message, anchored_digest_of}
pub use Rattle.mm_digest.specs.declared.variant.Variant.{Variant}
pub use Rattle.mm_digest.specs.declared.variant.Variant.TheVariants.{Basic, Opt}
pub use Rattle.mm_platform.specs.declared.plan.Meddle.{Meddle}
pub use Rattle.mm_module.specs.Batch.{Batch, Many, normal_batch, One, size_of}
pub use Rattle.mm_module.specs.Meaning.{Meaning, outputs_from}
pub use Rattle.mm_modules.specs.Modules.{meaning_of}
pub use Rattle.mm_model.specs.Chains.{guard, own_values, Instance}
pub use Rattle.mm_model.specs.History.{Close, first_history, History, Move, history_after, total_of, Commit, Foreign, requests_of}
pub use Rattle.mm_model.specs.History.{ask_steps, Changes, checkpoint_steps, Reads, DeviceStep, Writes}
pub use Rattle.mm_model.specs.Messages.{AreNoGuards, IsClear, form_messages, messages_for_move, offer_messages, move_messages}
pub use Rattle.mm_call.specs.CallPremises.{messages_of_moves, right_messages}
pub use Rattle.mm_call.specs.CallFinding.{digest_level, list_level, state_after_moves, CallFinding, finding_at, right_content}
pub use Rattle.mm_call.specs.Standing.{instance_by}
pub use Rattle.mm_schedule.specs.Events.{Event, event_of, Ask, Checkpoint, meddles_of}
pub use Rattle.mm_schedule.specs.Replies.{end_line, lines_of_reply, told_lines}
pub use Rattle.mm_schedule.specs.declared.event.Event.{Event as CodeEvent}
pub use Rattle.mm_schedule.specs.declared.header.Header.{Header}
pub use Rattle.mm_schedule.specs.declared.reply.Reply.{Reply}
pub use Rattle.mm_outcome.specs.Premises.{event_outcome, outcome_by_lists, first_digests, first_snapshots, RunOutcome, outcome_of_events}
pub use Rattle.mm_outcome.specs.Premises.{Outcome, outcome_by_digests, closing_reply, course_of, reply_of, way_of, AreGenuine, batches_of}
pub use Rattle.mm_outcome.specs.Premises.{event_messages, event_foreign_values, IsClearRun, IsGenuineEvent, IsGenuineRun, messages_from}
pub use Rattle.mm_outcome.specs.Premises.{moves_of, AreApart, asked_batches, foreign_values, run_messages}
pub use Rattle.mm_outcome.specs.OneRun.{world_of, world_barrier, world_key}
pub use Rattle.mm_outcome.proofs.Above.{ask_moves, asking_messages, goes_on, in_any_way, short_size}
pub use Rattle.mm_evidence.proofs.Above.{any_in, any_some, event_apart, event_offer, event_or, genuine_or, names_by}
pub use Rattle.mm_expect.specs.ExpectedState.{messages_if, messages_where, numbered_event_messages}
pub use Rattle.mm_play.proofs.Above.{for_whole, not_ok, ok_same, outcome_of, plays_err, plays_ok}
pub use Rattle.mm_replay.specs.Schedule.{running_replay_after, is_too_much, replay_stage, RunningReplay, running_outcome, replay_state_of}
pub use Rattle.mm_check.specs.CheckStage.{compared_run_after, AtHeader, check_answer, check_closing, CheckStage, ComparedRun}
pub use Rattle.mm_check.specs.CheckStage.{first_compared_run, first_recorded_run, answer_to_header, InEvents, InReplies, is_line}
pub use Rattle.mm_check.specs.CheckStage.{RecordedRun, answer_to_line, with_event}
pub use Rattle.mm_check.specs.Numbering.{IsFirstForged, premise_by, StandsBehind, DecidesPremise, expected_lines, IsForgedAt, lines_of_all}
pub use Rattle.mm_check.specs.Numbering.{numbered_messages, numbered_messages_from, secured_event_in, PremiseIsFixed}
pub use Rattle.mm_numbering.specs.Listing.{digest_items, events_of, HasAll, is_secured, secured_event_by, pair_plus_one, first_number_of}
pub use Rattle.mm_numbering.specs.Listing.{number_of_first, is_zero, messages_with, lower_pair, message_digests, shared_pair_in}
pub use Rattle.mm_numbering.specs.Listing.{shared_pair_with, zero_number_in, CountsDigests, ListsMessages, pair_of}
pub use Rattle.mm_check.specs.Verdicts.{agreement_of, AreVerdicts, AreVerdictsOn, StageConcludes, difference_from, end_difference}
pub use Rattle.mm_check.specs.Verdicts.{first_difference, is_found, run_lines, RunsBehind}
pub use Rattle.mm_check.specs.declared.verdicts.Premise.{Premise}
pub use Rattle.mm_check.specs.declared.verdicts.Verdicts.{Verdicts}
pub use Rattle.mm_platform.specs.declared.plan.Stop.{Stop}
pub use Rattle.mm_model.specs.Moves.{is_long}
pub use Rattle.mm_call.specs.CallOutcome.{walk_from_step, has_commit, Course, Done, End, Fails, StepFate, step_moves, walk, StepsWalk}
pub use Rattle.mm_outcome.specs.EventOffers.{offered_bytes}

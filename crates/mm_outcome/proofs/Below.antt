-- The words and laws that the proofs of this crate take from specs/ and from the crates below.
pub use Rattle.std.specs.List.{AllByRecursion, Contains, flat_map, range_with_len}
pub use Rattle.std.specs.Prelude.{◌==◌, All, bit_xor, codes, filter, if◌then◌else◌, nat_eq, replicate, slice_index}
pub use Rattle.std.specs.Str.{bytes_eq}
pub use Rattle.std.proofs.Common.{◌%◌, ◌&&◌, ◌*◌, ◌++◌, ◌+◌, ◌-◌, ◌/◌, ◌<◌, ◌∙◌, ◌∷◌, ◌≡◌, ◌≤◌, [], add-one, add_assoc, ap, append_assoc}
pub use Rattle.std.proofs.Common.{arith, Bool, cond, drop, Err, false, get_or, inl, inr, IsTrue, length, length-append, length-drop, List}
pub use Rattle.std.proofs.Common.{map, nat_le, None, Ok, Option, refl, Result, Some, subst, suc, sym, take, true, zero, zero-add, ℕ}
pub use Rattle.std.proofs.lemmas.Bool.{and_parts}
pub use Rattle.std.proofs.lemmas.Bool.Decides.{nat_tests}
pub use Rattle.std.proofs.lemmas.List.{append-nil, ext_get_or, set_split}
pub use Rattle.std.proofs.lemmas.List.Elements.{All-cons, All-nil, Contains-append_left}
pub use Rattle.sha2.specs.Sha256.{add_state, digest_bytes, first_words, initial_hash_256, next_word, padded_message, rounds}
pub use Rattle.mm_bytes.specs.Limits.{last_position, longest_request, most_members}
pub use Rattle.mm_digest.specs.Messages.{anchored_message, anchored_digest_of, extended_message, start_message, zero_bytes}
pub use Rattle.mm_digest.specs.declared.variant.Variant.{Variant}
pub use Rattle.mm_digest.specs.declared.variant.Variant.TheVariants.{Basic, Opt}
pub use Rattle.mm_seal.specs.Parts.{parts_of}
pub use Rattle.mm_seal.specs.FieldLaws.{sealed_parts}
pub use Rattle.mm_seal.specs.Snapshot.{Content, IsContent, offered_snapshot_of, Snapshot, tag_of, variant_of}
pub use Rattle.mm_seal.specs.declared.snapshot.PartsFault.{PartsFault}
pub use Rattle.mm_seal.specs.declared.snapshot.PartsFault.TheVariants.{Form, Kind}
pub use Rattle.mm_seal.specs.declared.snapshot.Place.TheVariants.{Opt as InOpt}
pub use Rattle.mm_platform.specs.declared.fault.StepFault.{StepFault}
pub use Rattle.mm_platform.specs.declared.plan.Meddle.{Meddle}
pub use Rattle.mm_platform.specs.declared.plan.Stop.{Stop}
pub use Rattle.mm_platform.specs.declared.plan.Stop.TheVariants.{Cut, Quiet}
pub use Rattle.mm_module.specs.Batch.{Batch, members_of, normal_batch, One, size_of}
pub use Rattle.mm_module.specs.RunLaws.{members_of-normal, counter_is_lawful, length-outputs_from, state_after-is_spelled}
pub use Rattle.mm_module.specs.Meaning.{counter, IsLawful, Meaning, outputs_from, state_after}
pub use Rattle.mm_model.specs.Chains.{guard, guard_message, link_message, Instance, basic_instance, opt_instance}
pub use Rattle.mm_model.specs.FormLaws.{first_outside, first_sound, reads_zero}
pub use Rattle.mm_model.specs.History.{Close, Commit, first_history, Foreign, History, items_of_all, Move, history_after, Own, Placed}
pub use Rattle.mm_model.specs.History.{Power as PowerMove, requests_of, Reset, total_of, Value, ask_steps, Changes, checkpoint_steps, Reads}
pub use Rattle.mm_model.specs.History.{DeviceStep, Writes}
pub use Rattle.mm_model.specs.Verdicts.{is_last, verdict_on, verdict_by_tests}
pub use Rattle.mm_model.specs.Standing.{has_value, is_lost, Life, life_of, Live, anchor_after, content_of_issue}
pub use Rattle.mm_model.specs.Standing.{content_of_issue as content_issued, issued_place, NamesPosition, digest_of, IsSound, IsGenuine}
pub use Rattle.mm_model.specs.Standing.{issued_bytes}
pub use Rattle.mm_model.specs.ListLaws.{each_append, each_left, each_right, each_self}
pub use Rattle.mm_model.specs.Moves.{is_long, digests_after_commit, Digests, digests_after}
pub use Rattle.mm_model.specs.Messages.{AreNoGuards, form_messages, history_messages, IsClear, offer_messages, AreMessagesIn}
pub use Rattle.mm_model.specs.declared.refusal.Refusal.{Refusal}
pub use Rattle.mm_model.specs.declared.verdict.Verdict.TheVariants.{Fresh}
pub use Rattle.mm_model.proofs.Above.{basic_issued, basic_names, opt_issued, opt_names, outside_moved, sound_moved}
pub use Rattle.mm_call.specs.WalkLaws.{checkpoint_none, closed_kept, opt_closes, asks, batch, call_commits, Commits, commits-none}
pub use Rattle.mm_call.specs.WalkLaws.{commits_batch, foreign_move_values-append, foreign_move_values-first, foreign_move_values-foreign}
pub use Rattle.mm_call.specs.WalkLaws.{moves_from_reset-foreign, messages-made, nothing, seen_none, history_with_values, taking_is}
pub use Rattle.mm_call.specs.CallPremises.{counted_moves, counted_part, foreign_move_values, moves_from_reset, IsPlain, IsWithin}
pub use Rattle.mm_call.specs.CallPremises.{messages_of_moves, right_messages}
pub use Rattle.mm_call.specs.CallOutcome.{Answers, Breaks, CallOutcome, call_outcome, call_ending_by, CallEnding, reading_steps, state_seen}
pub use Rattle.mm_call.specs.CallOutcome.{call_outcome_with, position_if_committed, walk_from_step, has_close, has_commit, Course, Done}
pub use Rattle.mm_call.specs.CallOutcome.{End, Fails, StepFate, moves_seen, step_moves, walk, StepsWalk}
pub use Rattle.mm_call.specs.Checkpoints.{CheckpointOutcome, checkpoint_outcome, CheckpointEnding, IsSameCheckpoint, Stops}
pub use Rattle.mm_call.specs.Checkpoints.{checkpoint_outcome_with}
pub use Rattle.mm_call.specs.CallFinding.{CallFinding, finding_at, finding_by_verdict, right_content, finding_unless_wanting, finding_with}
pub use Rattle.mm_call.specs.CallFinding.{is_fresh, state_after_moves, digest_level, list_level, Level, check_of_verdict, check_of_offer}
pub use Rattle.mm_call.specs.CallFinding.{check_by_tests}
pub use Rattle.mm_call.specs.Laws.{IsSameCall}
pub use Rattle.mm_call.specs.OfferLaws.{agrees-moved, anchor-nil, committed_batches, more_batches, plain-moved, same_batches, summary-nil}
pub use Rattle.mm_call.specs.Standing.{instance_by}
pub use Rattle.mm_call.proofs.Above.{admitted_tells, again_of, AllMay, AreOwn, ask_may, bare, basic_checkpoint_same, basic_same, before}
pub use Rattle.mm_call.proofs.Above.{each_at, first_in, foreign_fine, foreign_may, found_with_tells, fresh_of, holds_moved, holds_open}
pub use Rattle.mm_call.proofs.Above.{listed_bare, live_found, may_of, not_lost, opt_agrees_moved, opt_calls_agree_by_lists}
pub use Rattle.mm_call.proofs.Above.{opt_checkpoints_agree_by_lists, own_asked, own_checked, plain_outside, power_brings, power_fine}
pub use Rattle.mm_call.proofs.Above.{power_may, read_moves, Ready, ready_closing, requests-push, reset, reset_messages, said_last, Shape}
pub use Rattle.mm_call.proofs.Above.{shape, sight, sight_is, unlacked, unless_lost, walk_fine, weighed_tells, within_items, within_of}
pub use Rattle.mm_call.proofs.OptShapes.{still}
pub use Rattle.mm_schedule.specs.Events.{Ask, Checkpoint, Event, Extend, Power}
pub use Rattle.mm_schedule.specs.Replies.{IsStepWithoutBatch, IsTold, IsEventRun, IsRunStep, IsBatchStep}
pub use Rattle.mm_schedule.specs.declared.event.Offer.TheVariants.{Last}
pub use Rattle.mm_schedule.specs.declared.reply.Reply.{Reply}
pub use Rattle.mm_schedule.specs.declared.reply.Way.{Way}
pub use Rattle.mm_outcome.specs.Premises.{moves_after_stop, ask_event_outcome, checkpoint_event_outcome, closing_reply}
pub use Rattle.mm_outcome.specs.Premises.{moves_after_checkpoint, course_of, event_outcome, outcome_by_lists, first_digests}
pub use Rattle.mm_outcome.specs.Premises.{first_snapshots, outcome_of_events, RunOutcome, moves_after_call, Outcome, outcome_by}
pub use Rattle.mm_outcome.specs.Premises.{outcome_by_digests, reply_of, snapshots_of, outcome_without_call, way_of, AreApartIn, AreGenuine}
pub use Rattle.mm_outcome.specs.Premises.{batches_of, event_messages, event_foreign_values, IsClearRun, IsGenuineEvent, IsGenuineRun}
pub use Rattle.mm_outcome.specs.Premises.{messages_from, moves_of, asked_batches, foreign_values, IsGenuineOffer, run_messages}
pub use Rattle.mm_outcome.specs.OneRun.{world_barrier, world_key, EventsAgree, EventsKeepNames, IsSameOutcome, IsSoundIn, KeepsHistory}
pub use Rattle.mm_outcome.specs.OneRun.{KeepsNames}
pub use Rattle.mm_outcome.specs.Laws.{after_two_segments, AgreesThroughout, outcome_joined_to, ExpectedRuns, IsExpected, IsIssued}
pub use Rattle.mm_outcome.specs.Laws.{IssuedNamePositions, one_ask, two_segments}
pub use Rattle.mm_outcome.specs.EventOffers.{bytes_with_flipped_bit, offered_bytes}

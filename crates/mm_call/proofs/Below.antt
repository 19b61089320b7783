-- The words and laws that the proofs of this crate take from specs/ and from the crates below.
pub use Rattle.std.specs.List.{AllByRecursion, Contains, fold}
pub use Rattle.std.specs.Option.{option_map}
pub use Rattle.std.specs.Prelude.{if◌then◌else◌, IsSome, nat_eq, nat_le, not, ◌==◌}
pub use Rattle.std.specs.Str.{bytes_eq}
pub use Rattle.std.proofs.Common.{[], ap, append_assoc, arith, Bool, drop, Err, false, IfOk, inl, inr, IsTrue, length}
pub use Rattle.std.proofs.Common.{List, map, None, Ok, Option, refl, Result, Some, subst, suc, sym, true, ℕ, ◌&&◌, ◌++◌, ◌+◌, ◌-◌, ◌∙◌}
pub use Rattle.std.proofs.Common.{◌∷◌, ◌≡◌, ◌≤◌, ◌⊎◌}
pub use Rattle.std.proofs.lemmas.List.{append-nil, map-append}
pub use Rattle.mm_bytes.specs.Limits.{next_count, last_position, limit_of}
pub use Rattle.mm_digest.specs.Messages.{extended_message, extended_digest_of, start_digest_of, zero_bytes}
pub use Rattle.mm_digest.specs.declared.variant.Variant.{Variant}
pub use Rattle.mm_digest.specs.declared.variant.Variant.TheVariants.{Basic, Opt}
pub use Rattle.mm_seal.specs.Parts.{parts_of}
pub use Rattle.mm_seal.specs.Snapshot.{Content, sealed_snapshot_of, Snapshot, tag_of}
pub use Rattle.mm_seal.specs.declared.snapshot.Place.{Place}
pub use Rattle.mm_seal.specs.declared.snapshot.Place.TheVariants.{Basic as InBasic, Opt as InOpt}
pub use Rattle.mm_platform.specs.Standing.{foreign_item, Item, item_values, own_item, Plan, plan_after, Standing, Act, StepGoes, is_on_at}
pub use Rattle.mm_platform.specs.Standing.{is_on_by_plan}
pub use Rattle.mm_platform.specs.declared.fault.StepFault.{StepFault}
pub use Rattle.mm_module.specs.Batch.{Batch, members_of, normal_batch, One, size_of}
pub use Rattle.mm_module.specs.Batches.{batch_of}
pub use Rattle.mm_module.specs.Meaning.{IsLawful, Meaning, outputs_from, state_after, state_from}
pub use Rattle.mm_module.specs.RunLaws.{length-outputs_from, outputs_from-append, state_after-append, state_from-is_spelled}
pub use Rattle.mm_model.specs.BatchLaws.{at_the_end, before_the_last, requests-push, total-push}
pub use Rattle.mm_model.specs.ListLaws.{after-append, trail-append, trail_push, register-push, register_folds, summary-push, each_append}
pub use Rattle.mm_model.specs.ListLaws.{each_left, each_right, each_self}
pub use Rattle.mm_model.specs.Chains.{digest_after, guard, guard_message, link, link_message, register_of, summary_of, trail, own_values}
pub use Rattle.mm_model.specs.Chains.{Instance, basic_instance, opt_instance}
pub use Rattle.mm_model.specs.FormLaws.{reads_zero}
pub use Rattle.mm_model.specs.History.{Close, Commit, history_after_commit, RegisterEntry, first_history, Foreign, History, items_of_all}
pub use Rattle.mm_model.specs.History.{Move, history_after, Own, Placed, Placed as PlacedMove, Power, register_value_of}
pub use Rattle.mm_model.specs.History.{entries_with_last_batch, requests_of, Reset, total_of, Value, values_of as entry_values, ask_steps}
pub use Rattle.mm_model.specs.History.{Changes, checkpoint_steps, Reads, DeviceStep, Writes}
pub use Rattle.mm_model.specs.SegmentLaws.{own_values-append, renamed-push, values_of-own, values_renamed}
pub use Rattle.mm_model.specs.Verdicts.{is_last, verdict_on, verdict_by_tests}
pub use Rattle.mm_model.specs.Standing.{are_own, has_value, is_empty, is_lost, Life, life_by, life_of, Live, IsPlaceOf, content_of_issue}
pub use Rattle.mm_model.specs.Standing.{issued_place, NamesPosition, digest_of, batches_in, IsSound, IsGenuine, IsRight, issued_bytes}
pub use Rattle.mm_model.specs.Standing.{register_reading, RegisterStands, StandsFor}
pub use Rattle.mm_model.specs.Messages.{AreNoGuards, counted_entries, history_messages, IsClear, IsClearFor, messages_for_move}
pub use Rattle.mm_model.specs.Messages.{offer_messages, values_in, AreMessagesIn, move_messages}
pub use Rattle.mm_model.specs.Moves.{batch_messages, MoveBrings, digests_after_commit, Digests, digests_of, IsAllowed, IsOpening, IsOutside}
pub use Rattle.mm_model.specs.Moves.{digests_after, MayMove}
pub use Rattle.mm_model.specs.declared.answer.BatchAnswer.{BatchAnswer}
pub use Rattle.mm_model.specs.declared.refusal.Refusal.{Refusal}
pub use Rattle.mm_model.specs.declared.refusal.Refusal.TheVariants.{Device, Long, Memory}
pub use Rattle.mm_model.proofs.Above.{basic_names, fresh_lists, items_messages, live_parts, LiveParts, lost_is_zero, opt_digests}
pub use Rattle.mm_model.proofs.Above.{opt_is_judged, opt_messages, opt_names, outside_moved, point_items, sound_items, sound_moved}
pub use Rattle.mm_call.specs.WalkLaws.{closes-foreign, closes_first, commit_keeps, EachMove, GoesAlong, opt_closes, walk_along, asks, batch}
pub use Rattle.mm_call.specs.WalkLaws.{call_commits, steps_of_change, Commits, commits-none, committed-foreign, finished_walk}
pub use Rattle.mm_call.specs.WalkLaws.{foreign_first, foreign_move_values-append, foreign_move_values-first, foreign_move_values-foreign}
pub use Rattle.mm_call.specs.WalkLaws.{foreign_made, moves_from_reset-foreign, made-append, messages-made, nothing, opt_commits}
pub use Rattle.mm_call.specs.WalkLaws.{history_with_values, taking_is}
pub use Rattle.mm_call.specs.CallFinding.{answer_at, answer_on, HistoryGrows, grown, kept, CallFinding, finding_at, finding_by_verdict}
pub use Rattle.mm_call.specs.CallFinding.{right_content, finding_unless_wanting, finding_with, is_fresh, CountsHandedFault, IsUntouched}
pub use Rattle.mm_call.specs.CallFinding.{CallLeavesUntouched, DigestsAgree, state_after_moves, digest_level, list_level, Level}
pub use Rattle.mm_call.specs.CallFinding.{place_after_batch, fault_in, fault_of}
pub use Rattle.mm_call.specs.CallPremises.{counted_moves, counted_part, foreign_move_values, moves_from_reset, IsAsked, IsPlain, IsWithin}
pub use Rattle.mm_call.specs.CallPremises.{messages_of_moves, right_messages, AreAsked, AreShown, IsIdle, foreign_items, OptMovesAreTied}
pub use Rattle.mm_call.specs.CallPremises.{shows, standing_items, MovesAreTied}
pub use Rattle.mm_call.specs.CallOutcome.{Answers, Breaks, call_outcome, CallOutcome, call_outcome_by, outcome_of_walk, call_ending_by}
pub use Rattle.mm_call.specs.CallOutcome.{CallEnding, result_of_ending, position_of, state_seen, call_outcome_with, position_if_committed}
pub use Rattle.mm_call.specs.CallOutcome.{walk_from_step, has_close, has_commit, Course, Done, End, Fails, StepFate, fate_by_plan}
pub use Rattle.mm_call.specs.CallOutcome.{step_moves, walk, StepsWalk}
pub use Rattle.mm_call.specs.CallKind.{IsCallToEnd, breaks_off, CallKind, IsWholeCall, committed_position, EndsByFinding, goes_on}
pub use Rattle.mm_call.specs.CallKind.{IsCallSoFar, AreStepsToEnd, CallContinues, IsCallOnCourse, CallGoesBy, EndsAsCall, end_by_fault}
pub use Rattle.mm_call.specs.CallKind.{is_broken, KeepsPosition, kept_position, end_of_refusal, result_of, PlatformStaysOn}
pub use Rattle.mm_call.specs.Laws.{BasicCallsAgree, CallsAgree, IsSame, IsSameCall, OptCallsAgree}
pub use Rattle.mm_call.specs.TellingLaws.{blamed, blamed_later, AreMet, begins_at, IsAt, fates_before_plan, met_at, room_at, stepped}
pub use Rattle.mm_call.specs.TellingLaws.{then_at, told_by, trail_fails, trail_on}
pub use Rattle.mm_call.specs.OfferLaws.{agrees-made, batches-made, committed_batches, IsBasicMove, more_batches, plain-made, same_batches}
pub use Rattle.mm_call.specs.OfferLaws.{asked_by, MovesCount, counts_open, same_rest}
pub use Rattle.mm_call.specs.Standing.{cell_at, instance_by, RegisterStandsAt, items_after_moves, items_after_move, StandsAt, MakesStep}
pub use Rattle.mm_call.specs.Standing.{RestFollows, StepIsMade, IsTrail}
pub use Rattle.mm_call.specs.TrailLaws.{leads, shown-append}
pub use Rattle.mm_call.specs.declared.ended.AskResult.{AskResult}
pub use Rattle.mm_call.specs.declared.ended.AskResult.TheVariants.{Answered, Broken, Refused}

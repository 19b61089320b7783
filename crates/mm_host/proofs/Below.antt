-- The words and laws that the proofs of this crate take from specs/ and from the crates below.
pub use Rattle.std.specs.Io.KnownBytes.{Consumes, IsAtEnd}
pub use Rattle.std.specs.List.{AllByRecursion, Contains, fold}
pub use Rattle.std.specs.Prelude.{◌⊎◌, if◌then◌else◌, is_some, nat_eq}
pub use Rattle.std.proofs.Common.{◌%◌, ◌++◌, ◌+◌, ◌-◌, ◌<◌, ◌||◌, ◌∙◌, ◌∷◌, ◌≡◌, ◌≢◌, ◌≤◌, [], ap, append_assoc, arith, Bool, drop, Err}
pub use Rattle.std.proofs.Common.{false, IfOk, inl, inr, IsSome, length, length-append, length-take, List, map, None, Ok, Option, refl}
pub use Rattle.std.proofs.Common.{Result, Some, subst, suc, sym, take, take-append-drop, true, ℕ}
pub use Rattle.std.proofs.KnownBytes.{Appends-nil, Appends-trans, Consumes-nil, Consumes-trans}
pub use Rattle.std.proofs.lemmas.Bool.Decides.{nat_tests}
pub use Rattle.std.proofs.lemmas.List.{append-nil, append_cancel_left, append_cancel_right, take_all}
pub use Rattle.std.proofs.lemmas.Result.{err_from_is_err_and}
pub use Rattle.mm_base.specs.Input.{IsUnbroken, joined_lines, lines_of, lines_with_front, tail_with_front, tail_of, IsLong, IsLineFront}
pub use Rattle.mm_base.specs.InputLaws.{lines_of-append, lines_of-joined, lines_of-line, tail_of-append, tail_of-joined, tail_of-unbroken}
pub use Rattle.mm_bytes.specs.Limits.{last_position, longest_request}
pub use Rattle.mm_base.specs.declared.replay_fault.ReplayFault.TheVariants.{BadLine, LineLong, Memory, TooMuch, WriteFault}
pub use Rattle.mm_digest.specs.Messages.{extended_message, zero_bytes}
pub use Rattle.mm_digest.specs.declared.variant.Variant.{Variant}
pub use Rattle.mm_digest.specs.declared.variant.Variant.TheVariants.{Basic, Opt}
pub use Rattle.mm_seal.specs.Parts.{parts_of}
pub use Rattle.mm_seal.specs.FieldLaws.{sealed_once, sealed_parts}
pub use Rattle.mm_seal.specs.Snapshot.{Content, IsContent, offered_snapshot_of, sealed_snapshot_of, tag_of}
pub use Rattle.mm_seal.specs.declared.snapshot.Place.TheVariants.{Basic as InBasic, Opt as InOpt}
pub use Rattle.mm_platform.specs.Standing.{foreign_item, Item, Standing}
pub use Rattle.mm_platform.specs.declared.fault.StepFault.{StepFault}
pub use Rattle.mm_module.specs.Batch.{Batch, One, normal_batch}
pub use Rattle.mm_module.specs.Meaning.{IsLawful, Meaning}
pub use Rattle.mm_model.specs.BatchLaws.{total-nil}
pub use Rattle.mm_model.specs.Chains.{digest_after, summary_of, trail, Instance, basic_instance, opt_instance}
pub use Rattle.mm_model.specs.History.{Commit, history_after_commit, RegisterEntry, first_history, Foreign, History, history_after, Own}
pub use Rattle.mm_model.specs.History.{register_value_of, requests_of, total_of, Value}
pub use Rattle.mm_model.specs.SegmentLaws.{has_value-append}
pub use Rattle.mm_model.specs.Standing.{are_own, has_value, is_empty, Life, life_by, life_of, Lost as LostLife, Spoiled, anchor_after}
pub use Rattle.mm_model.specs.Standing.{at_anchor, in_closed, in_current, IsPlaceOf, IsPoint, content_of_issue, NamesPosition, digest_of}
pub use Rattle.mm_model.specs.Standing.{AreItems, batches_in, IsSound, IsGenuine, IsRight, issued_bytes, StandsFor}
pub use Rattle.mm_model.specs.Messages.{AreNoGuards, counted_entries, IsClear, values_in, AreMessagesIn}
pub use Rattle.mm_model.specs.Moves.{Digests, digests_of, IsOutside}
pub use Rattle.mm_model.specs.declared.answer.Answer.{Answer}
pub use Rattle.mm_model.specs.declared.answer.BatchAnswer.{BatchAnswer}
pub use Rattle.mm_model.specs.declared.refusal.Refusal.{Refusal}
pub use Rattle.mm_model.proofs.Above.{opt_digests}
pub use Rattle.mm_call.specs.CallFinding.{answer_on, finding_at, right_content, CountsHandedFault, batch_answer_of, batch_result_of}
pub use Rattle.mm_call.specs.CallFinding.{state_after_moves, digest_level, list_level, fault_of}
pub use Rattle.mm_call.specs.CallPremises.{counted_part, IsLedTo, IsWithin, messages_of_moves, AreAsked, AreShown, IsIdle, foreign_items}
pub use Rattle.mm_call.specs.CallPremises.{standing_items}
pub use Rattle.mm_call.specs.CallKind.{IsCallOnCourse}
pub use Rattle.mm_call.specs.OfferLaws.{listed_by, one_content, opt_content as issued_content, right_is, right_of}
pub use Rattle.mm_call.specs.Standing.{items_after_moves, StandsAt}
pub use Rattle.mm_call.specs.WalkLaws.{asks, history_with_values, taking_is}
pub use Rattle.mm_call.proofs.Above.{agrees_is, Alike, alike_commit, answered_at, bare, clean_open, counted_open, flag_kept, foreign_agrees}
pub use Rattle.mm_call.proofs.Above.{foreign_all, foreign_may, foreign_messages, grown_by, Hands, hands, holds_made, holds_open, idle_again}
pub use Rattle.mm_call.proofs.Above.{is_agrees, issued_alike, names_after, names_alike, opened, pushed_open, requests-push, said_last}
pub use Rattle.mm_call.proofs.Above.{same_closed, shown_back, shown_front, shown_shut, stands_at, stands_for, unless_idle, within_items}
pub use Rattle.mm_call.proofs.Above.{within_of}
pub use Rattle.mm_call.proofs.OptAlike.{still}
pub use Rattle.mm_schedule.specs.Replies.{IsBatchStep}
pub use Rattle.mm_store.specs.StoreStanding.{slots_with_bytes, ReadsSlot, WritesSlot, StoreStanding, longest_slot, slot_front, Slots}
pub use Rattle.mm_store.specs.StoreStanding.{slots_with}
pub use Rattle.mm_store.specs.PendingRecord.{PendingRecord, pending_spelling, ReadsPendingRecord}
pub use Rattle.mm_store.specs.declared.fault.StoreFault.{StoreFault}
pub use Rattle.mm_store.proofs.Above.{longest_slot-is, one_reading}
pub use Rattle.mm_recovery.specs.HostStanding.{IsCall, HostStanding, host_standing, first_offer, FitsBy, FitsHistory, IsSnapshotAt}
pub use Rattle.mm_recovery.specs.HostStanding.{IsAwaited, offer_slot, IsSized, position_at, snapshot_at, HostGoesAfterRecord}
pub use Rattle.mm_recovery.specs.HostStanding.{AsksNextRequest, record_for, AsksAndKeepsAnswer, HostGoesAfterAsk, HostGoesAfterFinding}
pub use Rattle.mm_recovery.specs.HostStanding.{HostGoesAfterOffer, result_of_keep, HostResumes, result_of_start, IsWaiting, later_record}
pub use Rattle.mm_recovery.specs.CellWrites.{refusal_fault, store_fault_as}
pub use Rattle.mm_recovery.specs.Recovery.{AnswersAt, AsksIdly, CanRecover, IsGrown, IsRefusedAs, RequestMayBeCommitted, RecoversTo}
pub use Rattle.mm_recovery.specs.declared.fault.HostFault.{HostFault}
pub use Rattle.mm_recovery.specs.declared.resuming.Resumed.{Resumed}
pub use Rattle.mm_recovery.specs.declared.resuming.Resumed.TheVariants.{Answered, Start}
pub use Rattle.mm_recovery.proofs.Above.{answered_writes, AnsweredWrites, ask_exit, asked_at, basic_content, basic_met, both_writes}
pub use Rattle.mm_recovery.proofs.Above.{by_refusal, CameWrites, counted_most, grows, holds_issued, IsGrownBy, IsSame, issued_in_opt}
pub use Rattle.mm_recovery.proofs.Above.{joined, leads_rest, left_by, length-pending_spelling, Met, new_most, next_came, next_told, NoMore}
pub use Rattle.mm_recovery.proofs.Above.{not_lost, one_more, one_waiting, opt_grown, opt_met, opt_met_idle, recovers_by, refusal_told}
pub use Rattle.mm_recovery.proofs.Above.{rests, resumes_came, beyond_none, Enters, fits_on, found_full, IsMade, resumes_told, Saw, saw_two}
pub use Rattle.mm_recovery.proofs.Above.{Told, waiting_most, was_powered}
pub use Rattle.mm_host.specs.AnySlots.{history_after_answer, AreAmong, AreAskedInTurn, AsksNothingNew, EndsRun, MayStart, offer_after}
pub use Rattle.mm_host.specs.AnySlots.{requests_with, RunsOnce, RunsOnceFrom, SessionRunsOnce, ContinuesFrom, MayGoOn, SessionContinues}
pub use Rattle.mm_host.specs.Continuation.{answer_reply, AreNewFrom, AreToldOnce, ContinuesTo, HasUntoldRequest, IsInHand}
pub use Rattle.mm_host.specs.Continuation.{IsNotBeyond, RequestMayBeUntold, RefusesAs, CallsRunOver, RunsTo, first_served_call}
pub use Rattle.mm_host.specs.Continuation.{served_calls_in}
pub use Rattle.mm_host.specs.Continuation.{waiting_position}
pub use Rattle.mm_host.specs.Sessions.{host_of, SessionStanding, session_standing, place_of, session_result_of, refusal_text, reply_text}
pub use Rattle.mm_host.specs.Sessions.{SendsReply, TellsReply, told_cause, served_lines, SessionPlace, replies_to, ServedCall, ServesCalls}
pub use Rattle.mm_host.specs.Sessions.{SessionGoesAfterResume, BytesBeginWith, turn_answer_of, IsAtRest, most_lines, IsSession}
pub use Rattle.mm_host.specs.Sessions.{SessionStopsAtOnce, SessionStopsInLine, AsksAndTells, TurnGoes, ServesInput, ServesLine, ServesNext}
pub use Rattle.mm_host.specs.Sessions.{TurnSends}
pub use Rattle.mm_host.specs.declared.fault.SessionFault.{SessionFault}
pub use Rattle.mm_host.specs.declared.fault.SessionFault.TheVariants.{Host, Lines}

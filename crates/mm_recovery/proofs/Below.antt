-- The words and laws that the proofs of this crate take from specs/ and from the crates below.
pub use Rattle.std.specs.Io.KnownBytes.{Consumes, IsAtEnd}
pub use Rattle.std.specs.List.{Contains, list_any}
pub use Rattle.std.specs.Option.{option_map}
pub use Rattle.std.specs.Prelude.{◌⊎◌, if◌then◌else◌, nat_eq, nat_le, nat_lt}
pub use Rattle.std.specs.Str.{bytes_eq}
pub use Rattle.std.proofs.Common.{◌%◌, ◌&&◌, ◌++◌, ◌+◌, ◌-◌, ◌<◌, ◌∙◌, ◌∷◌, ◌≡◌, ◌≢◌, ◌≤◌, [], ap, arith, Bool, drop, Err, false, IfOk, inl}
pub use Rattle.std.proofs.Common.{inr, length, length-append, length-drop, length-take, List, map, None, Ok, Option, refl, Result, rules}
pub use Rattle.std.proofs.Common.{Some, subst, suc, sym, take, true, zero, ℕ}
pub use Rattle.std.proofs.Math.Seq.{take-add, take-nil}
pub use Rattle.std.proofs.lemmas.Bool.Decides.{nat_tests}
pub use Rattle.std.proofs.lemmas.List.{take_all}
pub use Rattle.sha2.proofs.Facts256.{length-sha256}
pub use Rattle.mm_bytes.specs.Limits.{next_count, CountRose, last_position, longest_request}
pub use Rattle.mm_base.proofs.Above.{Consumes-both}
pub use Rattle.mm_digest.specs.LengthLaws.{length-zero_bytes}
pub use Rattle.mm_digest.specs.Messages.{start_message}
pub use Rattle.mm_digest.specs.declared.variant.Variant.{Variant}
pub use Rattle.mm_digest.specs.declared.variant.Variant.TheVariants.{Basic, Opt}
pub use Rattle.mm_seal.specs.Cell.{blank_cell, cell_spelling, IsCell, ReadsCell, SpellsCell}
pub use Rattle.mm_seal.specs.Snapshot.{Content, IsContent, offered_snapshot_of, Snapshot, tag_of, variant_of}
pub use Rattle.mm_seal.specs.declared.snapshot.PartsFault.{PartsFault}
pub use Rattle.mm_platform.specs.Standing.{Item, item_values, register_after as folded_of, Standing, cell_after, DeviceStepEnds, WriteCell}
pub use Rattle.mm_platform.specs.declared.fault.StepFault.{StepFault}
pub use Rattle.mm_module.specs.Batch.{Batch, One}
pub use Rattle.mm_module.specs.Meaning.{IsLawful, Meaning}
pub use Rattle.mm_model.specs.BatchLaws.{before_the_last, total-push}
pub use Rattle.mm_model.specs.Chains.{guard, register_of, Instance, basic_instance, opt_instance}
pub use Rattle.mm_model.specs.Moves.{IsFit, is_long, digests_of, IsAllowed}
pub use Rattle.mm_model.specs.History.{Commit, history_after_commit, RegisterEntry, first_history, Foreign, History, items_of_all, Move}
pub use Rattle.mm_model.specs.History.{history_after, entries_with_last_batch, requests_of, Reset, total_of, Value, ask_steps, Reads}
pub use Rattle.mm_model.specs.Standing.{are_own, has_value, is_empty, is_lost, Life, life_by, life_of, Lost as LostLife, content_of_issue}
pub use Rattle.mm_model.specs.Standing.{issued_place, NamesPosition, IsSound, cell_of, IsGenuine, IsRight, issued_bytes, StandsFor}
pub use Rattle.mm_model.specs.declared.answer.Answer.{Answer}
pub use Rattle.mm_model.specs.declared.answer.BatchAnswer.{BatchAnswer}
pub use Rattle.mm_model.specs.declared.refusal.Refusal.{Refusal}
pub use Rattle.mm_model.specs.declared.refusal.Refusal.TheVariants.{Device, Full, Long, Lost, Memory}
pub use Rattle.mm_model.proofs.Above.{basic_issued, basic_names, opt_issued, opt_names}
pub use Rattle.mm_call.specs.CallPremises.{IsAsked, IsWithin, StepsAnswered, StepsBy, StepsFrom, StepsRefused, CellIsWrittenAtMostOnce}
pub use Rattle.mm_call.specs.CallPremises.{AreAsked, AreShown, IsIdle}
pub use Rattle.mm_call.specs.Checkpoints.{AskPromise}
pub use Rattle.mm_call.specs.CallOutcome.{call_outcome, call_ending_by, result_of_ending, reading_steps, state_seen, walk_from_step}
pub use Rattle.mm_call.specs.CallOutcome.{has_commit, Course, End, StepFate, moves_seen, walk, StepsWalk}
pub use Rattle.mm_call.specs.CallKind.{breaks_off, EndsByFinding, goes_on, CallContinues, IsCallOnCourse, result_of, CallReads}
pub use Rattle.mm_call.specs.CallFinding.{HistoryGrows, grown, kept, CallFinding, finding_at, finding_by_verdict, finding_unless_wanting}
pub use Rattle.mm_call.specs.CallFinding.{finding_with, is_fresh, CountsHandedFault, batch_answer_of, batch_result_of, state_after_moves}
pub use Rattle.mm_call.specs.CallFinding.{digest_level, list_level, check_of_verdict, fault_in, fault_of, IsOrMemory}
pub use Rattle.mm_call.specs.OfferLaws.{more_batches, same_batches, basic_content, one_content, opt_content}
pub use Rattle.mm_call.specs.Standing.{count_after_more, instance_by}
pub use Rattle.mm_call.specs.WalkLaws.{batch, call_commits, Commits, nothing, seen_none}
pub use Rattle.mm_call.specs.declared.ended.AskResult.{AskResult}
pub use Rattle.mm_call.proofs.Above.{Alike, alike_call, AllMay, answered_clean_as, ask_may, asked_for, asked_idle, bare, basic_asked}
pub use Rattle.mm_call.proofs.Above.{basic_comes, before, names_after, names_made, opt_comes as comes, refused_result}
pub use Rattle.mm_call.proofs.Above.{fresh_found, found_with_tells, stands_at, unlacked, unless_lost, weighed_tells}
pub use Rattle.mm_machine.specs.OpSteps.{acts_for, answer_in}
pub use Rattle.mm_opt.specs.AskPromise.{opt_call}
pub use Rattle.mm_ask.specs.WholeAsk.{ask_call}
pub use Rattle.mm_store.specs.StoreStanding.{CountsFailures, slots_with_bytes, ReadsSlot, WritesSlot, StoreStanding, longest_slot}
pub use Rattle.mm_store.specs.StoreStanding.{slot_front, Slots, slots_with}
pub use Rattle.mm_store.specs.PendingRecord.{PendingRecord, pending_front, ReadsPendingRecord}
pub use Rattle.mm_store.specs.declared.fault.StoreFault.{StoreFault}
pub use Rattle.mm_store.proofs.Above.{length-pending_front, longest_slot-is, one_reading, reads_none-short, slot_in-with_slot}
pub use Rattle.mm_recovery.specs.HostStanding.{IsCall, HostStanding, host_standing, first_offer, FitsBy, FitsHistory, IsSnapshotAt}
pub use Rattle.mm_recovery.specs.HostStanding.{IsAwaited, offer_slot, HostGoesAfterRecord, AsksNextRequest, HostGoesAfterAsk}
pub use Rattle.mm_recovery.specs.HostStanding.{HostGoesAfterFinding, HostGoesAfterOffer, HostGoesAfterThree, HostGoesAfterTwo}
pub use Rattle.mm_recovery.specs.HostStanding.{result_of_keep, HostResumes, result_of_start, IsWaiting, later_record}
pub use Rattle.mm_recovery.specs.FirstStart.{InstanceBegins, BlamesDevice, first_history_on, first_slots, IsFirstStore, InitLeaves}
pub use Rattle.mm_recovery.specs.FirstStart.{ShowsValues, TellsUse, GoesAfterLooking, GoesAfterAllPuts, GoesAfterTaking, Devices}
pub use Rattle.mm_recovery.specs.FirstStart.{first_puts, InitGoes, instance_from, host_among, LooksAtCell, SlotPut, PutsAll, SetsUp}
pub use Rattle.mm_recovery.specs.FirstStart.{TakesBytes, result_of_write}
pub use Rattle.mm_recovery.specs.CellWrites.{CallWrites, is_open_after, IsNewAt, IsNewOf, LeavesFlag, AnswerLeavesFlag, new_requests_by}
pub use Rattle.mm_recovery.specs.CellWrites.{new_requests_at, openings, RequestWrites, TellsFlag, CellIsWrittenByOpening, CellIsWrittenFor}
pub use Rattle.mm_recovery.specs.CellWrites.{refusal_fault, store_fault_as}
pub use Rattle.mm_recovery.specs.Recovery.{AnswersAt, AsksIdly, CanRecover, ResumeComesTo, IsAskedFor, IsGrown, IsRefusedAs}
pub use Rattle.mm_recovery.specs.Recovery.{RequestMayBeCommitted, HostRecovers, RecoversTo}
pub use Rattle.mm_recovery.specs.declared.fault.HostFault.{HostFault}
pub use Rattle.mm_recovery.specs.declared.init_fault.InitFault.{InitFault}
pub use Rattle.mm_recovery.specs.declared.resuming.Resumed.{Resumed}
pub use Rattle.mm_recovery.specs.declared.resuming.Resumed.TheVariants.{Start}

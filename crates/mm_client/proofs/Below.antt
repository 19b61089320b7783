-- The words that the proofs of this crate take from the crates below.
pub use Rattle.mm_bytes.specs.Limits.{last_position, longest_request}
pub use Rattle.mm_base.specs.Input.{IsUnbroken, joined_lines, lines_of, IsLineFront}
pub use Rattle.mm_base.specs.InputLaws.{lines_of-joined, lines_of-line}
pub use Rattle.mm_base.specs.declared.replay_fault.ReplayFault.{ReplayFault}
pub use Rattle.mm_digest.specs.declared.variant.Variant.{Variant}
pub use Rattle.mm_platform.specs.Standing.{Standing}
pub use Rattle.mm_module.specs.Batch.{Batch, One}
pub use Rattle.mm_module.specs.Meaning.{Meaning, state_after}
pub use Rattle.mm_model.specs.Chains.{Instance, basic_instance, opt_instance}
pub use Rattle.mm_model.specs.ListLaws.{each_append, each_left, each_right}
pub use Rattle.mm_model.specs.declared.answer.Answer.{Answer}
pub use Rattle.mm_model.specs.declared.refusal.Refusal.{Refusal}
pub use Rattle.mm_schedule.specs.Replies.{IsBatchStep}
pub use Rattle.mm_schedule.specs.declared.reply.Reply.TheVariants.{Told}
pub use Rattle.mm_store.specs.StoreStanding.{ReadsSlot, WritesSlot, slots_with_bytes, Slots, longest_slot, slot_front, slots_with}
pub use Rattle.mm_store.specs.StoreStanding.{StoreStanding}
pub use Rattle.mm_store.specs.PendingRecord.{IsPending, PendingRecord, ReadsPendingRecord, pending_spelling}
pub use Rattle.mm_store.specs.declared.fault.StoreFault.{StoreFault}
pub use Rattle.mm_recovery.specs.CellWrites.{refusal_fault, store_fault_as}
pub use Rattle.mm_recovery.specs.HostStanding.{HostStanding, host_standing, position_at, AsksNextRequest, HostGoesAfterRecord, record_for}
pub use Rattle.mm_recovery.specs.HostStanding.{FindsWaitingRequest, HostGoesAfterAsk, HostGoesAfterFinding, HostGoesAfterOffer}
pub use Rattle.mm_recovery.specs.HostStanding.{HostGoesAfterThree, HostGoesAfterTwo, HostResumes, ReadsSlotThree, result_of_keep}
pub use Rattle.mm_recovery.specs.HostStanding.{result_of_start, IsWaiting, later_record, IsCall, FitsBy, FitsHistory}
pub use Rattle.mm_recovery.specs.declared.fault.HostFault.{HostFault}
pub use Rattle.mm_recovery.specs.declared.fault.HostFault.TheVariants.{Store}
pub use Rattle.mm_recovery.specs.declared.resuming.Resumed.{Resumed}
pub use Rattle.mm_recovery.specs.declared.resuming.Resumed.TheVariants.{Answered, Start}
pub use Rattle.mm_host.specs.Continuation.{AreNewFrom, AreToldOnce, CallsRunOver, HasUntoldRequest, IsInHand, IsNotBeyond, RequestMayBeUntold}
pub use Rattle.mm_host.specs.Continuation.{answer_reply, last_bytes_in, first_served_call, served_calls_in, waiting_position}
pub use Rattle.mm_host.specs.Sessions.{SessionStanding, host_of, BytesBeginWith, IsAtRest, IsSession, SendsReply, ServedCall}
pub use Rattle.mm_host.specs.Sessions.{ServesAllLines, ServesCalls, SessionGoesAfterResume, SessionPlace, SessionStops, SessionStopsInLine}
pub use Rattle.mm_host.specs.Sessions.{TurnGoes, reply_text, served_lines, session_result_of, turn_answer_of, replies_to}
pub use Rattle.mm_host.specs.declared.fault.SessionFault.{SessionFault}
pub use Rattle.mm_host.specs.declared.fault.SessionFault.TheVariants.{Host, Lines}
pub use Rattle.mm_life.specs.Deeds.{found_record, served_calls_of, IsInHandOf, Calls, Checkpoints, Deed, DeedLeads, Extends, LosesPower}
pub use Rattle.mm_life.specs.Stages.{SessionSteps, Does, Holds, IsLife, LifePart, LifeStage, PartLeads, Program, session_on, CallSteps}
pub use Rattle.mm_life.specs.Stages.{LifeFollows, PartSteps, end_of}
pub use Rattle.mm_life.specs.HonestLife.{GoesOnOver, IsNextOrLast, LeavesNoChance, PartGoesOn, WaitsInSlots, reached_position}
pub use Rattle.mm_store.proofs.Above.{longest_slot-is, one_reading, slot_in-with_slot}
pub use Rattle.mm_recovery.proofs.Above.{Saw, length-pending_spelling, one_waiting, saw_two}
pub use Rattle.mm_digest.specs.declared.variant.Variant.TheVariants.{Basic, Opt}
pub use Rattle.mm_model.specs.History.{History, requests_of, total_of}
pub use Rattle.mm_call.proofs.Above.{requests-push}
pub use Rattle.mm_evidence.proofs.Above.{clash_or}
pub use Rattle.mm_recovery.specs.FirstStart.{IsFirstStore, first_history_on, first_slots}
pub use Rattle.mm_recovery.proofs.Above.{is_first}
pub use Rattle.mm_life.specs.HonestLife.{AreNoChance, BasicLifeGoesOn, IsGoneOnWith, IsOverOneStore, OptLifeGoesOn, store_at_end}
pub use Rattle.mm_life.specs.Premises.{life_batches, life_messages, opt_messages, others_values}

-- The words that the definitions of this crate take from the crates below.
pub use Rattle.mm_bytes.specs.Limits.{last_position}
pub use Rattle.mm_digest.specs.Messages.{anchored_message, extended_message, start_message, zero_bytes}
pub use Rattle.mm_digest.specs.declared.variant.Variant.{Variant}
pub use Rattle.mm_digest.specs.declared.variant.Variant.TheVariants.{Basic, Opt}
pub use Rattle.mm_seal.specs.Snapshot.{Content}
pub use Rattle.mm_platform.specs.Standing.{Item, Standing, item_values, items_beside}
pub use Rattle.mm_platform.specs.declared.fault.StepFault.{StepFault}
pub use Rattle.mm_module.specs.Batch.{Batch, One, members_of, normal_batch, size_of}
pub use Rattle.mm_module.specs.Meaning.{IsLawful, Meaning}
pub use Rattle.mm_listing.specs.Listing.{AreSaid}
pub use Rattle.mm_modules.specs.Modules.{meaning_of}
pub use Rattle.mm_modules.specs.declared.any.AnyModule.{AnyModule}
pub use Rattle.mm_model.specs.Chains.{digest_after, Instance, basic_instance, opt_instance}
pub use Rattle.mm_model.specs.History.{History, first_history, requests_of}
pub use Rattle.mm_model.specs.Standing.{Lost, Spoiled, life_of, NamesPosition, IsGenuine, IsRight, StandsFor, issued_bytes}
pub use Rattle.mm_model.specs.Messages.{AreNoGuards, IsClear, AreMessagesIn, register_trail}
pub use Rattle.mm_model.specs.Moves.{IsFit}
pub use Rattle.mm_model.specs.declared.answer.Answer.{Answer}
pub use Rattle.mm_model.specs.declared.answer.BatchAnswer.{BatchAnswer}
pub use Rattle.mm_model.specs.declared.refusal.Refusal.{Refusal}
pub use Rattle.mm_model.specs.declared.refusal.Refusal.TheVariants.{Memory}
pub use Rattle.mm_call.specs.CallKind.{IsCallOnCourse}
pub use Rattle.mm_call.specs.CallPremises.{IsWithin, right_messages, foreign_items}
pub use Rattle.mm_call.specs.CallFinding.{batch_answer_of, batch_result_of, finding_at, right_content, list_level, fault_of}
pub use Rattle.mm_opt.specs.declared.segment.CheckpointRefusal.{CheckpointRefusal}
pub use Rattle.mm_opt.specs.declared.segment.Checkpointed.{Checkpointed}
pub use Rattle.mm_schedule.specs.Replies.{IsBatchStep, ModulePromises, tellings_in}
pub use Rattle.mm_schedule.specs.declared.reply.Reply.{Reply}
pub use Rattle.mm_store.specs.StoreStanding.{StoreStanding, Slots, slot_front}
pub use Rattle.mm_store.specs.PendingRecord.{PendingRecord}
pub use Rattle.mm_store.specs.declared.fault.StoreFault.{StoreFault}
pub use Rattle.mm_recovery.specs.HostStanding.{HostStanding, host_standing, IsCheckpoint, LeavesCell, LivesElsewhere, IsCall, FitsHistory}
pub use Rattle.mm_recovery.specs.HostStanding.{first_offer, HostGoesAfterRecord, AsksNextRequest, HostGoesAfterFinding, HostGoesAfterOffer}
pub use Rattle.mm_recovery.specs.HostStanding.{AsksAndKeepsAnswer, IsWaiting}
pub use Rattle.mm_recovery.specs.FirstStart.{first_history_on, first_slots}
pub use Rattle.mm_recovery.specs.declared.fault.HostFault.{HostFault}
pub use Rattle.mm_recovery.specs.declared.fault.HostFault.TheVariants.{Store}
pub use Rattle.mm_recovery.specs.declared.resuming.Resumed.{Resumed}
pub use Rattle.mm_host.specs.Sessions.{SessionStanding, host_of, session_standing, SessionGoesAfterResume, ServesAllLines, SessionPlace}
pub use Rattle.mm_host.specs.Sessions.{ServedCall, IsSession}
pub use Rattle.mm_host.specs.AnySlots.{MayStart}
pub use Rattle.mm_host.specs.Continuation.{AreToldOnce, HasUntoldRequest, IsInHand, IsNotBeyond, RefusesAs, CallsRunOver, answer_reply}
pub use Rattle.mm_host.specs.Continuation.{IsToldInPart, last_bytes_in, served_calls_in}
pub use Rattle.mm_host.specs.declared.fault.SessionFault.{SessionFault}

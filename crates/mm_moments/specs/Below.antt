-- The words that the definitions of this crate take from the crates below.
pub use Rattle.mm_digest.specs.declared.variant.Variant.{Variant}
pub use Rattle.mm_platform.specs.Standing.{Standing, Act, ReadCell, WriteCell, ReadRegister, PowerCycles, StepGoes}
pub use Rattle.mm_platform.specs.declared.fault.StepFault.TheVariants.{Off}
pub use Rattle.mm_module.specs.Meaning.{IsLawful, Meaning}
pub use Rattle.mm_machine.specs.OpSteps.{acts_for, answer_in, OpMeaning, OpReads}
pub use Rattle.mm_machine.specs.declared.operation.OpFinding.{OpFinding}
pub use Rattle.mm_machine.specs.declared.operation.Sight.{Sight}
pub use Rattle.mm_machine.specs.declared.reading.Halt.{Halt}
pub use Rattle.mm_model.specs.declared.answer.Answer.{Answer}
pub use Rattle.mm_model.specs.declared.answer.BatchAnswer.{BatchAnswer}
pub use Rattle.mm_model.specs.declared.refusal.Refusal.{Refusal}
pub use Rattle.mm_model.specs.declared.refusal.Refusal.TheVariants.{Device}
pub use Rattle.mm_call.specs.CallKind.{AreStepsToEnd, EndsByFinding, breaks_off, goes_on}
pub use Rattle.mm_call.specs.Standing.{count_after_more}
pub use Rattle.mm_call.specs.declared.ended.AskResult.{AskResult}
pub use Rattle.mm_ask.specs.WholeAsk.{ask_call}
pub use Rattle.mm_opt.specs.CheckpointPromise.{IsCheckpointOnCourse}
pub use Rattle.mm_opt.specs.Checkpoints.{ClosesSegment, EndsClosing, EndsLooking}
pub use Rattle.mm_opt.specs.declared.segment.CheckpointRefusal.{CheckpointRefusal}
pub use Rattle.mm_opt.specs.declared.segment.Checkpointed.{Checkpointed}
pub use Rattle.mm_opt.specs.declared.segment.Segment.{Segment}
pub use Rattle.mm_store.specs.StoreStanding.{WritesSlot, StoreStanding, Slots}
pub use Rattle.mm_store.specs.PendingRecord.{PendingRecord, pending_spelling}
pub use Rattle.mm_store.specs.declared.fault.StoreFault.{StoreFault}
pub use Rattle.mm_store.specs.declared.fault.StoreFault.TheVariants.{Failed}
pub use Rattle.mm_recovery.specs.HostStanding.{IsCall, HostStanding, host_standing, position_at, AsksNextRequest, HostGoesAfterRecord}
pub use Rattle.mm_recovery.specs.HostStanding.{record_for, AsksAndKeepsAnswer, HostGoesAfterFinding, HostGoesAfterOffer, HostResumes}
pub use Rattle.mm_recovery.specs.HostStanding.{offer_slot}
pub use Rattle.mm_recovery.specs.declared.fault.HostFault.{HostFault}
pub use Rattle.mm_recovery.specs.declared.resuming.Resumed.{Resumed}
pub use Rattle.mm_recovery.specs.declared.resuming.Resumed.TheVariants.{Answered}
pub use Rattle.mm_play.specs.Headline.{IsFrontOf}
pub use Rattle.mm_host.specs.Continuation.{first_served_call}
pub use Rattle.mm_host.specs.Sessions.{SessionStanding, session_standing, IsSession, ServedCall, ServesAllLines, ServesCalls}
pub use Rattle.mm_host.specs.Sessions.{SessionGoesAfterResume, SessionPlace, replies_to, reply_text}
pub use Rattle.mm_host.specs.declared.fault.SessionFault.{SessionFault}
pub use Rattle.mm_life.specs.Deeds.{LifeCall, call_of, IsInHandOf, first_bytes, first_calls, found_host, found_record, line_calls}
pub use Rattle.mm_life.specs.Deeds.{served_calls_of, session_calls, told_calls}
pub use Rattle.mm_schedule.specs.declared.reply.Reply.{Reply}
pub use Rattle.mm_host.specs.Continuation.{IsNotBeyond}
pub use Rattle.mm_life.specs.HonestLife.{LeavesNoChance, WaitsInSlots, reached_position}
pub use Rattle.mm_life.specs.Stages.{part_replies, told_replies, Holds, IsLife, LifePart, LifeStage, PartLeads, ProgramStanding, part_calls}
pub use Rattle.mm_life.specs.Stages.{program_standing, session_on}

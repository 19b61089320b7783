-- The words that the definitions of this crate take from the crates below.
pub use Rattle.mm_base.specs.Input.{joined_lines, lines_of, tail_of, IsLong, IsLineFront}
pub use Rattle.mm_bytes.specs.Limits.{last_position, longest_request}
pub use Rattle.mm_base.specs.declared.replay_fault.ReplayFault.TheVariants.{BadLine, LineLong, ReadFault, TooMuch, WriteFault}
pub use Rattle.mm_digest.specs.declared.variant.Variant.{Variant}
pub use Rattle.mm_digest.specs.declared.variant.Variant.TheVariants.{Basic, Opt}
pub use Rattle.mm_seal.specs.Snapshot.{Content}
pub use Rattle.mm_platform.specs.Standing.{Item, Standing}
pub use Rattle.mm_module.specs.Batch.{Batch, One}
pub use Rattle.mm_module.specs.Meaning.{Meaning}
pub use Rattle.mm_model.specs.History.{Commit, History, first_history, history_after, requests_of, total_of}
pub use Rattle.mm_model.specs.Chains.{Instance, basic_instance, opt_instance}
pub use Rattle.mm_model.specs.Standing.{Life, Lost as LostLife, Spoiled, life_of, content_of_issue, IsGenuine, StandsFor, issued_bytes}
pub use Rattle.mm_model.specs.Messages.{AreNoGuards, IsClear, AreMessagesIn, offer_messages}
pub use Rattle.mm_model.specs.declared.answer.Answer.{Answer}
pub use Rattle.mm_model.specs.declared.refusal.Refusal.{Refusal}
pub use Rattle.mm_call.specs.CallPremises.{IsWithin, right_messages, AreShown, IsIdle, standing_items}
pub use Rattle.mm_call.specs.CallFinding.{finding_at, right_content, list_level, fault_of}
pub use Rattle.mm_schedule.specs.Replies.{IsBatchStep, cause_text, told_line}
pub use Rattle.mm_schedule.specs.declared.reply.Cause.{Cause}
pub use Rattle.mm_schedule.specs.declared.reply.Reply.{Reply}
pub use Rattle.mm_schedule.specs.declared.reply.Reply.TheVariants.{Told}
pub use Rattle.mm_store.specs.StoreStanding.{StoreStanding, Slots, slot_front}
pub use Rattle.mm_store.specs.PendingRecord.{PendingRecord}
pub use Rattle.mm_play.specs.PlaysInput.{IsUnrefused}
pub use Rattle.mm_play.specs.Headline.{IsFrontOf}
pub use Rattle.mm_recovery.specs.CellWrites.{CellIsWrittenFor, new_requests_by, new_requests_at}
pub use Rattle.mm_recovery.specs.HostStanding.{HostStanding, host_standing, FitsHistory, first_offer, AsksNextRequest, HostResumes}
pub use Rattle.mm_recovery.specs.HostStanding.{IsWaiting}
pub use Rattle.mm_recovery.specs.Recovery.{AsksIdly, CanRecover, IsRefusedAs, RequestMayBeCommitted}
pub use Rattle.mm_recovery.specs.declared.fault.HostFault.{HostFault}
pub use Rattle.mm_recovery.specs.declared.fault.HostFault.TheVariants.{Memory, Refused, Store}
pub use Rattle.mm_recovery.specs.declared.resuming.Resumed.{Resumed}
pub use Rattle.mm_recovery.specs.declared.resuming.Resumed.TheVariants.{Answered}

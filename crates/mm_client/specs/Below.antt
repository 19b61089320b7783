-- The words that the definitions of this crate take from the crates below.
pub use Rattle.mm_base.specs.Input.{IsUnbroken, joined_lines, lines_of}
pub use Rattle.mm_digest.specs.declared.variant.Variant.{Variant}
pub use Rattle.mm_digest.specs.declared.variant.Variant.TheVariants.{Basic, Opt}
pub use Rattle.mm_platform.specs.Standing.{Standing}
pub use Rattle.mm_module.specs.Batch.{Batch}
pub use Rattle.mm_module.specs.Meaning.{IsLawful, Meaning, state_after}
pub use Rattle.mm_model.specs.History.{first_history}
pub use Rattle.mm_model.specs.Chains.{Instance, basic_instance, opt_instance}
pub use Rattle.mm_model.specs.Standing.{StandsFor}
pub use Rattle.mm_store.specs.StoreStanding.{StoreStanding}
pub use Rattle.mm_store.specs.PendingRecord.{PendingRecord}
pub use Rattle.mm_recovery.specs.declared.fault.HostFault.TheVariants.{Store}
pub use Rattle.mm_host.specs.declared.fault.SessionFault.{SessionFault}
pub use Rattle.mm_host.specs.declared.fault.SessionFault.TheVariants.{Host}
pub use Rattle.mm_host.specs.Continuation.{IsInHand, last_bytes_in, served_calls_in}
pub use Rattle.mm_host.specs.Sessions.{ServedCall, SessionStanding, IsSession, replies_to, served_lines, SessionGoesAfterResume}
pub use Rattle.mm_life.specs.Deeds.{Deed, served_calls_of, Calls, IsInHandOf}
pub use Rattle.mm_life.specs.Stages.{Does, Holds, IsLife, LifePart, LifeStage, PartLeads, LifeFollows, PartSteps, Program, end_of}
pub use Rattle.mm_life.specs.HonestLife.{AreNoChance, IsGoneOnWith, IsOverOneStore, PartGoesOn, WaitsInSlots, reached_position}
pub use Rattle.mm_recovery.specs.FirstStart.{first_history_on, first_slots}
pub use Rattle.mm_evidence.specs.Evidence.{HasClash}
pub use Rattle.mm_model.specs.declared.answer.Answer.{Answer}
pub use Rattle.mm_model.specs.declared.answer.BatchAnswer.{BatchAnswer}
pub use Rattle.mm_model.specs.declared.refusal.Refusal.{Refusal}
pub use Rattle.mm_life.specs.Premises.{life_batches, life_messages, opt_messages, others_values}
pub use Rattle.mm_recovery.specs.declared.fault.HostFault.{HostFault}
pub use Rattle.mm_recovery.specs.declared.resuming.Resumed.{Resumed}
pub use Rattle.mm_recovery.specs.HostStanding.{HostStanding}
pub use Rattle.mm_host.specs.Continuation.{HasUntoldRequest}

-- The words that the definitions of this crate take from the crates below.
pub use Rattle.mm_base.specs.Input.{IsUnbroken}
pub use Rattle.mm_digest.specs.declared.variant.Variant.{Variant}
pub use Rattle.mm_digest.specs.declared.variant.Variant.TheVariants.{Basic, Opt}
pub use Rattle.mm_platform.specs.Standing.{Standing}
pub use Rattle.mm_module.specs.Batch.{Batch}
pub use Rattle.mm_module.specs.Meaning.{IsLawful, Meaning}
pub use Rattle.mm_model.specs.History.{first_history}
pub use Rattle.mm_model.specs.Chains.{Instance, basic_instance, opt_instance}
pub use Rattle.mm_model.specs.Standing.{StandsFor}
pub use Rattle.mm_evidence.specs.Evidence.{HasClash}
pub use Rattle.mm_store.specs.PendingRecord.{PendingRecord}
pub use Rattle.mm_store.specs.StoreStanding.{StoreStanding}
pub use Rattle.mm_recovery.specs.FirstStart.{first_history_on, first_slots}
pub use Rattle.mm_host.specs.Sessions.{ServedCall}
pub use Rattle.mm_life.specs.HonestLife.{IsGoneOnWith, PartGoesOn, WaitsInSlots, reached_position}
pub use Rattle.mm_life.specs.Premises.{call_batches, call_messages}
pub use Rattle.mm_moments.specs.MortalLives.{IsWriteOfSlot, Dies, IsMortalLife, LifeEnds, Lives, MortalPart, MortalPartLeads, MortalStage}
pub use Rattle.mm_moments.specs.MortalLives.{ended_life, ended_stages, mortal_calls}
pub use Rattle.mm_moments.specs.MortalLaws.{AreMortalNoChance, IsMortalOverOneStore, mortal_others, mortal_register_messages}
pub use Rattle.mm_client.specs.ClientLife.{IsClientPart, IsGiven, LeavesNoOther, replies_of, ClientMemory, Hearing, lines_to_give}
pub use Rattle.mm_client.specs.ClientLife.{memory_after, memory_at, IsMomentOf, PartMakesAll}
pub use Rattle.mm_client.specs.declared.heard.HeardReply.{HeardReply}

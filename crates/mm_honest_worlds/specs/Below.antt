-- The words that the definitions of this crate take from the crates below.
pub use Rattle.mm_bytes.specs.Limits.{last_position}
pub use Rattle.mm_digest.specs.declared.variant.Variant.{Variant}
pub use Rattle.mm_digest.specs.declared.variant.Variant.TheVariants.{Basic, Opt}
pub use Rattle.mm_platform.specs.Standing.{Standing}
pub use Rattle.mm_module.specs.Batch.{Batch}
pub use Rattle.mm_module.specs.Meaning.{IsLawful, Meaning}
pub use Rattle.mm_model.specs.History.{History, requests_of, total_of}
pub use Rattle.mm_model.specs.Chains.{Instance}
pub use Rattle.mm_model.specs.Messages.{AreNoGuards, IsClear}
pub use Rattle.mm_opt.specs.declared.segment.Checkpointed.{Checkpointed}
pub use Rattle.mm_opt.specs.declared.segment.CheckpointRefusal.{CheckpointRefusal}
pub use Rattle.mm_move.specs.declared.accepting.Accepted.{Accepted}
pub use Rattle.mm_move.specs.declared.inviting.Invited.{Invited}
pub use Rattle.mm_move.specs.declared.link.Link.{Link}
pub use Rattle.mm_move.specs.declared.refusal.MoveRefusal.{MoveRefusal}
pub use Rattle.mm_sides.specs.BothSides.{Live, Role}
pub use Rattle.mm_store.specs.PendingRecord.{PendingRecord, pending_spelling}
pub use Rattle.mm_store.specs.StoreStanding.{CountsFailures, Slots, slot_front, slot_in, StoreStanding}
pub use Rattle.mm_store.specs.declared.fault.StoreFault.{StoreFault}
pub use Rattle.mm_store.specs.declared.fault.StoreFault.TheVariants.{Failed}
pub use Rattle.mm_store.specs.declared.store.TheConstants.{LONGEST_SLOT}
pub use Rattle.mm_recovery.specs.FirstStart.{CountRisesIf, PutsAll, SlotPut, first_slots}
pub use Rattle.mm_recovery.specs.HostStanding.{FitsHistory, HostStanding, IsCheckpoint, IsSnapshotAt, IsWaiting}
pub use Rattle.mm_host.specs.declared.fault.SessionFault.{SessionFault}
pub use Rattle.mm_life.specs.Deeds.{Calls, Checkpoints}
pub use Rattle.mm_life.specs.HonestLife.{LeavesNoChance, PartGoesOn}
pub use Rattle.mm_life.specs.Stages.{Does, Holds, LifePart, PartLeads}
pub use Rattle.mm_life.specs.OneStore.{KeepsStore}
pub use Rattle.mm_worlds.specs.Journey.{BothSites, SiteStanding, accepted_at, invited_at, retired_at, session_at, site_standing}
pub use Rattle.mm_worlds.specs.Journey.{two_platforms}
pub use Rattle.mm_worlds.specs.declared.journey.Pass.{Pass}
pub use Rattle.mm_worlds.specs.OneWorld.{AreRegistersTold, HasOptWorldEvidence, HasWorldEvidence, IsOptWorldAtStart, IsSomewhere}
pub use Rattle.mm_worlds.specs.OneWorld.{WorldFollows, opt_world_messages, world_batches, world_values}
pub use Rattle.mm_worlds.specs.Premises.{has_same_cell, instance_of, role_of, AreHonest, IsWorldAtStart, first_handed}
pub use Rattle.mm_worlds.specs.Premises.{world_messages, Accepts, IsWorldLife, Lives, World, WorldPart, WorldPartLeads, WorldStage}
pub use Rattle.mm_worlds.specs.Premises.{world_after, world_at_end}

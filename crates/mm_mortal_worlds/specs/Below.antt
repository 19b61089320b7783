-- The words that the definitions of this crate take from the crates below.
pub use Rattle.mm_digest.specs.Messages.{start_message}
pub use Rattle.mm_digest.specs.declared.variant.Variant.{Variant}
pub use Rattle.mm_digest.specs.declared.variant.Variant.TheVariants.{Basic, Opt}
pub use Rattle.mm_seal.specs.Snapshot.{Content}
pub use Rattle.mm_platform.specs.Standing.{Standing}
pub use Rattle.mm_module.specs.Batch.{Batch}
pub use Rattle.mm_module.specs.Meaning.{IsLawful, Meaning}
pub use Rattle.mm_modules.specs.Modules.{meaning_of}
pub use Rattle.mm_modules.specs.declared.any.AnyModule.{AnyModule}
pub use Rattle.mm_model.specs.Messages.{AreNoGuards, IsClear}
pub use Rattle.mm_model.specs.Standing.{IsRight}
pub use Rattle.mm_call.specs.CallPremises.{foreign_items}
pub use Rattle.mm_schedule.specs.Replies.{ModulePromises}
pub use Rattle.mm_schedule.specs.declared.reply.Reply.{Reply}
pub use Rattle.mm_evidence.specs.Evidence.{HasClash}
pub use Rattle.mm_sides.specs.BothSides.{Live, Role}
pub use Rattle.mm_store.specs.StoreStanding.{StoreStanding}
pub use Rattle.mm_recovery.specs.FirstStart.{first_slots}
pub use Rattle.mm_move.specs.declared.link.Link.{Link}
pub use Rattle.mm_recovery.specs.HostStanding.{host_standing}
pub use Rattle.mm_life.specs.Deeds.{LifeCall}
pub use Rattle.mm_life.specs.Stages.{told_replies}
pub use Rattle.mm_life.specs.Premises.{IsUntagged, bytes_unless_idle, call_batches, shown_messages, snapshots_of}
pub use Rattle.mm_life.specs.Stages.{session_on}
pub use Rattle.mm_moments.specs.MortalLives.{IsKilledSession, Dies as KilledPart, KilledProgram, MortalLeavesNoChance, PartEnds}
pub use Rattle.mm_moments.specs.MortalLives.{killed_calls}
pub use Rattle.mm_worlds.specs.OneWorld.{IsWorldBreach, IsOneWorld, WorldFollows, world_part_replies, IsOptWorldAtStart, TellsRegister}
pub use Rattle.mm_worlds.specs.OneWorld.{bytes_if_live, opt_messages_in, others_values_in}
pub use Rattle.mm_worlds.specs.Premises.{Handed, IsGenuineUnder, KeyedSnapshot, keyed_snapshots, snapshots_under, instance_of, key_of}
pub use Rattle.mm_worlds.specs.Premises.{role_of, IsHonest, IsWorldAtStart, asked_messages, calls_at, calls_in, first_handed, first_offers}
pub use Rattle.mm_worlds.specs.Premises.{nonces_in, snapshots_in, tickets_in, IsWorldLife, Lives, World, WorldPart, WorldPartLeads}
pub use Rattle.mm_worlds.specs.Premises.{WorldStage}
pub use Rattle.mm_honest_worlds.specs.HostStores.{HostStore, HostStores, IsOverStore, LeavesNoneByChance, LeftAs, StartsOver}
pub use Rattle.mm_honest_worlds.specs.HostStores.{store_behind_part, stores_at_start}
pub use Rattle.mm_honest_worlds.specs.GoingOn.{IsWorldGoneOn}

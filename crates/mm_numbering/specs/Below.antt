-- The words that the definitions of this crate take from the crates below.
pub use Rattle.sha2.specs.Sha256.{sha256}
pub use Rattle.mm_digest.specs.Messages.{zero_bytes}
pub use Rattle.mm_digest.specs.declared.digest.Digest.{Digest}
pub use Rattle.mm_digest.specs.declared.variant.Variant.{Variant}
pub use Rattle.mm_digest.specs.declared.variant.Variant.TheVariants.{Basic, Opt}
pub use Rattle.mm_module.specs.Batch.{Batch, normal_batch}
pub use Rattle.mm_model.specs.Chains.{own_values}
pub use Rattle.mm_model.specs.Moves.{is_long}
pub use Rattle.mm_schedule.specs.Events.{Event, event_of}
pub use Rattle.mm_schedule.specs.declared.event.Event.{Event as CodeEvent}
pub use Rattle.mm_outcome.specs.Premises.{asked_batches, event_foreign_values}

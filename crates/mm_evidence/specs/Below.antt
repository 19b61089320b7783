-- The words that the definitions of this crate take from the crates below.
pub use Rattle.sha2.specs.Sha256.{sha256}
pub use Rattle.mm_digest.specs.Messages.{zero_bytes}
pub use Rattle.mm_digest.specs.declared.variant.Variant.TheVariants.{Opt}
pub use Rattle.mm_seal.specs.Snapshot.{Content}
pub use Rattle.mm_module.specs.Batch.{Batch}
pub use Rattle.mm_model.specs.Chains.{guard, Instance}
pub use Rattle.mm_model.specs.History.{History}
pub use Rattle.mm_model.specs.Standing.{NamesPosition, IsRight}
pub use Rattle.mm_platform.specs.declared.plan.Meddle.{Meddle}
pub use Rattle.mm_platform.specs.declared.plan.Stop.{Stop}
pub use Rattle.mm_schedule.specs.Events.{Ask, Event}
pub use Rattle.mm_schedule.specs.declared.event.Offer.{Offer}
pub use Rattle.mm_schedule.specs.declared.event.Offer.TheVariants.{Flip, Raw}
pub use Rattle.mm_outcome.specs.Premises.{outcome_by_lists, outcome_by_digests, IsClearRun, IsGenuineRun, asked_batches, foreign_values}
pub use Rattle.mm_outcome.specs.Premises.{run_messages}
pub use Rattle.mm_outcome.specs.EventOffers.{offered_bytes}
pub use Rattle.mm_outcome.specs.OneRun.{IsOneRun}

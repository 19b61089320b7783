-- The words that the definitions of this crate take from the crates below.
pub use Rattle.mm_digest.specs.Messages.{anchored_digest_of, extended_digest_of, zero_bytes}
pub use Rattle.mm_digest.specs.declared.variant.Variant.{Variant}
pub use Rattle.mm_digest.specs.declared.variant.Variant.TheVariants.{Basic, Opt}
pub use Rattle.mm_seal.specs.Cell.{ReadsCell, cell_spelling}
pub use Rattle.mm_seal.specs.Snapshot.{Content, ReadsParts, Snapshot}
pub use Rattle.mm_seal.specs.declared.cell.Cell.{Cell}
pub use Rattle.mm_seal.specs.declared.cell.CellFault.{CellFault}
pub use Rattle.mm_seal.specs.declared.cell.CellFault.TheVariants.{Cell as Unspelled}
pub use Rattle.mm_seal.specs.declared.snapshot.PartsFault.{PartsFault}
pub use Rattle.mm_seal.specs.declared.snapshot.PartsFault.TheVariants.{Form, Kind}
pub use Rattle.mm_seal.specs.declared.snapshot.Place.{Place}
pub use Rattle.mm_platform.specs.Standing.{Item, Standing, item_values, register_after, StepGoes, ReadCell, ReadRegister, WriteCell}
pub use Rattle.mm_platform.specs.declared.fault.StepFault.{StepFault}
pub use Rattle.mm_module.specs.Batch.{Batch, normal_batch}
pub use Rattle.mm_module.specs.Meaning.{Meaning}
pub use Rattle.mm_model.specs.Chains.{guard, Instance}
pub use Rattle.mm_model.specs.History.{History}
pub use Rattle.mm_model.specs.Verdicts.{Point, forms_of, opt_verdict}
pub use Rattle.mm_model.specs.Moves.{Digests, digests_of}
pub use Rattle.mm_model.specs.Standing.{digest_of, StandsFor}
pub use Rattle.mm_model.specs.declared.answer.BatchAnswer.{BatchAnswer}
pub use Rattle.mm_model.specs.declared.refusal.Refusal.{Refusal}
pub use Rattle.mm_model.specs.declared.verdict.Verdict.{Verdict}
pub use Rattle.mm_call.specs.CallFinding.{answer_at, CountsHandedFault, IsUntouched, digest_level, list_level, check_of_offer, IsOrMemory}
pub use Rattle.mm_call.specs.CallFinding.{fault_in, fault_of}
pub use Rattle.mm_call.specs.CallPremises.{IsWithin}
pub use Rattle.mm_call.specs.CallKind.{CallKind, PlatformStaysPlanned}
pub use Rattle.mm_call.specs.Checkpoints.{CheckpointOutcome, Closes, CheckpointEnding, HasNone, IsClosedWithin, LostPower, NoSegment, Stops}
pub use Rattle.mm_call.specs.Checkpoints.{checkpoint_outcome}
pub use Rattle.mm_call.specs.CallOutcome.{AreTold, Course}
pub use Rattle.mm_call.specs.Standing.{StandsAt, count_after_more, instance_by, items_after_moves}

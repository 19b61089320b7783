-- The words that the definitions of this crate take from the crates below.
pub use Rattle.mm_digest.specs.declared.variant.Variant.TheVariants.{Basic}
pub use Rattle.mm_seal.specs.Cell.{ReadsCell, SpellsCell, cell_spelling}
pub use Rattle.mm_seal.specs.Snapshot.{Content, ReadsParts, Snapshot}
pub use Rattle.mm_seal.specs.declared.cell.Cell.{Cell}
pub use Rattle.mm_seal.specs.declared.cell.CellFault.{CellFault}
pub use Rattle.mm_seal.specs.declared.cell.CellFault.TheVariants.{Blank, Cell as Unspelled}
pub use Rattle.mm_seal.specs.declared.snapshot.PartsFault.{PartsFault}
pub use Rattle.mm_seal.specs.declared.snapshot.PartsFault.TheVariants.{Form, Kind}
pub use Rattle.mm_seal.specs.declared.snapshot.Place.{Place}
pub use Rattle.mm_seal.specs.declared.snapshot.Place.TheVariants.{Opt}
pub use Rattle.mm_platform.specs.Standing.{Standing}
pub use Rattle.mm_module.specs.Batch.{Batch, normal_batch}
pub use Rattle.mm_module.specs.Meaning.{Meaning}
pub use Rattle.mm_model.specs.Chains.{link}
pub use Rattle.mm_model.specs.Verdicts.{basic_verdict}
pub use Rattle.mm_model.specs.Standing.{digest_of}
pub use Rattle.mm_model.specs.declared.answer.BatchAnswer.{BatchAnswer}
pub use Rattle.mm_model.specs.declared.refusal.Refusal.{Refusal}
pub use Rattle.mm_model.specs.declared.verdict.Verdict.{Verdict}
pub use Rattle.mm_call.specs.CallFinding.{answer_at, CountsHandedFault, check_of_offer, IsOrMemory, fault_of}
pub use Rattle.mm_call.specs.CallKind.{CallKind, call_kind}

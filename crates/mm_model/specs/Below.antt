-- The words that the definitions of this crate take from the crates below.
pub use Rattle.sha2.proofs.Facts256.{length-sha256}
pub use Rattle.sha2.specs.Sha256.{sha256}
pub use Rattle.mm_bytes.specs.DecimalLaws.{append-injective}
pub use Rattle.mm_bytes.specs.Limits.{last_position, limit_of, longest_request, most_members}
pub use Rattle.mm_digest.specs.LengthLaws.{length-hmac_of, length-start_digest_of, length-zero_bytes}
pub use Rattle.mm_digest.specs.Messages.{anchored_message, anchored_digest_of, extended_message, extended_digest_of, start_message}
pub use Rattle.mm_digest.specs.Messages.{start_digest_of, zero_bytes}
pub use Rattle.mm_digest.specs.declared.digest.Digest.{Digest}
pub use Rattle.mm_digest.specs.declared.variant.Variant.{Variant}
pub use Rattle.mm_digest.specs.declared.variant.Variant.TheVariants.{Basic, Opt}
pub use Rattle.mm_seal.specs.Parts.{place_length}
pub use Rattle.mm_seal.specs.Cell.{IsCell, cell_spelling}
pub use Rattle.mm_seal.specs.Snapshot.{Content, IsContent, IsPlace, sealed_snapshot_of, snapshot_front, variant_of}
pub use Rattle.mm_seal.specs.SnapshotLaws.{length-snapshot_front}
pub use Rattle.mm_seal.specs.declared.cell.Cell.{Cell}
pub use Rattle.mm_seal.specs.declared.snapshot.Place.{Place}
pub use Rattle.mm_seal.specs.declared.snapshot.Place.TheVariants.{Basic as InBasic, Opt as InOpt}
pub use Rattle.mm_platform.specs.Standing.{Standing, item_values, register_after}
pub use Rattle.mm_module.specs.Batch.{Batch, Many, One, batch_text, members_of, size_of}
pub use Rattle.mm_module.specs.RunLaws.{size_of-pos, text_of-members_of, length-outputs_from, state_from-is_spelled}
pub use Rattle.mm_module.specs.Meaning.{IsLawful, IsLine, Meaning, outputs_from, last_output_after, state_after, state_from}

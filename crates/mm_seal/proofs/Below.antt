-- The words and laws that the proofs of this crate take from specs/ and from the crates below.
pub use Rattle.std.proofs.Common.{◌++◌, ◌<◌, ◌∙◌, ◌≡◌, ap, arith, drop, false, get_or, length, length-append, length-drop, List, refl, subst, sym}
pub use Rattle.std.proofs.Common.{take, true, ℕ}
pub use Rattle.std.proofs.lemmas.List.{get_or-take, length-take-le, take-append-drop, take_all}
pub use Rattle.mm_bytes.specs.DecimalLaws.{joined, length-eight_bytes}
pub use Rattle.mm_seal.specs.Parts.{HasHead, SpellsNoContent}
pub use Rattle.mm_seal.specs.SnapshotLaws.{front_of_fields, no_end_in_fields, no_front-fields, no_front-short, no_front-variant}
pub use Rattle.mm_seal.specs.SnapshotLaws.{only_content}

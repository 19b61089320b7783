-- What crates above may cite of these proofs: the other files can be read and changed by this crate alone.
unfoldable pub use Rattle.mm_moments.proofs.MortalEnds.{life_ends, part_ends}
pub use Rattle.mm_moments.proofs.MortalEnds.{fault_same, no_chance, over_one_store, served_same}
pub use Rattle.mm_moments.proofs.MortalLaws.{ended, life, to_mortal}

-- What crates above may cite of these proofs: the other files can be read and changed by this crate alone.
pub use Rattle.mm_sides.proofs.Outer.{any_value, AreOuter, foreign_outer, found_outer, IsOuter, stop_outer, stopped_outer}
pub use Rattle.mm_sides.proofs.BothAgree.{known_pairs}

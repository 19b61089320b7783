-- The words and laws that the proofs of this crate take from specs/ and from the crates below.
pub use Rattle.std.specs.Io.KnownBytes.{Appends, Consumes, IsAtEnd, Keeps}
pub use Rattle.std.specs.Prelude.{Err, None, Ok, Option, Result, slice_range, Some}
pub use Rattle.std.proofs.Common.{◌++◌, ◌+◌, ◌-◌, ◌<◌, ◌∙◌, ◌∷◌, ◌≡◌, ◌≢◌, ◌≤◌, [], ap, append_assoc, arith, drop, length, length-append}
pub use Rattle.std.proofs.Common.{length-drop, List, min, refl, sym, take, ℕ}
pub use Rattle.std.proofs.lemmas.List.{append-nil, drop-drop, drop-take, length-take, take-append-drop, take-take}
pub use Rattle.mm_base.specs.Input.{HasBreakAt, SourceRefills, TakesHeldBytes}
pub use Rattle.mm_base.specs.Streams.{FrontGoesOut, IsCutShort, Supply}

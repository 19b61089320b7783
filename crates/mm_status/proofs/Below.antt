-- The words and laws that the proofs of this crate take from specs/ and from the crates below.
pub use Rattle.std.specs.Io.KnownBytes.{Appends}
pub use Rattle.std.proofs.Common.{◌++◌, ◌∙◌, ◌∷◌, ◌≡◌, [], ap, append-nil, append_assoc, Err, List, Ok, OnOk, Option, Result, subst, sym, ℕ}
pub use Rattle.std.proofs.KnownBytes.{Appends-trans}
pub use Rattle.mm_base.specs.Streams.{SinkSends}
pub use Rattle.mm_base.specs.declared.replay_fault.ReplayFault.{ReplayFault}
pub use Rattle.mm_play.specs.PlaysInput.{IsUnrefused}
pub use Rattle.mm_status.specs.Status.{EndsUnrefused, status_of}

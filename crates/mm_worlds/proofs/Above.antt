-- What crates above may cite of these proofs: the other files can be read and changed by this crate alone.
pub use Rattle.mm_worlds.proofs.Accepting.{Enters, accepted_same, again_ready, enters_ready, good}
pub use Rattle.mm_worlds.proofs.AnyWorld.{AreAsked, IsFineStage, StageLaws, fine_offer, is_live, somewhere, stepped}
pub use Rattle.mm_worlds.proofs.BasicWorld.{basic_listed, basic_stages, basic_starts}
pub use Rattle.mm_worlds.proofs.Beside.{IsBeside, move_beside}
pub use Rattle.mm_worlds.proofs.Between.{LeftFor, anchor_at, changed_at, here_changed, other_number, same_number, there_changed, HoldsCell}
pub use Rattle.mm_worlds.proofs.Between.{HoldsOwn, IsAwaited, IsInOrder, IsLiveCell, by_test, held_told, key_held, reading_of, role_held}
pub use Rattle.mm_worlds.proofs.Decided.{all_or}
pub use Rattle.mm_worlds.proofs.Orders.{StandsInOrder}
pub use Rattle.mm_worlds.proofs.Living.{IsQuietHere, WorldLaws, is_here, left_elsewhere}
pub use Rattle.mm_worlds.proofs.Names.{IsUnmarred, at_end, digest_at, shut_by, within_key}
pub use Rattle.mm_worlds.proofs.Moving.{MoveOutcome, invited_same, made, move_comes, refused, repeated}
pub use Rattle.mm_worlds.proofs.OptWorld.{opt_listed, opt_stages, opt_starts}
pub use Rattle.mm_worlds.proofs.Retiring.{IsOrWas, anchor_sized, left_or, not_false, passes, ticket_formed}

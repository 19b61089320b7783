-- What crates above may cite of these proofs: the other files can be read and changed by this crate alone.
pub use Rattle.mm_world.proofs.Asking.{on_settled, power_if, reads_none, register_at, stands_settled, stop_power}
pub use Rattle.mm_world.proofs.Worlds.{asks_broken, asks_came, closes_broken, closes_came, counting, digests_are, stands_new}
pub use Rattle.mm_world.proofs.Asking.{count_none, reads_shown, stopped_at}
pub use Rattle.mm_world.proofs.Seating.{kept_more, stands_extended}
pub use Rattle.mm_world.specs.Seat.{extended_standing}

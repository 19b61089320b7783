-- The words and laws that the proofs of this crate take from specs/ and from the crates below.
pub use Rattle.mm_platform.specs.Standing.{Standing}
pub use Rattle.mm_modules.specs.Modules.{meaning_of}
pub use Rattle.mm_schedule.specs.declared.header.Header.{Header}
pub use Rattle.mm_host.proofs.Above.{continues_from, runs_once_from}
pub use Rattle.mm_host_commands.specs.Outside.{Outside}
pub use Rattle.mm_host_commands.specs.Run.{ContinuesIfFound, LooksAtInstance, RunsOnceIfFound}
pub use Rattle.mm_status.specs.declared.status.Status.{Status}

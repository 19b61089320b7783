-- What crates above may cite of these proofs: the other files can be read and changed by this crate alone.
pub use Rattle.mm_basic.proofs.Asking.{asked_by, finished_asks, finished_to, one_output}
pub use Rattle.mm_basic.proofs.Telling.{numbers, quiet, reads_told, steps_extend}
pub use Rattle.mm_basic.specs.AskPromise.{StepExtendsNothing}

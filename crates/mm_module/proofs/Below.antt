-- The words and laws that the proofs of this crate take from specs/ and from the crates below.
pub use Rattle.std.proofs.Common.{rules, tests}
pub use Rattle.std.proofs.lemmas.Iterator.Consumers.{count_from_yields_List, nth_from_yields_List}
pub use Rattle.std.proofs.lemmas.Iterator.Splits.{YieldsList-from_slice_split}
pub use Rattle.mm_module.specs.Batch.{is_tab}

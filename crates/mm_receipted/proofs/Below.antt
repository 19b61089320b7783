-- The words and laws that the proofs of this crate take from specs/ and from the crates below.
pub use Rattle.std.specs.Prelude.{◌⊎◌, IsTrue, Ok, slice_get}
pub use Rattle.std.proofs.Common.{◌++◌, ◌+◌, ◌<◌, ◌^◌, ◌∙◌, ◌∷◌, ◌≡◌, ◌≢◌, ◌≤◌, [], ap, arith, Bool, drop, false, inl, inr, length}
pub use Rattle.std.proofs.Common.{length-append, List, refl, rules, Some, subst, suc, sym, take, true, ℕ}
pub use Rattle.mm_bytes.specs.Limits.{last_position, longest_request}
pub use Rattle.mm_module.specs.Meaning.{Meaning, outputs_from}
pub use Rattle.mm_module.specs.RunLaws.{is-true}
pub use Rattle.mm_receipted.specs.ReceiptedLaws.{IsKept, kept_of-IsKept, kept_of-spelling_of, outcome_of-IsKept, SpellsKept}
pub use Rattle.mm_receipted.specs.ReceiptedLaws.{SpellsKept-from}
pub use Rattle.mm_receipted.specs.Receipts.{digits_of, parts_by, receipt_of, receipt_parts, check_of_receipt, check_of_parts}
pub use Rattle.mm_receipted.specs.Table.{first_receipt_state, is_front, outcome_of, receipt_state_in, receipted_module, ReceiptState}
pub use Rattle.mm_receipted.specs.Table.{spelling_of}
pub use Rattle.mm_receipted.specs.ReceiptListing.{kept_state_of}

-- The words and laws that the proofs of this crate take from specs/ and from the crates below.
pub use Rattle.std.proofs.Common.{◌++◌, ◌+◌, ◌==◌, ◌∙◌, ◌∷◌, ◌≡◌, ◌≤◌, [], ap, arith, Bool, cond, Err, false, length, List, nat_lt, None}
pub use Rattle.std.proofs.Common.{Ok, Option, refl, Result, Some, subst, sym, true, ℕ}
pub use Rattle.mm_receipted.proofs.Above.{no-clash, receipts-true}
pub use Rattle.mm_play.specs.declared.player.LineRefusal.{LineRefusal}
pub use Rattle.mm_play.proofs.Above.{first_answered, plays_err, tells, unrefused}
pub use Rattle.mm_receipt.specs.ReceiptCheck.{tally_after_pair, verdict_against, CheckState, closing_at, first_answer_by, first_check}
pub use Rattle.mm_receipt.specs.ReceiptCheck.{first_tally, is_too_much, known_at, last_line, pair_at, pair_verdict, request_by_space}
pub use Rattle.mm_receipt.specs.ReceiptCheck.{receipt_verdict, receipts_answer, receipts_closing, second_answer, reply_of_second}
pub use Rattle.mm_receipt.specs.ReceiptCheck.{CheckTally, verdict_text, reply_of_first}
pub use Rattle.mm_receipt.specs.declared.pair.AskedRequest.{AskedRequest}

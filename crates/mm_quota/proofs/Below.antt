-- The words and laws that the proofs of this crate take from specs/ and from the crates below.
pub use Rattle.std.specs.Prelude.{◌&&◌, ◌++◌, ◌+◌, ◌<◌, ◌^◌, ◌∷◌, ◌≡◌, ◌≤◌, [], Bool, drop, Err, false, IfOk, if◌then◌else◌, is_some}
pub use Rattle.std.specs.Prelude.{length, List, nat_le, None, Ok, Option, option_and_then, option_map, Result, Some, suc, take, true}
pub use Rattle.std.proofs.Common.{◌-◌, ◌∙◌, ap, append_assoc, arith, length-append, min, refl, rules, subst, sym, ℕ}
pub use Rattle.std.proofs.lemmas.Bool.Decides.{nat_tests}
pub use Rattle.mm_module.specs.LineLaws.{and-true, are_bytes-Fits}
pub use Rattle.mm_module.specs.declared.modules.Stepped.{Stepped}
pub use Rattle.mm_quota.specs.SpellingLaws.{IsAccount-from, account_at-account_bytes, accounts_from-reads, is_state-SpellsLedger, ReadsBody}
pub use Rattle.mm_quota.specs.LedgerLaws.{account_of_name-absent, account_of_name-found, account_of_name-other, account_of_name-this}
pub use Rattle.mm_quota.specs.LedgerLaws.{bytes_eq-order, IsFoundIfAny, length-after, put-place, used_total-le}
pub use Rattle.mm_quota.specs.Views.{has_rising_from, IsSpelled, as_account, as_action, front_account, as_request, as_says}
pub use Rattle.mm_quota.specs.Table.{LedgerAccount, account_at, account_bytes, account_of_name, accounts_from, LedgerAction, body_of}
pub use Rattle.mm_quota.specs.Table.{count_bytes, decision_of, greatest_limit, has_ledger, is_account, is_name, is_state, ledger_of}
pub use Rattle.mm_quota.specs.Table.{count_of_bytes, On, order_of, accounts_with, LedgerRequest, request_of, is_rising_from, LedgerOutput}
pub use Rattle.mm_quota.specs.Table.{accounts_after, spelling_of, outcome_of_bytes, used_total}

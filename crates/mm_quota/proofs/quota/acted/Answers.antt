use Rattle.mm_quota.proofs.Below.{ap, sym, ◌∙◌, arith, ℕ, min, Option, option_map, is_some, if◌then◌else◌, LedgerAccount, LedgerOutput}
use Rattle.mm_quota.proofs.Below.{accounts_after, spelling_of, ledger_of, IsAccount-from, as_account, as_action, as_says}
use Rattle.std.proofs.Common.{◌+◌}
use Rattle.mm_quota.proofs.PlaceLaws.{found-within, put-is, put-spelled, decided, is_some-as_account}
use Rattle.mm_quota.proofs.quota.acted.Goals as goal

-- what was found is within its limit
pub decision-says-requires : goal.decision-says-requires
decision-says-requires c =
    found-within c.args.state.now c.args.name.now c.of-place.result.found c.requires.spelled c.of-place.ensures.account

-- the account that is put has a short name
pub with_account-requires : goal.with_account-requires
with_account-requires c =
    let is = decided c.args.most c.parts-count.result.0 c.args.state.now c.args.name.now (option_map as_account c.of-place.result.found)
    (as_action c.args.action) (option_map as_account c.decision-says.result.0, as_says c.decision-says.result.1) c.decision-says.ensures
    (c.parts-count.ensures.count ∙ c.requires.spelled.counted) c.of-place.ensures.account in
    let puts = put-is c.args.most c.args.state.now c.args.name.now (as_action c.args.action) (as_account c.in-Some.account)
    c.requires.spelled c.requires.named c.requires.action (sym (ap (λ (d : Option LedgerAccount × LedgerOutput). d.0) is)
    ∙ ap (option_map as_account) c.in-Some.is) in
    let kept = IsAccount-from (as_account c.in-Some.account) puts.good in
    omega (arith, kept.named.short)

-- the bytes with the account at its place are those of the ledger with the account
pub returns-in_ok-output-in-Some-clause-state : goal.returns-in_ok-output-in-Some-clause-state
returns-in_ok-output-in-Some-clause-state c =
    let count_is = c.parts-count.ensures.count ∙ c.requires.spelled.counted in
    let is = decided c.args.most c.parts-count.result.0 c.args.state.now c.args.name.now (option_map as_account c.of-place.result.found)
    (as_action c.args.action) (option_map as_account c.decision-says.result.0, as_says c.decision-says.result.1) c.decision-says.ensures
    count_is c.of-place.ensures.account in
    let change_is = sym (ap (λ (d : Option LedgerAccount × LedgerOutput). d.0) is) ∙ ap (option_map as_account) c.in-Some.is in
    let puts = put-is c.args.most c.args.state.now c.args.name.now (as_action c.args.action) (as_account c.in-Some.account)
    c.requires.spelled c.requires.named c.requires.action change_is in
    c.in_ok-state-in-Some.ensures ∙
    put-spelled c.args.most c.count_with-count.result c.args.state.now c.args.name.now c.of-place.result.front.now
    c.of-place.result.back.now (as_account c.in-Some.account) (is_some c.of-place.result.found)
    (omega (arith, c.ranges.most.fits)) c.requires.spelled puts
    (is_some-as_account c.of-place.result.found ∙ ap (λ (f : Option LedgerAccount). is_some f) c.of-place.ensures.account)
    (c.count_with-count.ensures ∙ ap (λ (n : ℕ). if is_some c.of-place.result.found then n else min (n + 1) 65535) count_is)
    c.of-place.ensures.puts ∙
    ap (λ (change : Option LedgerAccount). spelling_of (accounts_after (ledger_of c.args.state.now) change)) (sym change_is)

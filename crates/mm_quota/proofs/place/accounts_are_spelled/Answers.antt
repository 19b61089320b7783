use Rattle.mm_quota.proofs.Below.{◌∙◌, front_account}
use Rattle.mm_quota.proofs.PlaceLaws.{follow-next}
use Rattle.mm_quota.proofs.place.accounts_are_spelled.Goals as goal

pub accounts-preserved : goal.accounts-preserved
accounts-preserved c =
    c.accounts.invariant ∙
    follow-next c.accounts.previous.now c.accounts.rest.now c.args.count c.accounts._number
    (front_account (c.in-Some.account, c.in-Some.others))
    c.accounts-test.true
    c.in-Some.ensures c.if-not-account_is_formed.ensures c.if-not-comes_before.ensures

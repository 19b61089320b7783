use Rattle.mm_quota.proofs.Below.{sym, ◌∙◌, None, Some, front_account}
use Rattle.mm_quota.proofs.PlaceLaws.{Finding-given, Finding-begins, place-is}
use Rattle.mm_quota.proofs.place.AccountPlace.of.Goals as goal

pub accounts-init : goal.accounts-init
accounts-init c = Finding-begins _ _ _ _ c.requires c.parts-count.ensures.body (c.parts-count.ensures.count ∙ c.requires.counted)

pub unreachable-requires : goal.unreachable-requires
unreachable-requires c = Finding-given _ _ _ _ _ _ None c.accounts.invariant c.accounts-test.true c.in-None.ensures

pub returns-in-Equal : goal.returns-in-Equal
returns-in-Equal c =
    let next = Finding-given _ _ _ _ _ _ (Some (front_account (c.in-Some.account, c.in-Some.others))) c.accounts.invariant
    c.accounts-test.true
    c.in-Some.ensures in
    place-is _ _ _ _ _ (next.equal (sym c.in-Equal.ensures)) c.front_of.ensures

pub returns-in-Less : goal.returns-in-Less
returns-in-Less c =
    let next = Finding-given _ _ _ _ _ _ (Some (front_account (c.in-Some.account, c.in-Some.others))) c.accounts.invariant
    c.accounts-test.true
    c.in-Some.ensures in
    place-is _ _ _ _ _ (next.less (sym c.in-Less.ensures)) c.front_of-in-Less.ensures

pub accounts-preserved : goal.accounts-preserved
accounts-preserved c =
    let next = Finding-given _ _ _ _ _ _ (Some (front_account (c.in-Some.account, c.in-Some.others))) c.accounts.invariant
    c.accounts-test.true
    c.in-Some.ensures in
    next.greater (sym c.in-Greater.ensures)

use Rattle.mm_quota.proofs.Below.{arith, None, Some, front_account}
use Rattle.mm_quota.proofs.PlaceLaws.{Summing-given, IsSpelled-sum}
use Rattle.mm_quota.proofs.place.sum_of.Goals as goal

-- an account is left, and its use fits into the sum
pub unreachable-requires : goal.unreachable-requires
unreachable-requires c = Summing-given _ _ _ _ _ None c.accounts.invariant c.accounts-test.true c.in-None.ensures

pub overflow_add-total : goal.overflow_add-total
overflow_add-total c =
    let next = Summing-given _ _ _ _ _ (Some (front_account (c.in-Some.account, c.in-Some.others))) c.accounts.invariant
    c.accounts-test.true
    c.in-Some.ensures in
    omega (arith, next.0, IsSpelled-sum c.args.state.now c.requires)

pub accounts-preserved : goal.accounts-preserved
accounts-preserved c =
    (Summing-given _ _ _ _ _ (Some (front_account (c.in-Some.account, c.in-Some.others))) c.accounts.invariant c.accounts-test.true
    c.in-Some.ensures).1

use Rattle.mm_quota.proofs.Below.{◌-◌, accounts_from, has_rising_from}
use Rattle.std.proofs.Common.{◌≡◌, []}
use Rattle.mm_quota.proofs.place.accounts_are_spelled.Given as goal

-- the whole is spelled where the rest follows the last name
abbrev pub invariant-accounts : goal.invariant-accounts
invariant-accounts l = has_rising_from [] (accounts_from l.count l.body) ≡ has_rising_from l.previous
    (accounts_from (l.count - l._number) l.rest)

use Rattle.mm_quota.proofs.PlaceLaws.{Finding}
use Rattle.mm_quota.proofs.place.AccountPlace.of.Given as goal

abbrev pub invariant-accounts : goal.invariant-accounts
invariant-accounts l = Finding l.state l.name l.body l.rest l.count l._number

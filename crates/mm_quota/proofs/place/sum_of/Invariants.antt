use Rattle.mm_quota.proofs.PlaceLaws.{Summing}
use Rattle.mm_quota.proofs.place.sum_of.Given as goal

abbrev pub invariant-accounts : goal.invariant-accounts
invariant-accounts l = Summing l.state l.rest l.count l._number l.total

use Rattle.std.proofs.Common.{rules}
use Rattle.mm_numbering.proofs.ListingLaws.{stays_at}
use Rattle.mm_numbering.proofs.digests.first_or_noted.Goals as goal

pub returns-in-Ok-Occupied-clause-noted : goal.returns-in-Ok-Occupied-clause-noted
returns-in-Ok-Occupied-clause-noted c = stays_at c.args.firsts.now.entries _ c.args.digest c.get.result.now (search rules) (search rules)

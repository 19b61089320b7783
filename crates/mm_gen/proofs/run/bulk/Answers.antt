use Rattle.mm_gen.proofs.Replaying.{replayed}
use Rattle.mm_gen.proofs.run.bulk.Goals as goal

pub returns-clause-replayed : goal.returns-clause-replayed
returns-clause-replayed c = replayed _ _ _ _ c.requires.count c.bulk_inner.ensures.sums c.bulk_inner.ensures.limit

use Rattle.mm_history.proofs.TakenLaws.{first_stops}
use Rattle.mm_history.proofs.naming.first_with.Goals as goal

pub returns-then-left-eq0-clause-front : goal.returns-then-left-eq0-clause-front
returns-then-left-eq0-clause-front c =
    first_stops c.args.batches.now c.batches.batch-index c.batches.count c.batches.left c.args.position c.batches.invariant.0
    c.if-left-eq0.true c.batches.invariant.1

use Rattle.mm_history.proofs.Below.{◌≡◌, take, summary_of, kept_batches}
use Rattle.mm_history.proofs.naming.summary_of.Given as goal

abbrev pub invariant-batches : goal.invariant-batches
invariant-batches l = l.summary.bytes ≡ summary_of l.id (kept_batches (take l.batch-index l.batches))

use Rattle.mm_history.proofs.Below.{◌≡◌, take, meaning_of, state_after, requests_of, kept_batches}
use Rattle.mm_history.proofs.naming.state_after.Given as goal

abbrev pub invariant-batches : goal.invariant-batches
invariant-batches l = l.state ≡ state_after (meaning_of l.«module») (requests_of (kept_batches (take l.batch-index l.batches)))

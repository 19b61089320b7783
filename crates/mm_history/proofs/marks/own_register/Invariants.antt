use Rattle.mm_history.proofs.Below.{◌≡◌, take, register_of, own_values, kept_batches}
use Rattle.mm_history.proofs.marks.own_register.Given as goal

abbrev pub invariant-batches : goal.invariant-batches
invariant-batches l = l.register.bytes ≡ register_of (own_values l.barrier (kept_batches (take l.batch-index l.batches)))

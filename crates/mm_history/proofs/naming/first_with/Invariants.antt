use Rattle.mm_history.proofs.Below.{◌≡◌, ◌++◌, take, drop, option_map, kept_batches, first_with}
use Rattle.mm_history.proofs.naming.first_with.Given as goal

abbrev pub invariant-batches : goal.invariant-batches
invariant-batches l = (l.count ≡ l.batch-index) × (option_map (λ front. kept_batches (take l.batch-index l.batches) ++ front)
    (first_with l.left (kept_batches (drop l.batch-index l.batches))) ≡ first_with l.position (kept_batches l.batches))

use Rattle.mm_module.proofs.Below.{rules, tests, count_from_yields_List, YieldsList-from_slice_split, is_tab}
use Rattle.mm_module.proofs.batch.Batch.len.Goals as goal

-- the pieces are those that `split` gives
pub returns-in-Many : goal.returns-in-Many
returns-in-Many c =
    rw c.in-Many.is
    (count_from_yields_List c.split.result _ c.count.ensures.ran
    (YieldsList-from_slice_split _ is_tab c.in-Many.text.now c.split.ensures.rest c.split.ensures.done c.split.ensures.closure
    (λ x r q k. search (rules, tests))))

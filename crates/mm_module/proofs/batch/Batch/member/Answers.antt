use Rattle.mm_module.proofs.Below.{rules, tests, nth_from_yields_List, YieldsList-from_slice_split, is_tab}
use Rattle.mm_module.proofs.batch.Batch.member.Goals as goal

-- the pieces are those that `split` gives
pub returns-in-Many : goal.returns-in-Many
returns-in-Many c =
    rw c.in-Many.is
    (nth_from_yields_List c.nth.result c.nth.new.self c.args.i c.nth.ensures.ran
    (YieldsList-from_slice_split _ is_tab c.in-Many.text.now c.split.ensures.rest c.split.ensures.done c.split.ensures.closure
    (λ x r q k. search (rules, tests))))

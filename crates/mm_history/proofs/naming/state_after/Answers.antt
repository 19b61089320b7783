use Rattle.mm_history.proofs.Below.{ℕ, List, ◌∙◌, ap, sym, subst, take, IsTrue, meaning_of, state_after-is_spelled, requests_of, is_long}
use Rattle.mm_history.proofs.Below.{kept_batch, kept_batches, members_of, state_after}
use Rattle.mm_modules.specs.ModulesLaws.{any_is_lawful}
use Rattle.mm_module.specs.Meaning.{state_from}
use Rattle.mm_history.proofs.TakenLaws.{more_taken, state_more, short_at}
use Rattle.mm_history.proofs.naming.state_after.Goals as goal

pub run_batch-requires-clause-spelled : goal.run_batch-requires-clause-spelled
run_batch-requires-clause-spelled c =
    subst (λ (s : List ℕ). IsTrue ((meaning_of c.args.module.now).is_spelled s)) (sym (c.as_slice.ensures.value ∙ c.batches.invariant))
    (state_after-is_spelled (meaning_of c.args.module.now) (any_is_lawful c.args.module.now)
    (requests_of (kept_batches (take c.batches.batch-index c.args.batches.now))))

pub run_batch-requires-clause-short : goal.run_batch-requires-clause-short
run_batch-requires-clause-short c = ap is_long c.lent.ensures
    ∙ (short_at c.args.batches.now c.batches.batch-index c.batch-item.result c.batches-test.true c.batch-item.is c.requires)

pub batches-preserved : goal.batches-preserved
batches-preserved c =
    let meaning = meaning_of c.args.module.now in
    more_taken kept_batch (λ bs. state_after meaning (requests_of bs)) (λ s b. state_from meaning s (members_of b)) (state_more meaning)
    c.args.batches.now c.batches.batch-index c.batch-item.result c.batches-test.true c.batch-item.is c.batches.invariant
    (c.in_ok-next.ensures.state ∙ (λ j. state_from meaning (c.as_slice.ensures.value j) (members_of (c.lent.ensures j))))

use Rattle.mm_quota.proofs.Below.{arith, sym, ap, ◌∙◌, are_bytes-Fits, count_of_bytes}
use Rattle.mm_quota.proofs.PlaceLaws.{is_state-short, state-within, state-beyond}
use Rattle.mm_quota.proofs.place.state_is_spelled.Goals as goal

pub returns-in_default : goal.returns-in_default
returns-in_default c = let short = c.in_default.ensures.cases in sym (is_state-short c.args.most c.args.state.now short)

pub returns-then-count-most : goal.returns-then-count-most
returns-then-count-most c =
    let front = c.in-Some.ensures.cases in
    c.accounts_are_spelled.ensures
    ∙ state-within c.args.most c.count_at-count.result c.args.state.now c.in-Some.body.now (omega (arith, front.2))
    (are_bytes-Fits c.args.state.now c.type_inv.state) (c.count_at-count.ensures ∙ ap count_of_bytes front.0) front.1
    c.if-count-most.true

pub returns-else-count-most : goal.returns-else-count-most
returns-else-count-most c =
    let front = c.in-Some.ensures.cases in
    state-beyond c.args.most c.count_at-count.result c.args.state.now (omega (arith, front.2))
    (are_bytes-Fits c.args.state.now c.type_inv.state) (c.count_at-count.ensures ∙ ap count_of_bytes front.0) c.if-count-most.false

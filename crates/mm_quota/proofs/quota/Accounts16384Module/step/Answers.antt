use Rattle.mm_quota.proofs.Below.{rules, arith, Stepped}
use Rattle.mm_quota.proofs.PlaceLaws.{IfOk-others}
use Rattle.mm_quota.proofs.quota.Accounts16384Module.step.Goals as goal

-- the new state is that of the table, where the other accounts stay
pub returns-clause-others : goal.returns-clause-others
returns-clause-others c =
    IfOk-others c.step.result (λ (after : Stepped). after.state) 16384 c.args.state.now c.args.request.now (omega arith)
    (search (rules, c.requires)) c.step.ensures.state

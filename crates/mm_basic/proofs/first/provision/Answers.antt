use Rattle.mm_basic.proofs.Below.{◌≡◌, ℕ, List, IfOk, subst}
use Rattle.mm_basic.proofs.Telling.{first_cell, first_snapshot}
use Rattle.mm_basic.proofs.first.provision.Goals as goal

pub returns-clause-cell : goal.returns-clause-cell
returns-clause-cell g c =
    subst (λ (bytes : List ℕ). IfOk c.provision_with.result (λ made. made.cell ≡ bytes))
    (first_cell (g.M.Module.meaning c.args.module.now) c.id-id.result c.start-summary.result c.args.key.now c.id-id.ensures
    c.start-summary.ensures c.zero-barrier.result.bytes c.zero-barrier.ensures)
    c.provision_with.ensures.cell

pub returns-clause-snapshot : goal.returns-clause-snapshot
returns-clause-snapshot g c =
    subst (λ (bytes : List ℕ). IfOk c.provision_with.result (λ made. made.snapshot ≡ bytes))
    (first_snapshot (g.M.Module.meaning c.args.module.now) c.id-id.result c.start-summary.result c.args.key.now c.id-id.ensures
    c.start-summary.ensures)
    c.provision_with.ensures.snapshot

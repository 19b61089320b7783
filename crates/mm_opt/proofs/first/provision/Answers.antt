use Rattle.mm_opt.proofs.Below.{◌≡◌, ℕ, List, IfOk, subst}
use Rattle.mm_opt.proofs.Writing.{first_cell, first_snapshot}
use Rattle.mm_opt.proofs.first.provision.Goals as goal

pub returns-clause-cell : goal.returns-clause-cell
returns-clause-cell g c =
    subst (λ (bytes : List ℕ). IfOk c.provision_with.result (λ made. made.cell ≡ bytes))
    (first_cell (g.M.Module.meaning c.args.module.now) c.id-id.result c.start-anchor.result c.args.key.now
    c.args.barrier.now c.id-id.ensures
    c.start-anchor.ensures)
    c.provision_with.ensures.cell

pub returns-clause-snapshot : goal.returns-clause-snapshot
returns-clause-snapshot g c =
    subst (λ (bytes : List ℕ). IfOk c.provision_with.result (λ made. made.snapshot ≡ bytes))
    (first_snapshot (g.M.Module.meaning c.args.module.now) c.id-id.result c.start-anchor.result c.args.key.now c.args.barrier.now
    c.id-id.ensures c.start-anchor.ensures c.zero-extension.result c.zero-extension.ensures)
    c.provision_with.ensures.snapshot

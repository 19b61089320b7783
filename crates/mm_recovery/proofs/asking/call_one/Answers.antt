use Rattle.mm_basic.proofs.Above.{one_output}
use Rattle.mm_recovery.proofs.Exits.{asked_in}
use Rattle.mm_recovery.proofs.asking.call_one.Goals as goal

pub returns-clause-asked : goal.returns-clause-asked
returns-clause-asked g c =
    asked_in c.args.caller.now.variant _ (g.met.M.Module.is_lawful c.args.caller.now.module.now) _ _ _ _ _ _ c.requires c.call.ensures
    c.result.ensures

pub returns-clause-one : goal.returns-clause-one
returns-clause-one g c = one_output c.args.request.now _ (returns-clause-asked g c).fits

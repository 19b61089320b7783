use Rattle.mm_recovery.proofs.SettingUp.{inits_come}
use Rattle.mm_recovery.proofs.setup.init.Goals as goal

pub returns-clause-leaves : goal.returns-clause-leaves
returns-clause-leaves g c = (inits_come _ _ (g.met.M.Module.is_lawful c.args.module.now) _ _ _ c.init_by_steps.ensures).leaves

pub returns-clause-tells : goal.returns-clause-tells
returns-clause-tells g c = (inits_come _ _ (g.met.M.Module.is_lawful c.args.module.now) _ _ _ c.init_by_steps.ensures).tells

pub returns-clause-faults : goal.returns-clause-faults
returns-clause-faults g c = (inits_come _ _ (g.met.M.Module.is_lawful c.args.module.now) _ _ _ c.init_by_steps.ensures).blames

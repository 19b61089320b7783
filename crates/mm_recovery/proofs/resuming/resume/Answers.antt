use Rattle.mm_recovery.proofs.Recovering.{recovers}
use Rattle.mm_recovery.proofs.Exits.{resumes_came, resumes_told, resumes_sized}
use Rattle.mm_recovery.proofs.resuming.resume.Goals as goal

pub returns-clause-faults : goal.returns-clause-faults
returns-clause-faults g c = (resumes_told _ _ _ _ _ c.resume_by_steps.ensures).blamed

pub returns-clause-named : goal.returns-clause-named
returns-clause-named g c = (resumes_told _ _ _ _ _ c.resume_by_steps.ensures).named

pub returns-clause-recovers : goal.returns-clause-recovers
returns-clause-recovers g c =
    recovers c.args.variant (g.M.Module.meaning c.args.module.now) (g.met.M.Module.is_lawful c.args.module.now) _ _
    c.resume_by_steps.result c.resume_by_steps.ensures

pub returns-clause-writes : goal.returns-clause-writes
returns-clause-writes g c = (resumes_came _ _ _ _ _ c.resume_by_steps.ensures).counts

pub returns-clause-sized : goal.returns-clause-sized
returns-clause-sized g c = resumes_sized _ _ _ _ _ c.resume_by_steps.ensures

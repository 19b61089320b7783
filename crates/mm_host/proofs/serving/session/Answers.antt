use Rattle.mm_host.proofs.Counting.{session_counted, session_writes, session_continues}
use Rattle.mm_host.proofs.RunningOnce.{session_runs_once}
use Rattle.mm_host.proofs.Lines.{spares_lines}
use Rattle.mm_host.proofs.serving.session.Goals as goal

pub returns-clause-platform : goal.returns-clause-platform
returns-clause-platform g c = (session_counted c.session_by_steps.ensures.sessions).says.platform

pub returns-clause-store : goal.returns-clause-store
returns-clause-store g c = (session_counted c.session_by_steps.ensures.sessions).says.store

pub returns-clause-named : goal.returns-clause-named
returns-clause-named g c = (session_counted c.session_by_steps.ensures.sessions).says.named

pub returns-clause-continues : goal.returns-clause-continues
returns-clause-continues g c =
    session_continues c.args.variant (g.M.Module.meaning c.args.module.now) (g.met.M.Module.is_lawful c.args.module.now) _ _
    c.session_by_steps.result

pub returns-clause-lines : goal.returns-clause-lines
returns-clause-lines g c = spares_lines c.session_by_steps.ensures.sessions

pub returns-clause-writes : goal.returns-clause-writes
returns-clause-writes g c = session_writes c.session_by_steps.ensures.sessions

pub returns-clause-once : goal.returns-clause-once
returns-clause-once g c =
    session_runs_once c.args.variant (g.M.Module.meaning c.args.module.now) (g.met.M.Module.is_lawful c.args.module.now) _ _
    c.session_by_steps.result

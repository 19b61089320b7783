use Rattle.mm_callers.proofs.Preparing.{counts_call}
use Rattle.mm_callers.proofs.OptCalls.{asked_once, asked_welcome, asked_quietly}
use Rattle.mm_callers.proofs.opt.ask_once.Goals as goal

pub returns-clause-once : goal.returns-clause-once
returns-clause-once g c = asked_once c.ask.ensures

pub returns-clause-welcome : goal.returns-clause-welcome
returns-clause-welcome g c = asked_welcome c.ask.ensures

pub returns-clause-complete : goal.returns-clause-complete
returns-clause-complete g c = asked_quietly c.ask.ensures

pub returns-clause-counts : goal.returns-clause-counts
returns-clause-counts g c = counts_call c.ask.ensures

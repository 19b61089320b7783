use Rattle.mm_callers.proofs.Below.{batch_result_of}
use Rattle.mm_callers.proofs.Preparing.{counts_ended}
use Rattle.mm_callers.proofs.OptCalls.{asked_in_memory}
use Rattle.mm_callers.proofs.opt.ask_in_memory.Goals as goal

pub returns-clause-complete : goal.returns-clause-complete
returns-clause-complete g c =
    asked_in_memory (g.M.Module.meaning c.args.module.now) c.ask_once.new.platform c.args.offer.now c.args.request.now
    (batch_result_of c.ask_once.result) c.end_plan.ensures c.ask_once.ensures.complete

pub returns-clause-counts : goal.returns-clause-counts
returns-clause-counts g c = counts_ended (batch_result_of c.ask_once.result) c.end_plan.ensures c.ask_once.ensures.counts

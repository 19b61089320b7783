use Rattle.std.proofs.lemmas.Result.{err_from_is_err_and}
use Rattle.mm_host.proofs.Turning.{goes_on, lacks_memory, stops_at_once}
use Rattle.mm_host.proofs.serving.session_by_steps.Goals as goal

pub returns-in_err-reader-clause-sessions : goal.returns-in_err-reader-clause-sessions
returns-in_err-reader-clause-sessions g c =
    let p = err_from_is_err_and c.from_residual.result c.from_residual.ensures.1 in
    rw (p.1, p.2) (lacks_memory c.args.caller.now.variant (g.M.Module.meaning c.args.caller.now.module.now) _)

pub returns-in-Err-clause-sessions : goal.returns-in-Err-clause-sessions
returns-in-Err-clause-sessions g c =
    stops_at_once c.resume-begun.ensures.resumes c.tell.ensures.tells _ c.in-Err.fault c.in-Err.is

pub returns-in-Ok-clause-sessions : goal.returns-in-Ok-clause-sessions
returns-in-Ok-clause-sessions g c =
    goes_on c.resume-begun.ensures.resumes c.tell.ensures.tells c.in-Ok.first c.in-Ok.is c.serve_lines.ensures.serves

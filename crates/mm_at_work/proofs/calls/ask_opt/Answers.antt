use Rattle.mm_at_work.proofs.calls.ask_opt.Goals as goal

pub returns : goal.returns
returns g c = c.ask_batch.ensures.goes

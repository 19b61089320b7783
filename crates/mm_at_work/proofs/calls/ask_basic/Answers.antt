use Rattle.mm_at_work.proofs.calls.ask_basic.Goals as goal

pub returns : goal.returns
returns g c = c.ask_batch.ensures.goes

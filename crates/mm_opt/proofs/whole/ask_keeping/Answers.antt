use Rattle.mm_opt.proofs.Below.{wholly}
use Rattle.mm_opt.proofs.whole.ask_keeping.Goals as goal

pub returns-in-Ok : goal.returns-in-Ok
returns-in-Ok g c =
    rw (← wholly c.in-Ok.answer c.into_one.result c.into_one.ensures.again c.into_one.ensures.position c.into_one.ensures.output
    c.into_one.ensures.snapshot) c.in-Ok.ensures

use Rattle.mm_at_work.proofs.WholeLives.{lives_checkpointed}
use Rattle.mm_at_work.specs.Devices.{two_cells}
use Rattle.mm_at_work.specs.Lives.{memory_life}
use Rattle.mm_at_work.proofs.lives.live_checkpointed.Goals as goal

pub returns-in-Ok : goal.returns-in-Ok
returns-in-Ok g c =
    lives_checkpointed (g.M.Module.meaning c.args.module.now) (g.met.M.Module.is_lawful c.args.module.now) c.sessions_offer_slots.ensures
    (memory_life c.args.it.now c.args.copy.now) _
    c.start.new.platform c.serve-first.new.platform c.start.new.store c.serve-first.new.store c.serve-first.new.out.received
    c.serve-first.result c.serve-second.result
    c.opt_life_is_one.ensures c.in-Ok.ensures.starts c.close_segment-said.result
    (two_cells c.close_segment-said.new.platform)
    (c.serve-first.ensures.sessions, (c.close_segment-said.ensures, (c.serve-second.ensures.sessions, tt)))

use Rattle.mm_at_work.proofs.WholeLives.{lives_on_copy}
use Rattle.mm_at_work.specs.Lives.{memory_life}
use Rattle.mm_at_work.proofs.lives.live_on_copy.Goals as goal

pub returns-in-Ok : goal.returns-in-Ok
returns-in-Ok g c =
    lives_on_copy (g.M.Module.meaning c.args.module.now) (g.met.M.Module.is_lawful c.args.module.now) c.sessions_offer_slots.ensures
    (memory_life c.args.it.now c.args.copy.now) _
    c.start.new.platform c.serve-first.new.platform c.start.new.store c.serve-first.new.store c.serve-first.new.out.received
    c.serve-first.result c.serve-second.result
    c.basic_life_is_one.ensures c.in-Ok.ensures.starts (c.serve-first.ensures.sessions, (c.serve-second.ensures.sessions, tt))

use Rattle.mm_at_work.proofs.CommandsKeeping.{begins_and_serves}
use Rattle.mm_at_work.specs.Devices.{memory_session}
use Rattle.mm_at_work.proofs.sessions.start_and_serve.Goals as goal

pub returns-in-Ok : goal.returns-in-Ok
returns-in-Ok g c =
    begins_and_serves (g.M.Module.meaning c.args.module.now) c.args.entropy.now.left c.start.new.entropy.left
    (memory_session c.args.platform.now c.args.store.now c.args.input.now.left c.args.out.now.received)
    (memory_session c.serve.new.platform c.serve.new.store c.serve.new.input.left c.serve.new.out.received) c.start.new.platform
    c.start.new.store c.serve.result c.in-Ok.ensures.starts c.serve.ensures.sessions
    c.serve.ensures.continues c.serve.ensures.once

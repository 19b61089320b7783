use Rattle.mm_at_work.proofs.CommandsKeeping.{serves_copy}
use Rattle.mm_at_work.specs.Devices.{memory_session}
use Rattle.mm_at_work.proofs.sessions.serve_copy.Goals as goal

pub returns : goal.returns
returns g c =
    serves_copy c.args.variant (g.M.Module.meaning c.args.module.now)
    (memory_session c.args.platform.now c.args.copy c.args.input.now.left c.args.out.now.received)
    (memory_session c.serve.new.platform c.serve.new.store c.serve.new.input.left c.serve.new.out.received) c.serve.result
    c.serve.ensures.sessions c.serve.ensures.once

use Rattle.mm_at_work.proofs.CommandsKeeping.{recovers_in_memory}
use Rattle.mm_at_work.specs.Devices.{memory_host}
use Rattle.mm_at_work.proofs.sessions.go_on.Goals as goal

pub returns : goal.returns
returns g c =
    recovers_in_memory c.args.variant (g.M.Module.meaning c.args.module.now) (memory_host c.args.platform.now c.args.store.now)
    (memory_host c.resume.new.platform c.resume.new.store) c.resume.result c.resume.ensures.recovers

use Rattle.mm_at_work.proofs.CommandsKeeping.{starts_in_memory}
use Rattle.mm_at_work.proofs.sessions.start.Goals as goal

pub returns-clause-starts : goal.returns-clause-starts
returns-clause-starts g c =
    starts_in_memory c.args.variant (g.M.Module.meaning c.args.module.now) c.args.platform.now c.init.new.platform
    c.args.store.now c.init.new.store c.args.entropy.now c.init.new.entropy c.init.result c.tells_cell.ensures c.init.ensures.leaves

use Rattle.mm_recovery.specs.FirstStart.{devices}
use Rattle.mm_client.specs.ClientLife.{memory_at}
use Rattle.mm_client.specs.LocalLife.{HoldsSession, local_standing}
use Rattle.mm_client.proofs.LocalLives.{rounds_on, serves_rounds}
use Rattle.mm_client.proofs.local.serve_local_client.Goals as goal

pub returns-in-Ok-live_as_client : goal.returns-in-Ok-live_as_client
returns-in-Ok-live_as_client g c =
    let meaning = g.M.Module.meaning c.args.program.now.module in
    let l = c.in-Ok-live_as_client.ensures in
    serves_rounds c.basic_clients_are_served_once.ensures c.opt_clients_are_served_once.ensures c.args.program.now.variant meaning
    (g.met.M.Module.is_lawful c.args.program.now.module)
    (devices (g.P.Device.standing c.args.program.now.platform) (g.T.Store.kept c.args.program.now.store)
    (g.E.Source.left c.args.entropy.now) (g.E.Source.faults c.args.entropy.now))
    (devices (g.P.Device.standing c.init-started.new.platform) (g.T.Store.kept c.init-started.new.store)
    (g.E.Source.left c.init-started.new.entropy) (g.E.Source.faults c.init-started.new.entropy))
    c.in-Ok.ensures.steps c.in-Ok.ensures.leaves
    (local_standing c.live_as_client.new.service.variant (g.M.Module.meaning c.live_as_client.new.service.module)
    (g.P.Device.standing c.live_as_client.new.service.platform) (g.T.Store.kept c.live_as_client.new.service.store))
    c.args.wanted.now l.hearings c.args.rounds c.in-Ok-live_as_client.client l.count
    (rounds_on (λ x. local_standing x.variant (g.M.Module.meaning x.module) (g.P.Device.standing x.platform) (g.T.Store.kept x.store))
    _ HoldsSession (λ old new lines heard h. h) 0 c.args.wanted.now l.hearings _ _ (memory_at 0) c.in-Ok-live_as_client.client l.lives)

use Rattle.std.proofs.Common.{ap}
use Rattle.std.specs.Result.{result_err}
use Rattle.mm_digest.specs.declared.variant.Variant.TheVariants.{Opt}
use Rattle.mm_recovery.specs.FirstStart.{devices}
use Rattle.mm_recovery.proofs.Above.{is_checkpoint}
use Rattle.mm_life.specs.OneStore.{life_standing}
use Rattle.mm_life.proofs.OptCaller.{lives_over_checkpoint}
use Rattle.mm_life.proofs.one_store.live_over_checkpoint.Goals as goal

pub returns-in-Ok-cycle : goal.returns-in-Ok-cycle
returns-in-Ok-cycle g c =
    lives_over_checkpoint c.opt_life_goes_on.ensures c.lives_write_once.ensures.opt (g.M.Module.meaning c.args.module.now)
    (g.met.M.Module.is_lawful c.args.module.now)
    (life_standing (devices (g.P.Device.standing c.args.platform.now) (g.T.Store.kept c.args.store.now)
    (g.E.Source.left c.args.entropy.now) (g.E.Source.faults c.args.entropy.now)) (g.S.Source.left c.args.first_input.now)
    (g.S.Source.left c.args.second_input.now) (g.K.Sink.received c.args.out.now))
    (life_standing (devices (g.P.Device.standing c.session-second.new.platform) (g.T.Store.kept c.session-second.new.store)
    (g.E.Source.left c.init.new.entropy) (g.E.Source.faults c.init.new.entropy)) (g.S.Source.left c.session-first.new.input)
    (g.S.Source.left c.session-second.new.input) (g.K.Sink.received c.session-second.new.out))
    (devices (g.P.Device.standing c.init.new.platform) (g.T.Store.kept c.init.new.store) (g.E.Source.left c.init.new.entropy)
    (g.E.Source.faults c.init.new.entropy)) c.in-Ok.ensures.steps c.in-Ok.ensures.leaves
    (g.P.Device.standing c.session-first.new.platform) (g.P.Device.standing c.checkpoint-said.new.platform)
    (g.P.Device.standing c.cycle.new.self) (g.T.Store.kept c.session-first.new.store) (g.K.Sink.received c.session-first.new.out)
    c.session-first.result c.checkpoint-said.result c.session-second.result (
      c.session-first.ensures.sessions,
      (
        is_checkpoint _ _ _ c.checkpoint-said.ensures.closes c.checkpoint-said.ensures.goes,
        (
          (c.device_calls_are_deeds.ensures.cycles Opt (g.M.Module.meaning c.args.module.now)
              (g.P.Device.standing c.checkpoint-said.new.platform) (g.P.Device.standing c.cycle.new.self) (result_err c.cycle.result)
              c.cycle.ensures).unfailed (ap (λ r. result_err r) c.in-Ok-cycle.is),
          (c.session-second.ensures.sessions, tt),
        ),
      ),
    )

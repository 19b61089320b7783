use Rattle.std.proofs.Common.{ap}
use Rattle.std.specs.Result.{result_err}
use Rattle.mm_digest.specs.declared.variant.Variant.TheVariants.{Basic}
use Rattle.mm_at_work.proofs.WholeLives.{lives_without_power}
use Rattle.mm_at_work.specs.Devices.{two_cells}
use Rattle.mm_at_work.specs.Lives.{memory_life}
use Rattle.mm_at_work.proofs.lives.live_without_power.Goals as goal

pub returns-in-Ok-cycle : goal.returns-in-Ok-cycle
returns-in-Ok-cycle g c =
    lives_without_power (g.M.Module.meaning c.args.module.now) (g.met.M.Module.is_lawful c.args.module.now) c.sessions_offer_slots.ensures
    (memory_life c.args.it.now c.args.copy.now) _
    c.start.new.platform c.serve-first.new.platform c.start.new.store c.serve-first.new.store c.serve-first.new.out.received
    c.serve-first.result c.serve-second.result
    c.basic_life_is_one.ensures c.in-Ok.ensures.starts
    (two_cells c.cycle.new.self) (
      c.serve-first.ensures.sessions,
      (
        (c.device_calls_are_deeds.ensures.cycles Basic (g.M.Module.meaning c.args.module.now)
            (two_cells c.serve-first.new.platform) (two_cells c.cycle.new.self) (result_err c.cycle.result)
            c.cycle.ensures).unfailed (ap (λ r. result_err r) c.in-Ok-cycle.is),
        (c.serve-second.ensures.sessions, tt),
      ),
    )

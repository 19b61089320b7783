use Rattle.std.specs.Prelude.{refl}
use Rattle.mm_machine.specs.declared.call.OpStage.TheVariants.{Begun}
use Rattle.mm_module.specs.Batches.{batch_of}
use Rattle.mm_ask.proofs.Asking.{asks_whole}
use Rattle.mm_ask.proofs.ask.Ask.call.Goals as goal

pub returns : goal.returns
returns g c =
    asks_whole (g.M.Module.meaning c.args.self.now.module.now) c.args.self.now.offer.now (batch_of c.args.self.now.batch)
    (g.P.Device.standing c.args.platform.now) (g.P.Device.standing c.run.new.platform) c.args.self.now.variant Begun
    c.run.result c.of.result refl c.run.ensures c.of.ensures

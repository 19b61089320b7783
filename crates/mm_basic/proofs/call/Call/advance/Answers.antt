use Rattle.mm_module.specs.Batches.{batch_of}
use Rattle.mm_basic.proofs.Telling.{advanced}
use Rattle.mm_basic.proofs.call.Call.advance.Goals as goal

pub returns : goal.returns
returns g c =
    rw (← c.self.view_is) (advanced (g.M.Module.meaning c.args.module.now) c.args.offer.now (batch_of c.args.batch)
    c.self.inside.call (g.P.Device.standing c.args.platform.now) (g.P.Device.standing c.advance.new.platform)
    c.advance.result c.turn_of.result c.advance.ensures.steps c.turn_of.ensures)

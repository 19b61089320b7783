use Rattle.mm_module.specs.Batches.{batch_of}
use Rattle.mm_opt.proofs.Reading.{advanced}
use Rattle.mm_opt.proofs.call.Call.advance.Goals as goal

pub returns : goal.returns
returns g c =
    rw (← c.self.view_is)
    (advanced c.self.inside.at (g.M.Module.meaning c.args.module.now) (g.P.Device.standing c.args.platform.now)
    (g.P.Device.standing c.advance.new.platform) c.args.offer.now (batch_of c.args.batch) c.turn_of.result c.advance.result
    c.advance.ensures.steps c.advance.ensures.room c.turn_of.ensures)

use Rattle.std.proofs.Common.{sym, ◌∙◌}
use Rattle.mm_module.specs.Batches.{batch_of}
use Rattle.mm_world.proofs.InVain.{asks_to}
use Rattle.mm_world.proofs.call.planned_call.Goals as goal

pub returns : goal.returns
returns g c = λ issued.
    asks_to c.args.caller.now.variant (g.M.Module.meaning c.args.caller.now.module.now) c.args.platform.now c.planned.new.platform
    c.args.course.now.meddles.now c.args.course.now.stop c.args.offer.now (batch_of c.args.batch) c.planned.result
    (sym c.is_long.ensures ∙ c.if-is_long.false) issued c.planned.ensures

use Rattle.mm_world.proofs.InVain.{checks_lack, checks_to}
use Rattle.mm_world.proofs.call.planned_checkpoint.Goals as goal

pub returns-in-Ok : goal.returns-in-Ok
returns-in-Ok c = λ issued.
    checks_to c.args.platform.now c.close.new.platform c.args.meddles.now c.args.stop issued c.close.result c.close.ensures c.in-Ok.called
    c.in-Ok.is

pub returns-in-Err : goal.returns-in-Err
returns-in-Err c = λ issued.
    checks_lack c.args.platform.now c.close.new.platform c.args.meddles.now c.args.stop issued c.close.result c.close.ensures
    c.in-Err.memory c.in-Err.is

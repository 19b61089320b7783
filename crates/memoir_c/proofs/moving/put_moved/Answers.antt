use Rattle.std.proofs.Common.{rules}
use Rattle.memoir_c.proofs.moving.put_moved.Goals as goal

pub returns-in-Done-clause-tells : goal.returns-in-Done-clause-tells
returns-in-Done-clause-tells c = search rules

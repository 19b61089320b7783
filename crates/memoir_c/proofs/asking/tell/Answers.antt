use Rattle.std.proofs.Common.{rules}
use Rattle.memoir_c.proofs.asking.tell.Goals as goal

pub returns-in-Ok-Differs-clause-tells : goal.returns-in-Ok-Differs-clause-tells
returns-in-Ok-Differs-clause-tells c = search rules

pub returns-in-Ok-Next-clause-tells : goal.returns-in-Ok-Next-clause-tells
returns-in-Ok-Next-clause-tells c = search rules

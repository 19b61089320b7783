use Rattle.std.proofs.Common.{rules}
use Rattle.memoir_c.proofs.asking.put_answer.Goals as goal

pub returns-clause-tells : goal.returns-clause-tells
returns-clause-tells c = search rules

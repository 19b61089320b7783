use Rattle.std.proofs.Common.{rules}
use Rattle.memoir_c.proofs.made.made.Goals as goal

pub returns-in-3-clause-ok : goal.returns-in-3-clause-ok
returns-in-3-clause-ok c = search rules

use Rattle.std.proofs.Common.{rules}
use Rattle.memoir_c.proofs.said.ReturnStatus.code.Goals as goal

pub returns-in-Differs-clause-number : goal.returns-in-Differs-clause-number
returns-in-Differs-clause-number c = search rules

pub returns-in-Differs-clause-next : goal.returns-in-Differs-clause-next
returns-in-Differs-clause-next c = search rules

use Rattle.std.proofs.Common.{rules}
use Rattle.mm_status.proofs.telling.answered.Goals as goal

pub returns-clause-ends : goal.returns-clause-ends
returns-clause-ends g c = search rules

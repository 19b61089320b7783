use Rattle.std.proofs.Common.{rules}
use Rattle.mm_slots.proofs.tenant.secrets_of.Goals as goal

pub returns-clause-key : goal.returns-clause-key
returns-clause-key c = search rules

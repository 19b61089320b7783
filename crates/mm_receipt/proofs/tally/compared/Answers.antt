use Rattle.std.proofs.Common.{rules}
use Rattle.mm_receipt.proofs.tally.compared.Goals as goal

pub returns-else-eq : goal.returns-else-eq
returns-else-eq c = search rules

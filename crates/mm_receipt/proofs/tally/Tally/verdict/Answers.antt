use Rattle.std.proofs.Common.{rules}
use Rattle.mm_receipt.proofs.tally.Tally.verdict.Goals as goal

pub returns-in-None : goal.returns-in-None
returns-in-None c = search rules

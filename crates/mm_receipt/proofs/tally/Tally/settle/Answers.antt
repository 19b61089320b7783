use Rattle.std.proofs.Common.{rules}
use Rattle.mm_receipt.proofs.tally.Tally.settle.Goals as goal

pub returns-in_ok-remember-in-Good : goal.returns-in_ok-remember-in-Good
returns-in_ok-remember-in-Good c = search rules

use Rattle.std.proofs.Common.{rules}
use Rattle.mm_transfer.proofs.commands.enter.Goals as goal

pub returns-in-Ok-clause-entered : goal.returns-in-Ok-clause-entered
returns-in-Ok-clause-entered c = search rules

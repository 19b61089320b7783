use Rattle.std.proofs.Common.{rules}
use Rattle.mm_transfer.proofs.moving.moves_at.Goals as goal

pub returns-in-Cut : goal.returns-in-Cut
returns-in-Cut c = search rules

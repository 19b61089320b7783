use Rattle.std.proofs.Common.{rules}
use Rattle.mm_transfer.proofs.sides.Sides.kept.Goals as goal

pub returns : goal.returns
returns c = search rules

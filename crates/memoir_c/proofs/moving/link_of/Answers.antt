use Rattle.std.proofs.Common.{rules}
use Rattle.memoir_c.proofs.moving.link_of.Goals as goal

pub returns : goal.returns
returns c = search rules

use Rattle.std.proofs.Common.{rules}
use Rattle.memoir_c.proofs.provisioning.first.Goals as goal

pub returns : goal.returns
returns c = search rules

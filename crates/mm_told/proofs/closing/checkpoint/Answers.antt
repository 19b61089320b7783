use Rattle.mm_told.proofs.Coming.{closes}
use Rattle.mm_told.proofs.closing.checkpoint.Goals as goal

pub returns : goal.returns
returns g c = rw c.told.ensures (closes g.host c.args.made.now c.requires c.follow.result c.follow.ensures)

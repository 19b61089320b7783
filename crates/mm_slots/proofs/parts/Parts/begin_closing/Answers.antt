use Rattle.std.proofs.Common.{rules}
use Rattle.mm_slots.proofs.Beginning.{close_begins}
use Rattle.mm_slots.proofs.parts.Parts.begin_closing.Goals as goal

pub returns : goal.returns
returns c = rw (c.fly.ensures, c.begin.ensures) (close_begins c.args.self.now c.requires.fits (search rules))

use Rattle.std.proofs.Common.{rules}
use Rattle.mm_gen.proofs.turn.cut_of.Goals as goal

pub returns-in-Opt : goal.returns-in-Opt
returns-in-Opt c = search rules

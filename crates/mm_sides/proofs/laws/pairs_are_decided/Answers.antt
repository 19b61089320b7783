use Rattle.mm_sides.proofs.Breaking.{pairs_decided}
use Rattle.mm_sides.proofs.laws.pairs_are_decided.Goals as goal

pub returns : goal.returns
returns c = pairs_decided c.names_are_decided.ensures.basic c.names_are_decided.ensures.opt

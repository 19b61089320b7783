use Rattle.mm_sides.proofs.BothAgree.{pair_fronts_longest}
use Rattle.mm_sides.proofs.laws.pair_fronts_are_longest.Goals as goal

pub returns : goal.returns
returns c = pair_fronts_longest c.pairs_are_decided.ensures

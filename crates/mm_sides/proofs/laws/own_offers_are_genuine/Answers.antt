use Rattle.mm_sides.proofs.OwnNames.{own_premise_gives}
use Rattle.mm_sides.proofs.laws.own_offers_are_genuine.Goals as goal

pub returns : goal.returns
returns c = own_premise_gives

use Rattle.mm_life.proofs.Chains.{parts_are_refused}
use Rattle.mm_life.proofs.laws.parts_are_refused_elsewhere.Goals as goal

pub returns : goal.returns
returns c = parts_are_refused

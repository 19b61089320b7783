use Rattle.mm_life.proofs.HonestLife.{basic_goes_on}
use Rattle.mm_life.proofs.honest.basic_life_goes_on.Goals as goal

pub returns : goal.returns
returns c = basic_goes_on

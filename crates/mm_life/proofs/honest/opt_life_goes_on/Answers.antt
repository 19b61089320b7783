use Rattle.mm_life.proofs.HonestLife.{opt_goes_on}
use Rattle.mm_life.proofs.honest.opt_life_goes_on.Goals as goal

pub returns : goal.returns
returns c = opt_goes_on

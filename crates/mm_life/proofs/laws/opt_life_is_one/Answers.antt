use Rattle.mm_life.proofs.OptLife.{opt_is_one}
use Rattle.mm_life.proofs.laws.opt_life_is_one.Goals as goal

pub returns : goal.returns
returns c = opt_is_one

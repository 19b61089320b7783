use Rattle.mm_life.proofs.BasicLife.{basic_deeds_stay}
use Rattle.mm_life.proofs.OptLife.{opt_deeds_stay}
use Rattle.mm_life.proofs.laws.deeds_stay.Goals as goal

pub returns-clause-basic : goal.returns-clause-basic
returns-clause-basic c = basic_deeds_stay

pub returns-clause-opt : goal.returns-clause-opt
returns-clause-opt c = opt_deeds_stay

use Rattle.mm_moments.proofs.MortalLaws.{basic_one, opt_one}
use Rattle.mm_moments.proofs.mortal.mortal_lives_are_one.Goals as goal

pub returns-clause-basic : goal.returns-clause-basic
returns-clause-basic c = basic_one c.mortal_lives_end.ensures c.basic_life_is_one.ensures

pub returns-clause-opt : goal.returns-clause-opt
returns-clause-opt c = opt_one c.mortal_lives_end.ensures c.opt_life_is_one.ensures

use Rattle.mm_moments.proofs.MortalLaws.{basic_goes_on, opt_goes_on}
use Rattle.mm_moments.proofs.mortal.mortal_lives_go_on.Goals as goal

pub returns-clause-basic : goal.returns-clause-basic
returns-clause-basic c = basic_goes_on c.mortal_lives_end.ensures c.basic_life_goes_on.ensures

pub returns-clause-opt : goal.returns-clause-opt
returns-clause-opt c = opt_goes_on c.mortal_lives_end.ensures c.opt_life_goes_on.ensures

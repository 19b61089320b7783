use Rattle.mm_mortal_worlds.proofs.OverStores.{basic_goes_on, opt_goes_on}
use Rattle.mm_mortal_worlds.proofs.laws.mortal_worlds_go_on.Goals as goal

pub returns-clause-basic : goal.returns-clause-basic
returns-clause-basic c = basic_goes_on c.mortal_worlds_end.ensures c.basic_world_goes_on.ensures

pub returns-clause-opt : goal.returns-clause-opt
returns-clause-opt c = opt_goes_on c.mortal_worlds_end.ensures c.opt_world_goes_on.ensures

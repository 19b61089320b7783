use Rattle.mm_model.proofs.Named.{basic_stands_here, opt_stands_here}
use Rattle.mm_model.proofs.laws.offers_stand_here.Goals as goal

pub returns-clause-basic : goal.returns-clause-basic
returns-clause-basic c = basic_stands_here

pub returns-clause-opt : goal.returns-clause-opt
returns-clause-opt c = opt_stands_here

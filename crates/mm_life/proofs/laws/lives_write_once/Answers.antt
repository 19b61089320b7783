use Rattle.mm_life.proofs.Longer.{basic_lives_write, opt_lives_write}
use Rattle.mm_life.proofs.laws.lives_write_once.Goals as goal

pub returns-clause-basic : goal.returns-clause-basic
returns-clause-basic c = basic_lives_write

pub returns-clause-opt : goal.returns-clause-opt
returns-clause-opt c = opt_lives_write

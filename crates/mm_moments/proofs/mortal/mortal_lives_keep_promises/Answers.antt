use Rattle.mm_moments.proofs.MortalLaws.{basic_writes_once, opt_writes_once, promises, tells}
use Rattle.mm_moments.proofs.mortal.mortal_lives_keep_promises.Goals as goal

pub returns-clause-tells : goal.returns-clause-tells
returns-clause-tells c = tells c.lives_tell_what_was_said.ensures

pub returns-clause-promises : goal.returns-clause-promises
returns-clause-promises c = promises c.lives_keep_promises.ensures

pub returns-clause-basic : goal.returns-clause-basic
returns-clause-basic c = basic_writes_once c.lives_write_once.ensures.basic

pub returns-clause-opt : goal.returns-clause-opt
returns-clause-opt c = opt_writes_once c.lives_write_once.ensures.opt

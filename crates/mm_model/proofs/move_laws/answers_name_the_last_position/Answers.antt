use Rattle.mm_model.proofs.Named.{basic_issued, opt_issued}
use Rattle.mm_model.proofs.move_laws.answers_name_the_last_position.Goals as goal

pub returns-clause-basic : goal.returns-clause-basic
returns-clause-basic c = basic_issued

pub returns-clause-opt : goal.returns-clause-opt
returns-clause-opt c = opt_issued

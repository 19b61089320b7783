use Rattle.mm_model.proofs.Named.{basic_names, opt_names}
use Rattle.mm_model.proofs.move_laws.moves_keep_names.Goals as goal

pub returns-clause-basic : goal.returns-clause-basic
returns-clause-basic c = basic_names

pub returns-clause-opt : goal.returns-clause-opt
returns-clause-opt c = opt_names

use Rattle.mm_model.proofs.Moves.{basic_digests, opt_digests}
use Rattle.mm_model.proofs.move_laws.moves_are_device_steps.Goals as goal

pub returns-clause-basic : goal.returns-clause-basic
returns-clause-basic c = basic_digests

pub returns-clause-opt : goal.returns-clause-opt
returns-clause-opt c = opt_digests

use Rattle.std.proofs.Common.{refl}
use Rattle.mm_model.proofs.Moves.{opt_whole}
use Rattle.mm_model.proofs.move_laws.whole_commits_are_moves.Goals as goal

pub returns-clause-basic : goal.returns-clause-basic
returns-clause-basic c = λ meaning key y b. refl

pub returns-clause-opt : goal.returns-clause-opt
returns-clause-opt c = opt_whole

use Rattle.mm_model.specs.FormLaws.{first_outside}
use Rattle.mm_model.proofs.Moves.{outside_moved}
use Rattle.mm_model.proofs.move_laws.moves_keep_values_outside.Goals as goal

pub returns-clause-first : goal.returns-clause-first
returns-clause-first c = first_outside

pub returns-clause-next : goal.returns-clause-next
returns-clause-next c = outside_moved

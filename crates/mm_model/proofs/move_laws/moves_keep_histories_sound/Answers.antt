use Rattle.mm_model.specs.FormLaws.{first_sound}
use Rattle.mm_model.proofs.Moves.{sound_moved}
use Rattle.mm_model.proofs.move_laws.moves_keep_histories_sound.Goals as goal

pub returns-clause-first : goal.returns-clause-first
returns-clause-first c = first_sound

pub returns-clause-next : goal.returns-clause-next
returns-clause-next c = sound_moved

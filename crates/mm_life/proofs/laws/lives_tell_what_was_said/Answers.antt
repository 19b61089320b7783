use Rattle.mm_life.proofs.Living.{lives_tell}
use Rattle.mm_life.proofs.laws.lives_tell_what_was_said.Goals as goal

pub returns : goal.returns
returns c = lives_tell c.tells_what_was_said.ensures

use Rattle.mm_life.proofs.Living.{lives_keep}
use Rattle.mm_life.proofs.laws.lives_keep_promises.Goals as goal

pub returns : goal.returns
returns c = lives_keep c.runs_keep_promises.ensures

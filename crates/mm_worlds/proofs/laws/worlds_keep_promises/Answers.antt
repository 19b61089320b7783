use Rattle.mm_worlds.proofs.Decided.{worlds_keep}
use Rattle.mm_worlds.proofs.laws.worlds_keep_promises.Goals as goal

pub returns : goal.returns
returns c = worlds_keep c.runs_keep_promises.ensures

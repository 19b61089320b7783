use Rattle.mm_mortal_worlds.proofs.MortalWorlds.{promises}
use Rattle.mm_mortal_worlds.proofs.laws.mortal_worlds_keep_promises.Goals as goal

pub returns : goal.returns
returns c = promises c.worlds_keep_promises.ensures

use Rattle.mm_mortal_worlds.proofs.MortalWorlds.{worlds_end}
use Rattle.mm_mortal_worlds.proofs.laws.mortal_worlds_end.Goals as goal

pub returns : goal.returns
returns c = worlds_end c.mortal_lives_end.ensures

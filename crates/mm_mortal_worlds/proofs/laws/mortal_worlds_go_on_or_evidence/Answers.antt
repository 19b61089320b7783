use Rattle.mm_mortal_worlds.proofs.OverStores.{goes_on_or_evidence, opt_goes_on_or_evidence}
use Rattle.mm_mortal_worlds.proofs.laws.mortal_worlds_go_on_or_evidence.Goals as goal

pub returns-clause-basic : goal.returns-clause-basic
returns-clause-basic c = goes_on_or_evidence c.mortal_worlds_end.ensures c.world_goes_on_or_evidence.ensures

pub returns-clause-opt : goal.returns-clause-opt
returns-clause-opt c = opt_goes_on_or_evidence c.mortal_worlds_end.ensures c.opt_world_goes_on_or_evidence.ensures

use Rattle.mm_honest_worlds.proofs.Crossings.{goes_on_or_evidence}
use Rattle.mm_honest_worlds.proofs.laws.world_goes_on_or_evidence.Goals as goal

pub returns : goal.returns
returns c = goes_on_or_evidence c.basic_world_goes_on.ensures

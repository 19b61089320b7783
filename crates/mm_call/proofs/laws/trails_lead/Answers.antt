use Rattle.mm_call.specs.TrailLaws.{leads}
use Rattle.mm_call.proofs.laws.trails_lead.Goals as goal

pub returns : goal.returns
returns c = leads

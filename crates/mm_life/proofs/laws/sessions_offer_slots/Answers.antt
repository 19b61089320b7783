use Rattle.mm_life.proofs.KilledPrograms.{offer_slots}
use Rattle.mm_life.proofs.laws.sessions_offer_slots.Goals as goal

pub returns : goal.returns
returns c = offer_slots

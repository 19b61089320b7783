use Rattle.mm_moments.proofs.MortalEnds.{killed_offer}
use Rattle.mm_moments.proofs.mortal.killed_sessions_offer_slots.Goals as goal

pub returns : goal.returns
returns c = killed_offer c.session_stops_anywhere.ensures c.sessions_offer_slots.ensures

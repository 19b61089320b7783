use Rattle.mm_moments.proofs.SessionStops.{sessions_stop_anywhere}
use Rattle.mm_moments.proofs.moments.session_stops_anywhere.Goals as goal

pub returns : goal.returns
returns c = sessions_stop_anywhere

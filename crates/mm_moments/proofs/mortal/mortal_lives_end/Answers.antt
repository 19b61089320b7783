use Rattle.mm_moments.proofs.MortalEnds.{lives_end}
use Rattle.mm_moments.proofs.mortal.mortal_lives_end.Goals as goal

pub returns : goal.returns
returns c = lives_end c.session_stops_anywhere.ensures

use Rattle.mm_outcome.proofs.MetPremises.{basic_met, opt_met, segments_met}
use Rattle.mm_outcome.proofs.laws.premises_are_met.Goals as goal

pub returns : goal.returns
returns c = record { basic = basic_met; opt = opt_met; segments = segments_met }

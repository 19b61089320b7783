use Rattle.mm_recovery.proofs.Meeting.{keeps_fitting}
use Rattle.mm_recovery.proofs.slot_laws.slots_keep_fitting.Goals as goal

pub returns : goal.returns
returns c = keeps_fitting

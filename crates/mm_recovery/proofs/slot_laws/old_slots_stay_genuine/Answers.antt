use Rattle.mm_recovery.proofs.Meeting.{fitting_are_genuine, stays_genuine}
use Rattle.mm_recovery.proofs.slot_laws.old_slots_stay_genuine.Goals as goal

pub returns-clause-fitting : goal.returns-clause-fitting
returns-clause-fitting c = fitting_are_genuine

pub returns-clause-stays : goal.returns-clause-stays
returns-clause-stays c = stays_genuine

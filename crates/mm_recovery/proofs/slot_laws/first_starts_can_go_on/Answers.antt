use Rattle.mm_recovery.proofs.Meeting.{first_starts_can_go_on as can_go_on}
use Rattle.mm_recovery.proofs.slot_laws.first_starts_can_go_on.Goals as goal

pub returns : goal.returns
returns c = can_go_on

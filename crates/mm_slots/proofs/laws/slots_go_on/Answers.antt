use Rattle.mm_slots.proofs.Telling.{slots_go_on}
use Rattle.mm_slots.proofs.laws.slots_go_on.Goals as goal

pub returns : goal.returns
returns c = slots_go_on

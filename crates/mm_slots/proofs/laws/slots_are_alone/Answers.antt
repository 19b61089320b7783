use Rattle.mm_slots.proofs.Alone.{alone}
use Rattle.mm_slots.proofs.laws.slots_are_alone.Goals as goal

pub returns : goal.returns
returns c = alone

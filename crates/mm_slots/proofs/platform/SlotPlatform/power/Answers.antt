use Rattle.std.proofs.Common.{rules}
use Rattle.mm_slots.proofs.platform.SlotPlatform.power.Goals as goal

pub returns : goal.returns
returns c = search rules

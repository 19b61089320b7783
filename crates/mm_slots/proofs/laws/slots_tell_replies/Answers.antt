use Rattle.mm_slots.proofs.Alone.{tells_replies}
use Rattle.mm_slots.proofs.laws.slots_tell_replies.Goals as goal

pub returns : goal.returns
returns c = tells_replies

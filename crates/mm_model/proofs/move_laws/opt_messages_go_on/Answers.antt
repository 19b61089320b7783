use Rattle.mm_model.proofs.Listing.{opt_messages}
use Rattle.mm_model.proofs.move_laws.opt_messages_go_on.Goals as goal

pub returns : goal.returns
returns c = opt_messages

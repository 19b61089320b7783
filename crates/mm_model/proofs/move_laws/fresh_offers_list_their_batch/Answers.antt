use Rattle.mm_model.proofs.Named.{fresh_lists}
use Rattle.mm_model.proofs.move_laws.fresh_offers_list_their_batch.Goals as goal

pub returns : goal.returns
returns c = fresh_lists

use Rattle.mm_transfer.proofs.Matching.{transfers_go_on}
use Rattle.mm_transfer.proofs.laws.transfers_go_on.Goals as goal

pub returns : goal.returns
returns c = transfers_go_on c.both_go_on.ensures

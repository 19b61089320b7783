use Rattle.mm_move.proofs.CellLaws.{cells_are_read}
use Rattle.mm_move.proofs.laws.cells_are_read.Goals as goal

pub returns : goal.returns
returns c = cells_are_read

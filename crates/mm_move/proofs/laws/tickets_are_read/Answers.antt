use Rattle.mm_move.proofs.TicketLaws.{tickets_are_read}
use Rattle.mm_move.proofs.laws.tickets_are_read.Goals as goal

pub returns : goal.returns
returns c = tickets_are_read

use Rattle.mm_move.proofs.Below.{ap, TicketContent}
use Rattle.mm_seal.specs.Parts.{content_of}
use Rattle.mm_move.proofs.TicketLaws.{ticket_bounded}
use Rattle.mm_move.proofs.accepting.right_ticket.Goals as goal

pub returns-else-not-tag_right-clause-bounded : goal.returns-else-not-tag_right-clause-bounded
returns-else-not-tag_right-clause-bounded g c =
    ticket_bounded c.args.variant c.id.result c.args.ticket.now c.in-Ok.offered (content_of c.ticket-ticket.result.body) c.in-Ok.ensures
    (ap (λ (t : TicketContent). t.content) c.ticket-ticket.ensures)

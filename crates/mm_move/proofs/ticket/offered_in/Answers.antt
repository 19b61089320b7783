use Rattle.mm_move.proofs.Below.{sym, ◌∙◌, ap, true, ◌≡◌, tagged_ticket_in, signed_bytes, is_spelled_by, TicketContent}
use Rattle.mm_move.proofs.TicketLaws.{signed_in, tag_in, same_tagged}
use Rattle.mm_move.proofs.ticket.offered_in.Goals as goal

pub invariant_of-result : goal.invariant_of-result
invariant_of-result c =
    let spelled : is_spelled_by c.args.bytes.now (tagged_ticket_in c.args.bytes.now) ≡ true =
    sym c.is_spelled_by.ensures ∙ c.if-not-is_spelled_by.false in
    c.in_ok-signed.ensures.cases.0 ∙ signed_in c.args.bytes.now spelled
    ∙ ap (λ (t : TicketContent). signed_bytes t) (sym c.ticket_in-ticket.ensures)

pub returns : goal.returns
returns c = (
  same_tagged (tagged_ticket_in c.args.bytes.now) _ _ c.ticket_in-ticket.ensures (c.in_ok-signed.ensures.cases.1
      ∙ sym (tag_in c.args.bytes.now)),
  sym c.is_spelled_by.ensures ∙ c.if-not-is_spelled_by.false,
)

use Rattle.mm_move.proofs.Below.{◌≡◌, sym, ◌∙◌, ap, Bool, List, ℕ, bytes_eq, ticket_content, ticket_front}
use Rattle.mm_move.proofs.TicketLaws.{front_tells, unbounded}
use Rattle.mm_move.proofs.ticket.is_spelled_by.Goals as goal

pub returns-then-not-is_bounded : goal.returns-then-not-is_bounded
returns-then-not-is_bounded c =
    unbounded c.args.bytes.now (ticket_content c.args.ticket.now) c.requires.long c.requires.ticket
    (sym c.is_bounded.ensures ∙ c.if-not-is_bounded.true)

pub returns : goal.returns
returns c =
    let front : c.as_slice.result.now ≡ ticket_front (ticket_content c.args.ticket.now) = c.as_slice.ensures ∙ c.front_of.ensures in
    let test : c.eq.result ≡ bytes_eq c.split_at.result.0.now (ticket_front (ticket_content c.args.ticket.now)) =
    c.eq.ensures ∙ ap (λ (x : List ℕ). bytes_eq c.split_at.result.0.now x) front in
    front_tells c.args.bytes.now c.split_at.result.0.now (ticket_content c.args.ticket.now) c.eq.result c.requires.long c.requires.ticket
    c.split_at.ensures.front test (sym c.is_bounded.ensures ∙ c.if-not-is_bounded.false)

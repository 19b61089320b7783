-- What each move finds in the cell, in the order of its refusals; but for want of memory.
use Rattle.std.specs.Prelude.{ℕ, ◌==◌, ◌&&◌, ◌||◌, Bool, true, false, not, List, Option, None, Some, Result, Ok, Err, if◌then◌else◌}
use Rattle.std.specs.List.{list_any}
use Rattle.std.specs.Str.{bytes_eq}
use Rattle.mm_digest.specs.declared.digest.Digest.{Digest}
use Rattle.mm_digest.specs.declared.variant.Variant.{Variant}
use Rattle.mm_digest.specs.declared.variant.Variant.TheVariants as variants
use Rattle.mm_digest.specs.Messages.{zero_bytes}
use Rattle.mm_module.specs.Meaning.{Meaning}
use Rattle.mm_seal.specs.declared.cell.Cell.{Cell}
use Rattle.mm_seal.specs.declared.cell.CellFault.{CellFault}
use Rattle.mm_seal.specs.declared.cell.CellFault.TheVariants.{Blank, Cell as Unspelled}
use Rattle.mm_seal.specs.declared.snapshot.Place.{Place}
use Rattle.mm_seal.specs.declared.snapshot.Place.TheVariants.{Basic, Opt}
use Rattle.mm_seal.specs.declared.snapshot.PartsFault.{PartsFault}
use Rattle.mm_seal.specs.declared.snapshot.PartsFault.TheVariants.{Form, Kind}
use Rattle.mm_seal.specs.Cell.{cell_spelling}
use Rattle.mm_seal.specs.Parts.{parts_of, is_same_variant}
use Rattle.mm_seal.specs.Snapshot.{Content, Snapshot, tag_of, sealed_snapshot_of}
use Rattle.mm_model.specs.declared.refusal.Refusal.TheVariants as core
use Rattle.mm_model.specs.Verdicts.{forms_of, is_fresh_form}
use Rattle.mm_move.specs.declared.accepting.Accepted.{Accepted}
use Rattle.mm_move.specs.declared.cell.MovedCell.{MovedCell}
use Rattle.mm_move.specs.declared.cell.MovedCell.TheVariants.{Live, Waiting as Waits, Retired as Left}
use Rattle.mm_move.specs.declared.cell.RetiredCell.{RetiredCell}
use Rattle.mm_move.specs.declared.cell.WaitingCell.{WaitingCell}
use Rattle.mm_move.specs.declared.inviting.Invited.{Invited}
use Rattle.mm_move.specs.declared.inviting.Invited.TheVariants.{Done, Again}
use Rattle.mm_move.specs.declared.link.Link.{Link}
use Rattle.mm_move.specs.declared.ready.ReadyMove.{ReadyMove}
use Rattle.mm_move.specs.declared.refusal.MoveRefusal.{MoveRefusal}
use Rattle.mm_move.specs.declared.refusal.MoveRefusal.TheVariants.{Core, Already, Open, Gone, Nonce, Barrier}
use Rattle.mm_move.specs.Cells.{waiting_spelling, retired_spelling, refusal_if}
use Rattle.mm_move.specs.Tickets.{summary_in, place_at, TicketContent, TaggedTicket, ticket_tag, sealed_ticket, ticket_of}

-- the barrier of a module that moves over the link: Basic has none
abbrev pub barrier_of : Variant → Link → List ℕ
barrier_of variants.Basic link = zero_bytes
barrier_of variants.Opt link = link.barrier

-- whether a cell's barrier is another than the link's: in Basic it counts for nothing
abbrev pub is_barred : Variant → List ℕ → Link → Bool
is_barred variants.Basic barrier link = false
is_barred variants.Opt barrier link = not (bytes_eq barrier link.barrier)

-- whether a cell with this variant and module is another's
abbrev pub is_other : Variant → ℕ → Variant → ℕ → Bool
is_other variant id its_variant its_id = not (is_same_variant its_variant variant && (its_id == id))

-- Invitation. The cell that it writes:
abbrev pub waiting_for : Link → Variant → ℕ → List ℕ → List ℕ → WaitingCell
waiting_for link variant id nonce key = record {
  variant = variant;
  «module» = id;
  nonce = nonce;
  key = key;
  barrier = barrier_of variant link;
}

abbrev pub is_same_waiting : WaitingCell → WaitingCell → Bool
is_same_waiting one other = bytes_eq (waiting_spelling one) (waiting_spelling other)

abbrev pub invitation_by : WaitingCell → Result (ReadyMove Invited) MoveRefusal
invitation_by next = Ok (record { next = Some (waiting_spelling next); answer = Done })

-- a blank or a retired cell is free, and the cell that would be written has been
abbrev pub invitation_in : WaitingCell → Result MovedCell CellFault
    → Result (ReadyMove Invited) MoveRefusal
invitation_in next (Err Blank) = invitation_by next
invitation_in next (Ok (Left cell)) = invitation_by next
invitation_in next (Ok (Waits cell)) =
    refusal_if (not (is_same_waiting cell next)) Already
    (Ok (record { next = None; answer = Again }))
invitation_in next (Ok (Live cell)) = Err Already
invitation_in next (Err Unspelled) = Err Already

-- Retirement. The offer is read, its state is one of the module's, and its tag is right under the
-- cell's key:
abbrev pub offer_by : Meaning → List ℕ → Result Snapshot PartsFault → Result Content MoveRefusal
offer_by meaning key (Err Form) = Err (Core core.Form)
offer_by meaning key (Err Kind) = Err (Core core.Kind)
offer_by meaning key (Ok offered) =
    refusal_if (not (meaning.is_spelled offered.content.state)) (Core core.State)
    (refusal_if (not (bytes_eq offered.tag (tag_of key offered.content))) (Core core.Tag)
    (Ok offered.content))

abbrev pub right_offer : Meaning → Variant → List ℕ → List ℕ → Result Content MoveRefusal
right_offer meaning variant key offer = offer_by meaning key (parts_of variant meaning.id offer)

-- whether a form of the offered place is this summary, or this anchor with a zero extension
abbrev pub is_place_at : Digest → Place → Bool
is_place_at summary (Basic offered) = bytes_eq offered.bytes summary.bytes
is_place_at summary (Opt anchor extension) =
    list_any (is_fresh_form false summary.bytes zero_bytes) (forms_of anchor.bytes extension.bytes)

-- what the ticket says: the offer's position and state, at the cell's summary or anchor
abbrev pub ticket_for : Variant → List ℕ → Digest → Content → TicketContent
ticket_for variant nonce summary offered = record {
  nonce = nonce;
  content = record offered { place = place_at variant summary };
}

abbrev pub retirement_by : Variant → Link → List ℕ → Digest → Option (List ℕ)
    → Result Content MoveRefusal
    → Result (ReadyMove (List ℕ)) MoveRefusal
retirement_by variant link nonce summary next (Err why) = Err why
retirement_by variant link nonce summary next (Ok offered) =
    refusal_if (not (is_place_at summary offered.place)) (Core core.Stale)
    (Ok (record {
      next = next;
      answer = sealed_ticket link.key (ticket_for variant nonce summary offered);
    }))

-- the cell that a retirement writes
abbrev pub retired_cell_from : Cell → List ℕ → RetiredCell
retired_cell_from cell nonce = record {
  variant = cell.variant;
  «module» = cell.module;
  summary = cell.summary;
  key = cell.key;
  nonce = nonce;
}

-- from a live cell, or once more from the cell that it wrote
abbrev pub retirement_in : Meaning → Variant → Link → List ℕ → List ℕ → Result MovedCell CellFault
    → Result (ReadyMove (List ℕ)) MoveRefusal
retirement_in meaning variant link nonce offer (Err Blank) = Err (Core core.Blank)
retirement_in meaning variant link nonce offer (Err Unspelled) = Err (Core core.Cell)
retirement_in meaning variant link nonce offer (Ok (Waits cell)) = Err (Core core.Cell)
retirement_in meaning variant link nonce offer (Ok (Live cell)) =
    refusal_if (is_other variant meaning.id cell.variant cell.module) (Core core.Cell)
    (refusal_if (is_barred variant cell.barrier link) Barrier
    (refusal_if cell.flag Open
    (retirement_by variant link nonce cell.summary
    (Some (retired_spelling (retired_cell_from cell nonce)))
    (right_offer meaning variant cell.key offer))))
retirement_in meaning variant link nonce offer (Ok (Left cell)) =
    refusal_if (is_other variant meaning.id cell.variant cell.module) (Core core.Cell)
    (refusal_if (not (bytes_eq cell.nonce nonce)) Gone
    (retirement_by variant link nonce cell.summary None
    (right_offer meaning variant cell.key offer)))

-- Acceptance. The ticket is read, its state is one of the module's, and its tag is right under the
-- link's key:
abbrev pub ticket_by : Meaning → List ℕ → Result TaggedTicket PartsFault
    → Result TicketContent MoveRefusal
ticket_by meaning key (Err Form) = Err (Core core.Form)
ticket_by meaning key (Err Kind) = Err (Core core.Kind)
ticket_by meaning key (Ok offered) =
    refusal_if (not (meaning.is_spelled offered.ticket.content.state)) (Core core.State)
    (refusal_if (not (bytes_eq offered.tag (ticket_tag key offered.ticket))) (Core core.Tag)
    (Ok offered.ticket))

abbrev pub right_ticket : Meaning → Variant → List ℕ → List ℕ → Result TicketContent MoveRefusal
right_ticket meaning variant key bytes = ticket_by meaning key (ticket_of variant meaning.id bytes)

-- the answer: the ticket's position, and its content sealed under the cell's key
abbrev pub acceptance_of : List ℕ → Content → Accepted
acceptance_of key content =
    record { position = content.position; snapshot = sealed_snapshot_of key content }

-- the cell that an acceptance writes
abbrev pub live_cell_from : WaitingCell → Content → Cell
live_cell_from cell content = record {
  variant = cell.variant;
  «module» = cell.module;
  flag = false;
  summary = summary_in content.place;
  key = cell.key;
  barrier = cell.barrier;
}

abbrev pub acceptance_by : WaitingCell → Result TicketContent MoveRefusal
    → Result (ReadyMove Accepted) MoveRefusal
acceptance_by cell (Err why) = Err why
acceptance_by cell (Ok ticket) =
    refusal_if (not (bytes_eq ticket.nonce cell.nonce)) Nonce
    (Ok (record {
      next = Some (cell_spelling (live_cell_from cell ticket.content));
      answer = acceptance_of cell.key ticket.content;
    }))

abbrev pub acceptance_again_by : Cell → Result TicketContent MoveRefusal
    → Result (ReadyMove Accepted) MoveRefusal
acceptance_again_by cell (Err why) = Err why
acceptance_again_by cell (Ok ticket) =
    refusal_if (cell.flag
    || not (bytes_eq (summary_in ticket.content.place).bytes cell.summary.bytes))
    (Core core.Stale)
    (Ok (record { next = None; answer = acceptance_of cell.key ticket.content }))

-- at a waiting cell, or once more at the cell that it wrote
abbrev pub acceptance_in : Meaning → Variant → Link → List ℕ → Result MovedCell CellFault
    → Result (ReadyMove Accepted) MoveRefusal
acceptance_in meaning variant link ticket (Err Blank) = Err (Core core.Blank)
acceptance_in meaning variant link ticket (Ok (Left cell)) = Err Gone
acceptance_in meaning variant link ticket (Err Unspelled) = Err (Core core.Cell)
acceptance_in meaning variant link ticket (Ok (Waits cell)) =
    refusal_if (is_other variant meaning.id cell.variant cell.module) (Core core.Cell)
    (refusal_if (is_barred variant cell.barrier link) Barrier
    (acceptance_by cell (right_ticket meaning variant link.key ticket)))
acceptance_in meaning variant link ticket (Ok (Live cell)) =
    refusal_if (is_other variant meaning.id cell.variant cell.module) (Core core.Cell)
    (refusal_if (is_barred variant cell.barrier link) Barrier
    (acceptance_again_by cell (right_ticket meaning variant link.key ticket)))

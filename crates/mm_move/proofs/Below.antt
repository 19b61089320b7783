-- The words and laws that the proofs of this crate take from specs/ and from the crates below.
pub use Rattle.std.specs.Prelude.{◌==◌, ◌||◌, if◌then◌else◌, nat_le, slice_index, slice_range}
pub use Rattle.std.specs.Str.{bytes_eq}
pub use Rattle.std.proofs.Common.{◌&&◌, ◌++◌, ◌+◌, ◌-◌, ◌<◌, ◌∙◌, ◌∷◌, ◌≡◌, ◌≢◌, ◌≤◌, [], ap, append_assoc, arith, Bool, drop, Err, false}
pub use Rattle.std.proofs.Common.{get_or, inl, inr, IsErr, length, length-append, length-drop, length-take, List, None, not, Ok, Option}
pub use Rattle.std.proofs.Common.{refl, Result, Some, subst, sym, take, true, ℕ}
pub use Rattle.std.proofs.lemmas.List.{append-nil, take-append-drop}
pub use Rattle.mm_bytes.specs.Limits.{cell_length, last_position, limit_of}
pub use Rattle.mm_digest.specs.Messages.{variant_byte, zero_bytes}
pub use Rattle.mm_digest.specs.declared.digest.Digest.{Digest}
pub use Rattle.mm_digest.specs.declared.variant.Variant.{Variant}
pub use Rattle.mm_digest.specs.declared.variant.Variant.TheVariants.{Basic, Opt}
pub use Rattle.mm_seal.specs.Cell.{FitsVariant, flag_byte, IsCell}
pub use Rattle.mm_seal.specs.Snapshot.{Content, IsContent, IsPlace, Snapshot, tag_of, variant_of}
pub use Rattle.mm_seal.specs.declared.cell.Cell.{Cell}
pub use Rattle.mm_seal.specs.declared.cell.CellFault.{CellFault}
pub use Rattle.mm_seal.specs.declared.cell.CellFault.TheVariants.{Blank, Cell as Unspelled}
pub use Rattle.mm_seal.specs.declared.snapshot.PartsFault.{PartsFault}
pub use Rattle.mm_seal.specs.declared.snapshot.PartsFault.TheVariants.{Form, Kind}
pub use Rattle.mm_move.specs.Cells.{CellsAreRead, is_fit_for_variant, fits_variant, IsMoved, IsRetired, IsWaiting, live_cell_in}
pub use Rattle.mm_move.specs.Cells.{moved_cell_by, moved_cell_in, moved_cell_of, moved_spelling, retired_cell_in, retired_spelling}
pub use Rattle.mm_move.specs.Cells.{SpellsMoved, waiting_cell_in, digest_at, number_at, part, variant_in, move_fault_in, move_fault_of}
pub use Rattle.mm_move.specs.Cells.{IsOrNoMemory}
pub use Rattle.mm_move.specs.Orders.{acceptance_in, acceptance_by, acceptance_again_by, is_barred, is_other, retirement_by, offer_by}
pub use Rattle.mm_move.specs.Orders.{retired_cell_from, retirement_in, right_offer, right_ticket, is_place_at, ticket_by}
pub use Rattle.mm_move.specs.Tickets.{is_for, is_spelled_by, IsAtAnchor, IsTagged, IsTicket, place_at, SpellsTicket, summary_in}
pub use Rattle.mm_move.specs.Tickets.{tagged_ticket_in, TaggedTicket, ticket_content, ticket_front, ticket_of, signed_bytes}
pub use Rattle.mm_move.specs.Tickets.{ticket_spelling, ticket_tag, TicketContent, TicketsAreRead}
pub use Rattle.mm_move.specs.declared.cell.MovedCell.{MovedCell}
pub use Rattle.mm_move.specs.declared.cell.WaitingCell.{WaitingCell}
pub use Rattle.mm_move.specs.declared.ready.ReadyMove.{ReadyMove}
pub use Rattle.mm_move.specs.declared.refusal.MoveRefusal.{MoveRefusal}

-- The bytes of a ticket, and its tag. With it: what is read, as plain data, and within which
-- bounds.
use Rattle.std.specs.Prelude.{◌≡◌, ◌↔◌, ℕ, ◌-◌, ◌&&◌, Bool, List, [], ◌∷◌, ◌++◌, length, drop, slice_index, slice_range, nat_le, Result, Ok}
use Rattle.std.specs.Prelude.{Err, if◌then◌else◌, ◌≤◌}
use Rattle.std.specs.Str.{bytes_eq}
use Rattle.mm_bytes.specs.Limits.{eight_bytes, four_bytes, last_position, limit_of}
use Rattle.mm_digest.specs.Messages.{variant_byte, zero_bytes, hmac_of}
use Rattle.mm_digest.specs.declared.digest.Digest.{Digest}
use Rattle.mm_digest.specs.declared.variant.Variant.{Variant}
use Rattle.mm_digest.specs.declared.variant.Variant.TheVariants as variants
use Rattle.mm_seal.specs.Parts.{content_of, is_of_kind, is_bounded, is_same_variant}
use Rattle.mm_seal.specs.Snapshot.{Content, Snapshot, IsContent, variant_of}
use Rattle.mm_seal.specs.declared.snapshot.Body.{Body}
use Rattle.mm_seal.specs.declared.snapshot.PartsFault.{PartsFault}
use Rattle.mm_seal.specs.declared.snapshot.PartsFault.TheVariants.{Form, Kind}
use Rattle.mm_seal.specs.declared.snapshot.Place.{Place}
use Rattle.mm_seal.specs.declared.snapshot.Place.TheVariants.{Basic, Opt}
use Rattle.mm_move.specs.Cells.{part, digest_at, number_at, variant_in}
use Rattle.mm_move.specs.declared.refusal.MoveRefusal.{MoveRefusal}
use Rattle.mm_move.specs.declared.ticket.Ticket.{Ticket}

-- the summary, or the anchor
abbrev pub summary_in : Place → Digest
summary_in (Basic summary) = summary
summary_in (Opt anchor extension) = anchor

-- the place at a summary, or at an anchor, where the register's value is zero
abbrev pub place_at : Variant → Digest → Place
place_at variants.Basic summary = Basic summary
place_at variants.Opt anchor = Opt anchor (record { bytes = zero_bytes })

abbrev pub IsAtAnchor : Place → Type 0
IsAtAnchor place = place ≡ place_at (variant_of place) (summary_in place)

-- What a ticket says: the nonce that it is for, and what the module's snapshot says where the
-- module left.
pub record TicketContent : Type 0 where
  pub nonce : List ℕ
  pub content : Content

abbrev pub ticket_content : Ticket → TicketContent
ticket_content ticket = record { nonce = ticket.nonce; content = content_of ticket.body }

pub record IsTicket (ticket : TicketContent) : Type 0 where
  pub nonce : length ticket.nonce ≡ 32
  pub content : IsContent ticket.content
  pub place : IsAtAnchor ticket.content.place

-- `MMT1`, the variant, the module's id, the nonce, the summary or anchor, the position in 8 bytes,
-- and the length of the state in 4 bytes: 82 bytes
unfoldable pub ticket_front : TicketContent → List ℕ
ticket_front ticket =
    0x4d ∷ 0x4d ∷ 0x54 ∷ 0x31 ∷ variant_byte (variant_of ticket.content.place) ∷ ticket.content.id
    ∷ (ticket.nonce ++ ((summary_in ticket.content.place).bytes
    ++ (eight_bytes ticket.content.position ++ four_bytes (length ticket.content.state))))

-- what is signed: the front and the state
abbrev pub signed_bytes : TicketContent → List ℕ
signed_bytes ticket = ticket_front ticket ++ ticket.content.state

-- the tag of the ticket under the key
abbrev pub ticket_tag : List ℕ → TicketContent → List ℕ
ticket_tag key ticket = hmac_of key (signed_bytes ticket)

-- the ticket's bytes under the key
unfoldable pub sealed_ticket : List ℕ → TicketContent → List ℕ
sealed_ticket key ticket = signed_bytes ticket ++ ticket_tag key ticket

-- a ticket and a tag
pub record TaggedTicket : Type 0 where
  pub ticket : TicketContent
  pub tag : List ℕ

pub record IsTagged (tagged : TaggedTicket) : Type 0 where
  pub ticket : IsTicket tagged.ticket
  pub tag : length tagged.tag ≡ 32

abbrev pub ticket_spelling : TaggedTicket → List ℕ
ticket_spelling tagged = signed_bytes tagged.ticket ++ tagged.tag

-- The only ticket that the bytes may spell: its fields stand at fixed places, and the state in
-- front of the tag.
unfoldable pub tagged_ticket_in : List ℕ → TaggedTicket
tagged_ticket_in bytes = record {
  ticket = record {
    nonce = part 6 bytes;
    content = record {
      id = slice_index bytes 5;
      place = place_at (variant_in bytes) (digest_at 38 bytes);
      position = number_at 70 bytes;
      state = slice_range bytes 82 (length bytes - 32);
    };
  };
  tag = drop (length bytes - 32) bytes;
}

-- the snapshot that a ticket is like, as far as its kind and its bounds go
abbrev pub is_for : Variant → ℕ → TaggedTicket → Bool
is_for variant id tagged =
    is_of_kind variant id (record { content = tagged.ticket.content; tag = tagged.tag })

-- whether the bytes are long enough for the fields, within their bounds, and the ticket's own
abbrev pub is_spelled_by : List ℕ → TaggedTicket → Bool
is_spelled_by bytes tagged =
    nat_le 114 (length bytes) && is_bounded tagged.ticket.content
    && bytes_eq (ticket_spelling tagged) bytes

abbrev pub ticket_by : Variant → ℕ → List ℕ → TaggedTicket → Result TaggedTicket PartsFault
ticket_by variant id bytes tagged =
    if is_spelled_by bytes tagged then (if is_for variant id tagged then Ok tagged else Err Kind)
    else Err Form

-- What the bytes say, as a ticket for this variant and module.
unfoldable pub ticket_of : Variant → ℕ → List ℕ → Result TaggedTicket PartsFault
ticket_of variant id bytes = ticket_by variant id bytes (tagged_ticket_in bytes)

-- the bytes are this ticket's, which is for this variant and module
pub record SpellsTicket (variant : Variant) (id : ℕ) (bytes : List ℕ)
    (tagged : TaggedTicket) : Type 0 where
  pub is : IsTagged tagged
  pub bytes_are : bytes ≡ ticket_spelling tagged
  pub variant_is : variant_of tagged.ticket.content.place ≡ variant
  pub id_is : tagged.ticket.content.id ≡ id

-- A ticket is read exactly where the bytes spell it.
abbrev pub TicketsAreRead : Type 0
TicketsAreRead = (variant : Variant) (id : ℕ) (bytes : List ℕ) (tagged : TaggedTicket) →
    (ticket_of variant id bytes ≡ Ok tagged) ↔ SpellsTicket variant id bytes tagged

-- What is read, as plain data, and within which bounds.

abbrev pub offer_reading : Result Body MoveRefusal → Result Content MoveRefusal
offer_reading (Ok body) = Ok (content_of body)
offer_reading (Err why) = Err why

abbrev pub ticket_reading : Result Ticket MoveRefusal → Result TicketContent MoveRefusal
ticket_reading (Ok ticket) = Ok (ticket_content ticket)
ticket_reading (Err why) = Err why

-- it is of this variant, and within its bounds
pub record IsBounded (variant : Variant) (content : Content) : Type 0 where
  pub variant_is : variant_of content.place ≡ variant
  pub position : content.position ≤ last_position
  pub state : length content.state ≤ limit_of content.id

-- Two sides that share a link, what stands on each, and two ways to follow them. With it: what a
-- side is to the module that moves, and what a move makes of it; the commands that move a module,
-- and what each finds when it has read the cell.
use Rattle.std.specs.Prelude.{ℕ, Bool, true, false, List, [], ◌∷◌, ◌++◌, Result, Ok, Err, if◌then◌else◌}
use Rattle.std.specs.Str.{bytes_eq}
use Rattle.mm_model.specs.declared.refusal.Refusal.TheVariants as refusal
use Rattle.mm_sides.specs.Below.{TicketContent, Variant, Content, Meaning, History, first_history, Instance, Digests, content_of_issue}
use Rattle.mm_sides.specs.Below.{digest_of, Level, list_level, digest_level, instance_by, summary_in, place_at, first_snapshots}
use Rattle.mm_sides.specs.Below.{first_digests, parts_of, Snapshot, tag_of, PartsFault, Form, Kind, One, is_new, Refusal, Verdict, Fresh}
use Rattle.mm_sides.specs.Below.{Stale, check_by_tests, TaggedTicket, ticket_tag, ticket_of, Offer}

-- What a side is to the module that moves, and what a move makes of it.

-- Nothing was ever set up here; the module is here; it is awaited by a ticket with this nonce; it
-- left by one.
pub data Role : Type 0 where
  Blank : Role
  Live : Role
  Waiting : List ℕ → Role
  Retired : List ℕ → Role

-- what a move does: the module is invited under a nonce, it leaves by a ticket, or it enters by one
pub data Effect : Type 0 where
  Invites : List ℕ → Effect
  Leaves : TicketContent → Effect
  Enters : TicketContent → Effect

abbrev pub role_after : Effect → Role
role_after (Invites nonce) = Waiting nonce
role_after (Leaves ticket) = Retired ticket.nonce
role_after (Enters ticket) = Live

abbrev pub is_live : Role → Bool
is_live Live = true
is_live role = false

-- What a run has seen of moves that had their effect: the nonces that the module was invited under,
-- and the tickets that it left by, in order of time.
pub record MoveNotes : Type 0 where
  pub invited : List (List ℕ)
  pub retired : List TicketContent

abbrev pub no_notes : MoveNotes
no_notes = record { invited = []; retired = [] }

abbrev pub notes_with_effect : Effect → MoveNotes → MoveNotes
notes_with_effect (Invites nonce) notes = record notes { invited = notes.invited ++ nonce ∷ [] }
notes_with_effect (Leaves ticket) notes = record notes { retired = notes.retired ++ ticket ∷ [] }
notes_with_effect (Enters ticket) notes = notes

-- Two sides that share a link, what stands on each, and two ways to follow them: by lists and by
-- digests.

-- the first side or the second
pub data SideName : Type 0 where
  First : SideName
  Second : SideName

-- What two sides are set up with: the variant and the module; a key for each side; and the key and
-- the barrier of the link that they share.
pub record Pair : Type 0 where
  pub variant : Variant
  pub meaning : Meaning
  pub first_key : List ℕ
  pub second_key : List ℕ
  pub barrier : List ℕ
  pub link : List ℕ

abbrev pub key_of : Pair → SideName → List ℕ
key_of pair First = pair.first_key
key_of pair Second = pair.second_key

-- the instance that the module is on a side
abbrev pub instance_on : Pair → SideName → Instance
instance_on pair which = instance_by pair.variant pair.meaning (key_of pair which) pair.barrier

-- One side: its role; where it stands, for the sake of its register from the start; and the
-- snapshots that it issued.
pub record SideState (S : Type 0) : Type 0 where
  pub role : Role
  pub at : S
  pub issued : List (List ℕ)

-- BothSides sides; what is kept of where the module stood when it left last; the tickets handed
-- out; and
-- how many requests were committed, on either side.
pub record BothSides (S A : Type 0) : Type 0 where
  pub first : SideState S
  pub second : SideState S
  pub away : A
  pub tickets : List (List ℕ)
  pub committed : ℕ

-- the same with the sides exchanged
abbrev pub sides_swapped : {S A : Type 0} → BothSides S A → BothSides S A
sides_swapped both = record both { first = both.second; second = both.first }

-- the one history: that of the live side, or where the module left
abbrev pub history_at : (first_lives second_lives : Bool) → (first second away : History) → History
history_at true second_lives first second away = first
history_at false true first second away = second
history_at false false first second away = away

abbrev pub history_now : BothSides History History → History
history_now both =
    history_at (is_live both.first.role) (is_live both.second.role) both.first.at both.second.at
    both.away

-- with this side as the first
abbrev pub sides_seen_from : {S A : Type 0} → SideName → BothSides S A → BothSides S A
sides_seen_from First both = both
sides_seen_from Second both = sides_swapped both

-- A way to follow both sides: one way to follow each; what a ticket or a snapshot says where no
-- segment is open, of an offer that stands there; what is kept of where the module leaves; and
-- where it stands once it has entered, by where its side stood, what was kept, and what the ticket
-- says.
pub record Mover (S A : Type 0) : Type 0 where
  pub level : Instance → Level S
  pub says : Instance → S → Content → Content
  pub leaves : S → A
  pub enters : S → A → Content → S

-- By lists: the module has its one history, and the register has what it had.
abbrev pub list_mover : Mover History History
list_mover = record {
  level = list_level;
  says = λ i y offered. content_of_issue i y;
  leaves = λ y. y;
  enters = λ own away content. record away { items = own.items };
}

-- By digests: of where the module left only the number of its requests is kept; all else comes by
-- the ticket.
abbrev pub digest_mover : Mover Digests ℕ
digest_mover = record {
  level = digest_level;
  says = λ i d offered. record {
    id = i.meaning.id;
    place = place_at i.variant (digest_of d.digest);
    position = offered.position;
    state = offered.state;
  };
  leaves = λ d. d.count;
  enters =
      λ own away content. record own
      { digest = (summary_in content.place).bytes; flag = false; count = away };
}

-- At first the module is on the first side, and the second is blank.
abbrev pub sides_at_start : {S A : Type 0} → Pair → S → S → A → BothSides S A
sides_at_start pair here there away = record {
  first = record { role = Live; at = here; issued = first_snapshots (instance_on pair First) };
  second = record { role = Blank; at = there; issued = [] };
  away = away;
  tickets = [];
  committed = 0;
}

abbrev pub first_both_by_lists : Pair → BothSides History History
first_both_by_lists pair = sides_at_start pair first_history first_history first_history

abbrev pub first_both_by_digests : Pair → BothSides Digests ℕ
first_both_by_digests pair =
    sides_at_start pair (first_digests (instance_on pair First))
    (first_digests (instance_on pair Second)) 0

-- The commands that move a module, and what each finds when it has read the cell.

-- invite the module to a side, under a nonce; let it leave a side for whoever was invited under a
-- nonce, with one of the side's snapshots; let it enter a side, with one of the tickets
pub data MoveCommand : Type 0 where
  Invite : List ℕ → MoveCommand
  Retire : List ℕ → Offer → MoveCommand
  Accept : Offer → MoveCommand

-- why a move is refused: as a call may be; or something is awaited or live here already; a segment
-- is open; the module left for another nonce, or left at all; the ticket isn't the awaited one
pub data DenialCause : Type 0 where
  Refused : Refusal → DenialCause
  Already : DenialCause
  Open : DenialCause
  Gone : DenialCause
  Nonce : DenialCause

-- what a move finds that isn't refused: its effect, and whether it was made before
pub record FoundMove : Type 0 where
  pub again : Bool
  pub effect : Effect

-- an offer stands where the module stands: a batch asked with it would be a new one, whichever it
-- is
abbrev pub is_offer_here : {S : Type 0} → Level S → S → Content → Bool
is_offer_here level at content = is_new (level.verdict at content (One []))

abbrev pub verdict_here : Bool → Verdict
verdict_here true = Fresh
verdict_here false = Stale

-- an invitation, by the role of its side
abbrev pub invitation_on : Role → List ℕ → Result FoundMove DenialCause
invitation_on Blank nonce = Ok (record { again = false; effect = Invites nonce })
invitation_on Live nonce = Err Already
invitation_on (Waiting awaited) nonce =
    if bytes_eq awaited nonce then Ok (record { again = true; effect = Invites nonce })
    else Err Already
invitation_on (Retired left) nonce = Ok (record { again = false; effect = Invites nonce })

-- the module leaves by what the offer says, as it stands
abbrev pub found_retirement_by : {S A : Type 0} → Mover S A → Instance → S → Bool → List ℕ → Content
    → Result Bool Refusal → Result FoundMove DenialCause
found_retirement_by mover i at again nonce offered (Ok fresh) =
    Ok (record {
      again = again;
      effect = Leaves
          (record { nonce = nonce; content = mover.says i at offered });
    })
found_retirement_by mover i at again nonce offered (Err why) = Err (Refused why)

-- the offer is read, and refused as one to a call: Form, Kind, State, Tag, and Stale where it
-- doesn't stand here
abbrev pub retirement_with : {S A : Type 0} → Mover S A → Instance → S → Bool → List ℕ
    → Result Snapshot PartsFault → Result FoundMove DenialCause
retirement_with mover i at again nonce (Ok snapshot) =
    found_retirement_by mover i at again nonce snapshot.content
    (check_by_tests (i.meaning.is_spelled snapshot.content.state)
    (bytes_eq snapshot.tag (tag_of i.key snapshot.content))
    (verdict_here (is_offer_here (mover.level i) at snapshot.content)) true)
retirement_with mover i at again nonce (Err Form) = Err (Refused refusal.Form)
retirement_with mover i at again nonce (Err Kind) = Err (Refused refusal.Kind)

-- a retirement, by the role of its side. Where the module has left for this nonce, it is the same
-- ticket again.
abbrev pub retirement_on : {S A : Type 0} → Mover S A → Instance → Role → S → List ℕ → List ℕ
    → Result FoundMove DenialCause
retirement_on mover i Blank at nonce bytes = Err (Refused refusal.Blank)
retirement_on mover i Live at nonce bytes =
    if (mover.level i).is_open at then Err Open
    else retirement_with mover i at false nonce (parts_of i.variant i.meaning.id bytes)
retirement_on mover i (Waiting awaited) at nonce bytes = Err (Refused refusal.Cell)
retirement_on mover i (Retired left) at nonce bytes =
    if bytes_eq left nonce then retirement_with mover i at true nonce
    (parts_of i.variant i.meaning.id bytes) else Err Gone

-- what bytes give as a ticket for this module, under the link's key: it is refused as Form, Kind,
-- State or Tag, or right
abbrev pub ticket_by : Meaning → List ℕ → Result TaggedTicket PartsFault
    → Result TicketContent Refusal
ticket_by meaning link (Ok tagged) =
    if meaning.is_spelled tagged.ticket.content.state
    then (if bytes_eq tagged.tag (ticket_tag link tagged.ticket) then Ok tagged.ticket
    else Err refusal.Tag)
    else Err refusal.State
ticket_by meaning link (Err Form) = Err refusal.Form
ticket_by meaning link (Err Kind) = Err refusal.Kind

abbrev pub ticket_in : Pair → List ℕ → Result TicketContent Refusal
ticket_in pair bytes =
    ticket_by pair.meaning pair.link (ticket_of pair.variant pair.meaning.id bytes)

-- an awaited ticket is accepted
abbrev pub entry_by_ticket : List ℕ → Result TicketContent Refusal → Result FoundMove DenialCause
entry_by_ticket awaited (Ok ticket) =
    if bytes_eq awaited ticket.nonce then Ok (record { again = false; effect = Enters ticket })
    else Err Nonce
entry_by_ticket awaited (Err why) = Err (Refused why)

-- a ticket that was accepted is answered again, while the module stands where it entered
abbrev pub repeated_entry : {S : Type 0} → Level S → S → Result TicketContent Refusal
    → Result FoundMove DenialCause
repeated_entry level at (Ok ticket) =
    if level.is_open at then Err (Refused refusal.Stale)
    else (if is_offer_here level at ticket.content then Ok
    (record { again = true; effect = Enters ticket }) else Err (Refused refusal.Stale))
repeated_entry level at (Err why) = Err (Refused why)

-- an acceptance, by the role of its side
abbrev pub acceptance_on : {S : Type 0} → Level S → Role → S → Result TicketContent Refusal
    → Result FoundMove DenialCause
acceptance_on level Blank at read = Err (Refused refusal.Blank)
acceptance_on level Live at read = repeated_entry level at read
acceptance_on level (Waiting awaited) at read = entry_by_ticket awaited read
acceptance_on level (Retired left) at read = Err Gone

-- The messages that a run of both sides hashes, as far as a proof looks at them, and what is asked
-- of the run. With it: a premise that asks more than that of both sides; the evidence that one
-- holds in hand of a run of both sides that doesn't meet its premises.
use Rattle.std.specs.List.{Contains}
use Rattle.std.specs.Prelude.{ℕ, List, [], ◌∷◌, ◌++◌, Option, None, Some, Result, Ok, Err, map, if◌then◌else◌, ◌≡◌, ◌⊎◌}
use Rattle.mm_sides.specs.Below.{start_message, Content, Meddle, Stop, Batch, History, Move, Foreign, PowerMove, Instance, is_long, IsClear}
use Rattle.mm_sides.specs.Below.{place_messages, DeviceStep, Reads, Refusal, messages_of_moves, walk, right_content, TicketContent, Event}
use Rattle.mm_sides.specs.Below.{Ask, Checkpoint, Power, Extend, course_of, offered_bytes, moves_of, event_messages, event_foreign_values}
use Rattle.mm_sides.specs.Below.{batches_of, IsGenuineEvent, AreApartIn, IsGenuineOffer, Offer, HasClash, IsForged, IsFrontWithoutEvidence}
use Rattle.mm_sides.specs.Below.{IsLongest}
use Rattle.mm_sides.specs.BothSides.{Role, Live, Retired, Effect, Invites, MoveNotes, no_notes, First, Pair, instance_on, SideState}
use Rattle.mm_sides.specs.BothSides.{BothSides, sides_seen_from, history_now, list_mover, first_both_by_lists, MoveCommand, Retire, Accept}
use Rattle.mm_sides.specs.BothSides.{FoundMove, DenialCause, ticket_in}
use Rattle.mm_sides.specs.Folds.{BothAct, Plain, Moves, BothEvent, move_steps, found_command, both_outcome, notes_with_effect_if}
use Rattle.mm_sides.specs.Folds.{both_outcome_by_lists}

-- what others put into a side's register during steps that only read
abbrev pub read_moves : List Meddle → Stop → List DeviceStep → List Move
read_moves meddles stop steps = (walk (course_of stop meddles).fates 1 steps).moves

-- what the register of a side takes in during an event where the module isn't
abbrev pub vain_ask_moves : List Meddle → Stop → Option (List ℕ) → Batch → List Move
vain_ask_moves meddles stop None b = []
vain_ask_moves meddles stop (Some bytes) b =
    if is_long b then [] else read_moves meddles stop (Reads ∷ [])

abbrev pub vain_moves : List (List ℕ) → Event → List Move
vain_moves issued (Ask meddles stop offer b) =
    vain_ask_moves meddles stop (offered_bytes issued offer) b
vain_moves issued (Checkpoint meddles stop) = read_moves meddles stop (Reads ∷ [])
vain_moves issued Power = PowerMove ∷ []
vain_moves issued (Extend value) = Foreign value ∷ []

-- The messages of an event of a schedule: where the module is, those of one platform; elsewhere,
-- what the register takes in.
abbrev pub plain_messages : Instance → Role → SideState History → Event → List (List ℕ)
plain_messages i Live side event =
    event_messages i side.issued event ++ messages_of_moves i side.at
    (moves_of i side.at side.issued event)
plain_messages i role side event = messages_of_moves i side.at (vain_moves side.issued event)

-- of a retirement's right offer: the closing of its segment, where it is inside one
abbrev pub messages_of_closing : Option Content → List (List ℕ)
messages_of_closing None = []
messages_of_closing (Some content) = place_messages content.place

abbrev pub offer_closing_messages : Instance → Option (List ℕ) → List (List ℕ)
offer_closing_messages i None = []
offer_closing_messages i (Some bytes) = messages_of_closing (right_content i bytes)

-- what the register of the first side takes in during a command
abbrev pub found_moves : List Meddle → Stop → Option (Result FoundMove DenialCause) → List Move
found_moves meddles stop None = []
found_moves meddles stop (Some found) = read_moves meddles stop (move_steps found)

abbrev pub command_messages : Instance → SideState History → MoveCommand → List (List ℕ)
command_messages i side (Retire nonce offer) =
    offer_closing_messages i (offered_bytes side.issued offer)
command_messages i side command = []

abbrev pub messages_here : Pair → Instance → BothSides History History → BothAct → List (List ℕ)
messages_here pair i both (Plain event) = plain_messages i both.first.role both.first event
messages_here pair i both (Moves meddles stop command) =
    command_messages i both.first command
    ++ messages_of_moves i both.first.at
    (found_moves meddles stop (found_command list_mover pair i both command))

abbrev pub both_event_messages : Pair → BothSides History History → BothEvent → List (List ℕ)
both_event_messages pair both event =
    messages_here pair (instance_on pair event.which) (sides_seen_from event.which both) event.act

abbrev pub both_messages_from : Pair → BothSides History History → List BothEvent → List (List ℕ)
both_messages_from pair both [] = []
both_messages_from pair both (event ∷ events) =
    both_event_messages pair both event ++ both_messages_from pair
    (both_outcome list_mover pair both event).both events

-- the messages of a run: the start message, and then those of each event
abbrev pub both_messages : Pair → List BothEvent → List (List ℕ)
both_messages pair events =
    start_message (instance_on pair First).variant (instance_on pair First).meaning.id
    ∷ both_messages_from pair (first_both_by_lists pair) events

-- the values by which others extend the register of either side, whether the step is reached or
-- not; and the batches asked
abbrev pub others_values_in : BothAct → List (List ℕ)
others_values_in (Plain event) = event_foreign_values event
others_values_in (Moves meddles stop command) = map (λ m. m.value.bytes) meddles

abbrev pub both_foreign_values : List BothEvent → List (List ℕ)
both_foreign_values [] = []
both_foreign_values (event ∷ events) = others_values_in event.act ++ both_foreign_values events

abbrev pub batches_in : BothAct → List Batch
batches_in (Plain event) = batches_of event
batches_in (Moves meddles stop command) = []

abbrev pub both_batches : List BothEvent → List Batch
both_batches [] = []
both_batches (event ∷ events) = batches_in event.act ++ both_batches events

-- What is asked of the digests: no two messages of the run share one, none is zero, and in Opt no
-- value of others is the guard of a batch that is asked.
pub record IsClearPair (pair : Pair) (events : List BothEvent) : Type 0 where
  pub clear : IsClear (both_messages pair events)
  pub apart : AreApartIn (instance_on pair First).variant (instance_on pair First)
      (both_foreign_values events) (both_batches events)

-- What is asked of an offer: where the module is, and where it has left, a right one names a
-- position of the one history. So nobody else sealed it.
abbrev pub IsGenuineTo : Role → Instance → History → Option (List ℕ) → Type 0
IsGenuineTo Live i now bytes = IsGenuineOffer i now bytes
IsGenuineTo (Retired nonce) i now bytes = IsGenuineOffer i now bytes
IsGenuineTo role i now bytes = Unit {0}

abbrev pub IsGenuinePlain : Role → Instance → SideState History → Event → Type 0
IsGenuinePlain Live i side event = IsGenuineEvent i side.at side.issued event
IsGenuinePlain role i side event = Unit {0}

abbrev pub IsGenuineCommand : Instance → BothSides History History → MoveCommand → Type 0
IsGenuineCommand i both (Retire nonce offer) =
    IsGenuineTo both.first.role i (history_now both) (offered_bytes both.first.issued offer)
IsGenuineCommand i both command = Unit {0}

abbrev pub IsGenuineHere : Instance → BothSides History History → BothAct → Type 0
IsGenuineHere i both (Plain event) = IsGenuinePlain both.first.role i both.first event
IsGenuineHere i both (Moves meddles stop command) = IsGenuineCommand i both command

abbrev pub IsGenuineIn : Pair → BothSides History History → BothEvent → Type 0
IsGenuineIn pair both event =
    IsGenuineHere (instance_on pair event.which) (sides_seen_from event.which both) event.act

abbrev pub AreGenuineFrom : Pair → BothSides History History → List BothEvent → Type 0
AreGenuineFrom pair both [] = Unit {0}
AreGenuineFrom pair both (event ∷ events) =
    IsGenuineIn pair both event × AreGenuineFrom pair (both_outcome list_mover pair both event).both
    events

-- What is asked of nonces and tickets: an invitation that has its effect is under a nonce that
-- nobody was invited under before, and each right ticket that is offered is one that the module has
-- left by.
abbrev pub IsNew : MoveNotes → Option Effect → Type 0
IsNew notes (Some (Invites nonce)) = Contains notes.invited nonce → ⊥
IsNew notes effect = Unit {0}

abbrev pub IsOurs : MoveNotes → Result TicketContent Refusal → Type 0
IsOurs notes (Ok ticket) = Contains notes.retired ticket
IsOurs notes (Err why) = Unit {0}

abbrev pub IsOursOffered : Pair → MoveNotes → Option (List ℕ) → Type 0
IsOursOffered pair notes None = Unit {0}
IsOursOffered pair notes (Some bytes) = IsOurs notes (ticket_in pair bytes)

abbrev pub IsOursFor : Pair → List (List ℕ) → MoveNotes → MoveCommand → Type 0
IsOursFor pair tickets notes (Accept offer) = IsOursOffered pair notes (offered_bytes tickets offer)
IsOursFor pair tickets notes command = Unit {0}

abbrev pub IsOursIn : Pair → List (List ℕ) → MoveNotes → BothAct → Type 0
IsOursIn pair tickets notes (Plain event) = Unit {0}
IsOursIn pair tickets notes (Moves meddles stop command) = IsOursFor pair tickets notes command

abbrev pub AreFreshFrom : Pair → BothSides History History → MoveNotes → List BothEvent → Type 0
AreFreshFrom pair both notes [] = Unit {0}
AreFreshFrom pair both notes (event ∷ events) =
    let o = both_outcome list_mover pair both event in
    IsNew notes o.effect × IsOursIn pair both.tickets notes event.act
    × AreFreshFrom pair o.both (notes_with_effect_if o.effect notes) events

abbrev pub IsGenuinePair : Pair → List BothEvent → Type 0
IsGenuinePair pair events = AreGenuineFrom pair (first_both_by_lists pair) events

abbrev pub IsFreshPair : Pair → List BothEvent → Type 0
IsFreshPair pair events = AreFreshFrom pair (first_both_by_lists pair) no_notes events

-- A premise that asks more than that of both sides: where the module has left, too, a right offer
-- names a position of the history that its side has. So nobody has sealed it since, not even the
-- other side.

-- by the history of its own side
abbrev pub IsGenuineCommandByOwn : Instance → BothSides History History → MoveCommand → Type 0
IsGenuineCommandByOwn i both (Retire nonce offer) =
    IsGenuineTo both.first.role i both.first.at (offered_bytes both.first.issued offer)
IsGenuineCommandByOwn i both command = Unit {0}

abbrev pub IsGenuineByOwn : Instance → BothSides History History → BothAct → Type 0
IsGenuineByOwn i both (Plain event) = IsGenuinePlain both.first.role i both.first event
IsGenuineByOwn i both (Moves meddles stop command) = IsGenuineCommandByOwn i both command

abbrev pub AreGenuineByOwnFrom : Pair → BothSides History History → List BothEvent → Type 0
AreGenuineByOwnFrom pair both [] = Unit {0}
AreGenuineByOwnFrom pair both (event ∷ events) =
    IsGenuineByOwn (instance_on pair event.which) (sides_seen_from event.which both) event.act
    × AreGenuineByOwnFrom pair (both_outcome list_mover pair both event).both events

abbrev pub IsGenuinePairByOwn : Pair → List BothEvent → Type 0
IsGenuinePairByOwn pair events = AreGenuineByOwnFrom pair (first_both_by_lists pair) events

-- It gives the premise, where nonces and tickets are fresh: what names a position of the history
-- that a side has names one of the one history, too.
abbrev pub OwnPremiseGivesPremise : Type 0
OwnPremiseGivesPremise =
    (pair : Pair) (events : List BothEvent) → IsFreshPair pair events
    → IsGenuinePairByOwn pair events → IsGenuinePair pair events

-- The evidence that one holds in hand of a run of both sides that doesn't meet its premises.

-- What an event breaks, where both sides stand so: what is offered to a call, where the module is,
-- is forged, or what is offered to a retirement, where the module is or has left; an invitation
-- that has its effect is under a nonce that somebody was invited under before; or a right ticket
-- that is offered is none that the module has left by.
pub data IsBreach (pair : Pair) (both : BothSides History History) (notes : MoveNotes)
    (event : BothEvent) : Type 0 where
  asked : (meddles : List Meddle) (stop : Stop) (offer : Offer) (batch : Batch)
      → event.act ≡ Plain (Ask meddles stop offer batch)
      → (sides_seen_from event.which both).first.role ≡ Live
      → IsForged (instance_on pair event.which) (sides_seen_from event.which both).first.at
      (offered_bytes (sides_seen_from event.which both).first.issued offer)
      → IsBreach pair both notes event
  retired : (meddles : List Meddle) (stop : Stop) (nonce : List ℕ) (offer : Offer)
      → event.act ≡ Moves meddles stop (Retire nonce offer)
      → ((sides_seen_from event.which both).first.role ≡ Live)
      ⊎ ((left : List ℕ) × ((sides_seen_from event.which both).first.role ≡ Retired left))
      → IsForged (instance_on pair event.which) (history_now (sides_seen_from event.which both))
      (offered_bytes (sides_seen_from event.which both).first.issued offer)
      → IsBreach pair both notes event
  invited : (nonce : List ℕ)
      → (both_outcome list_mover pair both event).effect ≡ Some (Invites nonce)
      → Contains notes.invited nonce → IsBreach pair both notes event
  accepted : (meddles : List Meddle) (stop : Stop) (offer : Offer) (bytes : List ℕ)
      (ticket : TicketContent) → event.act ≡ Moves meddles stop (Accept offer)
      → offered_bytes both.tickets offer ≡ Some bytes → ticket_in pair bytes ≡ Ok ticket
      → (Contains notes.retired ticket → ⊥) → IsBreach pair both notes event

-- the notes of what these events have moved
abbrev pub notes_after : Pair → BothSides History History → MoveNotes → List BothEvent → MoveNotes
notes_after pair both notes [] = notes
notes_after pair both notes (event ∷ events) =
    let o = both_outcome list_mover pair both event in
    notes_after pair o.both (notes_with_effect_if o.effect notes) events

-- The evidence that events on both sides give: as those on one platform do; or one event breaks
-- something.
pub data HasPairEvidence (pair : Pair) (events : List BothEvent) : Type 0 where
  clash : HasClash (instance_on pair First) (both_messages pair events) (both_foreign_values events)
      (both_batches events) → HasPairEvidence pair events
  breach : (before : List BothEvent) (event : BothEvent) (later : List BothEvent)
      → events ≡ before ++ event ∷ later
      → IsBreach pair (both_outcome_by_lists pair before).both
      (notes_after pair (first_both_by_lists pair) no_notes before) event
      → HasPairEvidence pair events

-- what is asked of a run of both sides
abbrev pub MeetsPairPremises : Pair → List BothEvent → Type 0
MeetsPairPremises pair events =
    IsClearPair pair events × IsGenuinePair pair events × IsFreshPair pair events

-- A run of both sides meets the premises, or gives evidence; and never both.
pub record IsDecidedPair (pair : Pair) (events : List BothEvent) : Type 0 where
  pub decided : MeetsPairPremises pair events ⊎ HasPairEvidence pair events
  pub apart : IsClearPair pair events → IsGenuinePair pair events → IsFreshPair pair events
      → HasPairEvidence pair events → ⊥

abbrev pub PairsAreDecided : Type 0
PairsAreDecided = (pair : Pair) (events : List BothEvent) → IsDecidedPair pair events

-- The events before the first one that gives evidence are the longest first part that meets the
-- premises.
abbrev pub PairFrontsAreLongest : Type 0
PairFrontsAreLongest =
    (pair : Pair) (events front : List BothEvent)
    → IsFrontWithoutEvidence (HasPairEvidence pair) events front
    → IsLongest (HasPairEvidence pair) (MeetsPairPremises pair) events front

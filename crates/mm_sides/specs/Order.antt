-- The roles of two sides alone: what holds of them, of the nonces that the module was invited under
-- and of the tickets that it left by. Nothing here knows a history or a digest.
use Rattle.std.specs.Prelude.{◌≡◌, ◌≢◌, ℕ, true, false, List, [], ◌∷◌, ◌++◌, map}
use Rattle.std.specs.List.{AllByRecursion, Contains}
use Rattle.mm_sides.specs.Below.{TicketContent}
use Rattle.mm_sides.specs.BothSides.{Role, Blank, Live, Waiting, Retired, Effect, Invites, Leaves, Enters, role_after, is_live, MoveNotes}
use Rattle.mm_sides.specs.BothSides.{no_notes, notes_with_effect}

abbrev pub nonces_of : List TicketContent → List (List ℕ)
nonces_of tickets = map (λ (ticket : TicketContent). ticket.nonce) tickets

-- the nonce that a side waits for was invited, and no ticket with it was ever accepted
abbrev pub IsAwaited : List (List ℕ) → List (List ℕ) → Role → Type 0
IsAwaited invited spent (Waiting nonce) = Contains invited nonce × (Contains spent nonce → ⊥)
IsAwaited invited spent role = Unit {0}

-- two sides don't wait for one nonce
abbrev pub WaitsElse : List ℕ → Role → Type 0
WaitsElse nonce (Waiting other) = nonce ≢ other
WaitsElse nonce role = Unit {0}

abbrev pub WaitApart : Role → Role → Type 0
WaitApart (Waiting nonce) other = WaitsElse nonce other
WaitApart role other = Unit {0}

-- Where the module is: on this side, on the other, or on its way. The nonces of the tickets that
-- were accepted are those of all tickets that it left by; on its way, of all but the last.
pub data IsSomewhere (this other : Role) (retired : List TicketContent)
    (spent : List (List ℕ)) : Type 0 where
  here : is_live this ≡ true → is_live other ≡ false → spent ≡ nonces_of retired
      → IsSomewhere this other retired spent
  there : is_live this ≡ false → is_live other ≡ true → spent ≡ nonces_of retired
      → IsSomewhere this other retired spent
  away : is_live this ≡ false → is_live other ≡ false → (front : List TicketContent)
      → (last : TicketContent) → retired ≡ front ++ last ∷ []
      → spent ≡ nonces_of front → IsSomewhere this other retired spent

-- What holds of this side and the other at each moment: by the nonces that were spent, those of the
-- tickets accepted.
pub record AreInOrder (this other : Role) (notes : MoveNotes) : Type 0 where
  pub spent : List (List ℕ)
  pub invited : AllByRecursion (Contains notes.invited) spent
  pub this_awaits : IsAwaited notes.invited spent this
  pub other_awaits : IsAwaited notes.invited spent other
  pub apart : WaitApart this other
  pub place : IsSomewhere this other notes.retired spent

-- the effects that a side of this role may take: an invitation where the module isn't and nothing
-- is awaited, a retirement where it is, and an acceptance of a ticket that is awaited
abbrev pub MayTake : Role → Effect → Type 0
MayTake Blank (Invites nonce) = Unit {0}
MayTake (Retired left) (Invites nonce) = Unit {0}
MayTake Live (Leaves ticket) = Unit {0}
MayTake (Waiting awaited) (Enters ticket) = awaited ≡ ticket.nonce
MayTake role effect = ⊥

-- What is asked of an effect: nobody is invited twice under one nonce, and a ticket that is
-- accepted is one that the module left by, as nobody else made one.
abbrev pub IsFreshEffect : MoveNotes → Effect → Type 0
IsFreshEffect notes (Invites nonce) = Contains notes.invited nonce → ⊥
IsFreshEffect notes (Leaves ticket) = Unit {0}
IsFreshEffect notes (Enters ticket) = Contains notes.retired ticket

-- a ticket is the last of those that the module left by
pub record IsLastTicket (retired : List TicketContent) (ticket : TicketContent) : Type 0 where
  pub front : List TicketContent
  pub is : retired ≡ front ++ ticket ∷ []

-- The module enters a side only where it is on none, and only by the ticket that it left by last.
pub record ModuleEntersByLast (this other : Role) (notes : MoveNotes)
    (ticket : TicketContent) : Type 0 where
  pub not_here : is_live this ≡ false
  pub not_there : is_live other ≡ false
  pub last : IsLastTicket notes.retired ticket

-- Laws of roles alone: what holds at first; what holds of the other side and this one; what an
-- effect keeps; and how the module enters.
abbrev pub RolesBegin : Type 0
RolesBegin = AreInOrder Live Blank no_notes

abbrev pub RolesSwap : Type 0
RolesSwap =
    (this other : Role) (notes : MoveNotes) → AreInOrder this other notes
    → AreInOrder other this notes

abbrev pub RolesGoOn : Type 0
RolesGoOn =
    (this other : Role) (notes : MoveNotes) (effect : Effect) → AreInOrder this other notes
    → MayTake this effect
    → IsFreshEffect notes effect → AreInOrder (role_after effect) other
    (notes_with_effect effect notes)

abbrev pub RolesEnterLast : Type 0
RolesEnterLast =
    (this other : Role) (notes : MoveNotes) (ticket : TicketContent) → AreInOrder this other notes
    → MayTake this (Enters ticket)
    → IsFreshEffect notes (Enters ticket) → ModuleEntersByLast this other notes ticket

-- at most one of two sides is live
abbrev pub AreNotBothLive : Role → Role → Type 0
AreNotBothLive this other = is_live this ≡ true → is_live other ≡ false

abbrev pub RolesAreOne : Type 0
RolesAreOne =
    (this other : Role) (notes : MoveNotes) → AreInOrder this other notes
    → AreNotBothLive this other

-- What a side's cell holds, by what the side is to the module; and what a move finds there.
use Rattle.std.specs.Prelude.{◌≡◌, ℕ, Bool, true, false, not, List, length, Option, None, Some, Result, Ok, Err, if◌then◌else◌}
use Rattle.mm_transfer.specs.Below.{FitsVariant, cell_spelling, blank_cell, Instance, Digests, digest_of, cell_at, waiting_spelling}
use Rattle.mm_transfer.specs.Below.{retired_spelling, barrier_of, acceptance_of, sealed_ticket, summary_in, Accepted, Invited, Link}
use Rattle.mm_transfer.specs.Below.{ReadyMove, MoveRefusal, digest_mover, DenialCause, Already, Open, Gone, Nonce, FoundMove, Role, Blank}
use Rattle.mm_transfer.specs.Below.{Live, Waits, Left, is_live, Effect, Invites, Leaves, Enters}
use Rattle.mm_model.specs.declared.refusal.Refusal.TheVariants as core
use Rattle.mm_move.specs.declared.cell.RetiredCell.{RetiredCell}
use Rattle.mm_move.specs.declared.cell.WaitingCell.{WaitingCell}
use Rattle.mm_move.specs.declared.refusal.MoveRefusal.TheVariants as refusal
use Rattle.mm_sides.specs.BothSides.{Refused}

-- the cell of an instance that is awaited under a nonce
abbrev pub waiting_cell_at : Instance → List ℕ → WaitingCell
waiting_cell_at i nonce = record {
  variant = i.variant;
  «module» = i.meaning.id;
  nonce = nonce;
  key = i.key;
  barrier = i.barrier;
}

-- the cell of an instance that has left by a ticket with this nonce, from where it stood
abbrev pub retired_cell_at : Instance → Digests → List ℕ → RetiredCell
retired_cell_at i d nonce = record {
  variant = i.variant;
  «module» = i.meaning.id;
  summary = digest_of d.digest;
  key = i.key;
  nonce = nonce;
}

-- the 104 bytes of a side's cell: by its role, and by the digest and the flag where it is live, by
-- the digest where the module has left
abbrev pub cell_of_role : Instance → Role → Digests → List ℕ
cell_of_role i Blank d = blank_cell
cell_of_role i Live d = cell_spelling (cell_at i d)
cell_of_role i (Waits nonce) d = waiting_spelling (waiting_cell_at i nonce)
cell_of_role i (Left nonce) d = retired_spelling (retired_cell_at i d nonce)

-- where a side stands after an effect, as far as its cell goes
abbrev pub digests_after_effect : Digests → Effect → Digests
digests_after_effect d (Enters ticket) = digest_mover.enters d d.count ticket.content
digests_after_effect d effect = d

abbrev pub cell_after : Instance → Digests → Effect → List ℕ
cell_after i d (Invites nonce) = cell_of_role i (Waits nonce) d
cell_after i d (Leaves ticket) = cell_of_role i (Left ticket.nonce) d
cell_after i d (Enters ticket) = cell_of_role i Live (digests_after_effect d (Enters ticket))

-- the refusal of a cause. That a cell has another barrier than the link is the refusal of none.
abbrev pub refusal_of : DenialCause → MoveRefusal
refusal_of (Refused why) = refusal.Core why
refusal_of Already = refusal.Already
refusal_of Open = refusal.Open
refusal_of Gone = refusal.Gone
refusal_of Nonce = refusal.Nonce

-- the cell that a move writes, unless it was made before
abbrev pub next_cell_if : Bool → List ℕ → Option (List ℕ)
next_cell_if true bytes = None
next_cell_if false bytes = Some bytes

-- where a side stands once a move that was found is made, as far as its cell goes
abbrev pub digests_after_move : Digests → FoundMove → Digests
digests_after_move d found = if found.again then d else digests_after_effect d found.effect

-- The answers: an invitation says nothing more; a retirement gives its ticket, sealed under the
-- link's key; an acceptance the snapshot of where the module stands, sealed under the side's.
abbrev pub GivesInvitedBy : Effect → Type 0
GivesInvitedBy (Invites nonce) = Unit {0}
GivesInvitedBy effect = ⊥

abbrev pub GivesInvited : FoundMove → Invited → Type 0
GivesInvited found answer = GivesInvitedBy found.effect

abbrev pub GivesTicketBy : List ℕ → Effect → List ℕ → Type 0
GivesTicketBy link (Leaves ticket) bytes = bytes ≡ sealed_ticket link ticket
GivesTicketBy link effect bytes = ⊥

abbrev pub GivesTicket : List ℕ → FoundMove → List ℕ → Type 0
GivesTicket link found bytes = GivesTicketBy link found.effect bytes

abbrev pub GivesEntryBy : Instance → Digests → Effect → Accepted → Type 0
GivesEntryBy i d (Enters ticket) accepted =
    accepted ≡ acceptance_of i.key (digest_mover.says i d ticket.content)
GivesEntryBy i d effect accepted = ⊥

abbrev pub GivesEntry : Instance → Digests → FoundMove → Accepted → Type 0
GivesEntry i d found accepted = GivesEntryBy i (digests_after_move d found) found.effect accepted

-- A cell that waits, or that the module left, has a clear flag and a nonce of 32 bytes; and where
-- it left, as where it enters, there is a digest.
abbrev pub FitsEffect : Digests → Effect → Type 0
FitsEffect d (Invites nonce) = (d.flag ≡ false) × (length nonce ≡ 32)
FitsEffect d (Leaves ticket) =
    (d.flag ≡ false) × (length ticket.nonce ≡ 32) × (length d.digest ≡ 32)
FitsEffect d (Enters ticket) = length (summary_in ticket.content.place).bytes ≡ 32

-- the module leaves anew a live side, and enters anew one that isn't
abbrev pub FitsLive : Role → Bool → Effect → Type 0
FitsLive role again (Invites nonce) = Unit {0}
FitsLive role again (Leaves ticket) = is_live role ≡ not again
FitsLive role again (Enters ticket) = not (is_live role) ≡ not again

-- What is ready is what was found: by the cell that it writes, if any, and by its answer.
pub record IsReady {A : Type 0} (gives : FoundMove → A → Type 0) (i : Instance) (role : Role)
    (d : Digests) (ready : ReadyMove A) (found : FoundMove) : Type 0 where
  pub next : ready.next ≡ next_cell_if found.again (cell_after i d found.effect)
  pub answer : gives found ready.answer
  pub fits : FitsEffect d found.effect
  pub live : FitsLive role found.again found.effect

-- no move finds want of memory, nor a device's fault
abbrev pub IsSaid : DenialCause → Type 0
IsSaid (Refused core.Memory) = ⊥
IsSaid (Refused (core.Device fault)) = ⊥
IsSaid cause = Unit {0}

-- what a move finds in the cell is what it finds by the role
abbrev pub MatchesRole : {A : Type 0} → (FoundMove → A → Type 0) → Instance → Role → Digests
    → Result (ReadyMove A) MoveRefusal → Result FoundMove DenialCause → Type 0
MatchesRole gives i role d (Err why) (Err cause) = (why ≡ refusal_of cause) × IsSaid cause
MatchesRole gives i role d (Err why) (Ok found) = ⊥
MatchesRole gives i role d (Ok ready) (Err cause) = ⊥
MatchesRole gives i role d (Ok ready) (Ok found) = IsReady gives i role d ready found

-- a role with where its side stands: nonces have 32 bytes, and digests where a cell has one; a
-- segment is open on a live side alone, and in Opt
abbrev pub FitsRole : Instance → Role → Digests → Type 0
FitsRole i Blank d = d.flag ≡ false
FitsRole i Live d = FitsVariant i.variant d.flag i.barrier × (length d.digest ≡ 32)
FitsRole i (Waits nonce) d = (d.flag ≡ false) × (length nonce ≡ 32)
FitsRole i (Left nonce) d = (d.flag ≡ false) × (length nonce ≡ 32) × (length d.digest ≡ 32)

-- Keys and barriers have 32 bytes each, and the barrier is the link's; in Basic it is zero.
pub record FitsCell (i : Instance) (link : Link) (role : Role) (d : Digests) : Type 0 where
  pub key : length i.key ≡ 32
  pub barrier : length i.barrier ≡ 32
  pub linked : barrier_of i.variant link ≡ i.barrier
  pub fits : FitsRole i role d

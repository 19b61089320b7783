-- A seat: a module on a platform in memory, and what becomes of it.
use Rattle.std.specs.Prelude.{◌≡◌, ◌≤◌, ℕ, ◌+◌, List, [], ◌∷◌, ◌++◌, Option, None, Some, Result, Ok, Err, MatchResult, option_to_list}
use Rattle.mm_bytes.specs.declared.fault.Memory.{Memory}
use Rattle.mm_digest.specs.declared.variant.Variant.{Variant}
use Rattle.mm_module.specs.Meaning.{Meaning}
use Rattle.mm_seal.specs.Cell.{cell_spelling}
use Rattle.mm_seal.specs.declared.cell.Cell.{Cell}
use Rattle.mm_seal.specs.declared.cell.CellFault.{CellFault}
use Rattle.mm_platform.specs.Memory.{new_platform}
use Rattle.mm_platform.specs.Standing.{Standing, items_beside}
use Rattle.mm_modules.specs.Modules.{meaning_of}
use Rattle.mm_model.specs.History.{first_history}
use Rattle.mm_model.specs.Chains.{Instance}
use Rattle.mm_model.specs.Moves.{Digests}
use Rattle.mm_model.specs.Standing.{cell_of, issued_bytes, register_reading}
use Rattle.mm_model.specs.declared.refusal.Refusal.{Refusal}
use Rattle.mm_call.specs.CallFinding.{digest_level}
use Rattle.mm_call.specs.Standing.{instance_by, count_after_more}
use Rattle.mm_schedule.specs.Events.{Event, Ask, Checkpoint, Power}
use Rattle.mm_schedule.specs.declared.header.Header.{Header}
use Rattle.mm_schedule.specs.declared.reply.Reply.{Reply}
use Rattle.mm_outcome.specs.Premises.{Outcome, event_outcome, vain_event_outcome}
use Rattle.mm_world.specs.declared.call.CallReport.{CallReport}
use Rattle.mm_world.specs.declared.seat.Seat.{Seat}
use Rattle.mm_world.specs.WorldStanding.{CallLacksMemory, IsRead, refusal_of_fault, vain_refusal, HasDigests, IsQuiet}
use Rattle.mm_world.specs.Lengths.{length_if, within_64}

-- the instance of a header's variant and module that has this key and barrier
abbrev pub instance_at : Header → (key barrier : List ℕ) → Instance
instance_at header key barrier =
    instance_by header.variant (meaning_of header.«module») key barrier

-- a seat over a new platform with this cell, on which nothing was issued
pub record IsBare (header : Header) (cell : List ℕ) (seat : Seat) : Type 0 where
  pub headed : seat.header ≡ header
  pub platform : seat.platform ≡ new_platform cell
  pub issued : seat.issued.items ≡ []
  pub kept : seat.kept ≡ 0
  pub committed : seat.committed ≡ 0

-- a seat over a new platform with this cell, and with this first snapshot
pub record IsOver (header : Header) (cell snapshot : List ℕ) (seat : Seat) : Type 0 where
  pub headed : seat.header ≡ header
  pub platform : seat.platform ≡ new_platform cell
  pub issued : seat.issued.items ≡ snapshot ∷ []
  pub committed : seat.committed ≡ 0

-- a seat over a platform that was provisioned
abbrev pub IsFirst : Header → (key barrier : List ℕ) → Seat → Type 0
IsFirst header key barrier seat =
    let i = instance_at header key barrier in
    IsOver header (cell_spelling (cell_of i first_history)) (issued_bytes i first_history) seat

-- The seat keeps the snapshot that was handed out, if one was.
pub record SeatKeeps (snapshot : Option (List ℕ)) (old new : Seat) : Type 0 where
  pub header : new.header ≡ old.header
  pub platform : new.platform ≡ old.platform
  pub issued : new.issued.items ≡ old.issued.items ++ option_to_list snapshot
  pub kept : new.kept ≡ within_64 (old.kept + length_if snapshot)
  pub committed : new.committed ≡ old.committed

-- A call is over that came to this, and was answered so.
pub record EndsCall (it : CallReport) (old new : Seat) (said : Reply) : Type 0 where
  pub header : new.header ≡ old.header
  pub platform : new.platform ≡ old.platform
  pub issued : new.issued.items ≡ old.issued.items ++ option_to_list it.snapshot
  pub kept : new.kept ≡ within_64 (old.kept + length_if it.snapshot)
  pub committed : new.committed ≡ within_64 (old.committed + it.committed)
  pub says : said ≡ it.reply

-- a platform whose register others extend by this value
abbrev pub extended_standing : Standing → List ℕ → Standing
extended_standing old value = record old { items = items_beside (value ∷ []) old.items }

-- Nothing was issued or committed, and the platform stands so.
pub record SeatStaysOn (standing : Standing) (old new : Seat) : Type 0 where
  pub header : new.header ≡ old.header
  pub platform : new.platform ≡ standing
  pub issued : new.issued.items ≡ old.issued.items
  pub kept : new.kept ≡ old.kept
  pub committed : new.committed ≡ old.committed

-- An event came to this outcome, and was answered so: the platform is quiet, and stands as the
-- outcome says.
pub record EventComesTo (i : Instance) (o : Outcome Digests) (old new : Seat)
    (said : Reply) : Type 0 where
  pub reply : said ≡ o.reply
  pub issued : new.issued.items ≡ o.issued
  pub committed : new.committed ≡ within_64 o.state.count
  pub rises : old.committed ≤ o.state.count
  pub stands : HasDigests i new.platform o.state
  pub quiet : IsQuiet new.platform
  pub steps : new.platform.steps ≡ count_after_more o.steps old.platform.steps
  pub writes : new.platform.writes ≡ count_after_more o.writes old.platform.writes

-- An event came to this outcome, and was answered so, where the cell is none that a call goes on
-- with: the cell is as it was, and nothing was committed.
pub record EventComesInVain (o : Outcome Digests) (old new : Seat) (said : Reply) : Type 0 where
  pub reply : said ≡ o.reply
  pub issued : new.issued.items ≡ o.issued
  pub committed : new.committed ≡ old.committed
  pub cell : new.platform.cell ≡ old.platform.cell
  pub register : register_reading new.platform ≡ Some o.state.register
  pub quiet : IsQuiet new.platform
  pub steps : new.platform.steps ≡ count_after_more o.steps old.platform.steps
  pub writes : new.platform.writes ≡ count_after_more o.writes old.platform.writes

-- Memory was wanting for an event: nothing has changed, but that a call that asks may have made its
-- reading steps. A loss of power wants none.
abbrev pub SeatLacksMemory : Instance → Digests → Event → Standing → Standing → Type 0
SeatLacksMemory i d (Ask meddles stop offer b) old new = CallLacksMemory i d meddles stop old new
SeatLacksMemory i d Power old new = ⊥
SeatLacksMemory i d event old new = new ≡ old

-- where the cell is none that a call goes on with, no call has then made a step
abbrev pub SeatLacksMemoryInVain : Event → Standing → Standing → Type 0
SeatLacksMemoryInVain Power old new = ⊥
SeatLacksMemoryInVain event old new = new ≡ old

-- what an event at a seat comes to over the cell of this instance
abbrev pub SeatGoesOn : Instance → Event → Seat → Seat → Result Reply Memory → Type 0
SeatGoesOn i event old new result =
    (d : Digests) → HasDigests i old.platform d → IsQuiet old.platform → d.count ≡ old.committed
    → MatchResult result
    (EventComesTo i (event_outcome i (digest_level i) d old.issued.items event) old new)
    (λ _. SeatStaysOn new.platform old new × SeatLacksMemory i d event old.platform new.platform)

-- a checkpoint goes on with the cell of any variant and module
abbrev pub ClosesAnyCell : Event → Seat → Seat → Result Reply Memory → Type 0
ClosesAnyCell (Checkpoint meddles stop) old new result =
    (variant : Variant) (meaning : Meaning) (key barrier : List ℕ)
    → SeatGoesOn (instance_by variant meaning key barrier) (Checkpoint meddles stop) old new result
ClosesAnyCell event old new result = Unit {0}

-- why an event at a seat with this header doesn't go on with a cell, by what its bytes read as;
-- none where it does
abbrev pub vain_event_refusal : Header → Event → Result Cell CellFault → Option Refusal
vain_event_refusal header event (Err fault) = Some (refusal_of_fault fault)
vain_event_refusal header (Checkpoint meddles stop) (Ok cell) = None
vain_event_refusal header event (Ok cell) =
    vain_refusal header.variant (meaning_of header.«module»).id (Ok cell)

-- An event happened at a seat: over the cell of its variant and module, under any key and barrier;
-- a checkpoint, over that of any other, too; and over each cell that it doesn't go on with, as one
-- that is blank, that spells none, or that another variant or module has.
pub record SeatTakesEvent (event : Event) (old new : Seat)
    (result : Result Reply Memory) : Type 0 where
  pub header : new.header ≡ old.header
  pub own : (key barrier : List ℕ)
      → SeatGoesOn (instance_at old.header key barrier) event old new result
  pub closes : ClosesAnyCell event old new result
  pub vain : (i : Instance) (d : Digests) (read : Result Cell CellFault) (why : Refusal)
      → IsRead read d old.platform → vain_event_refusal old.header event read ≡ Some why
      → MatchResult result
      (EventComesInVain (vain_event_outcome (digest_level i) d old.issued.items why event) old new)
      (λ _. SeatStaysOn new.platform old new × SeatLacksMemoryInVain event
      old.platform new.platform)

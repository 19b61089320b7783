-- What passes between both sides, and what a command makes of a side and of it. With it: the two
-- sides that a header sets up; one side in code, and what it is by digests; what a side in code
-- keeps has one proof at most, so that it may be said of a field.
use Rattle.std.specs.List.{sum_by}
use Rattle.std.specs.Prelude.{◌≡◌, ◌≤◌, ◌+◌, ℕ, Bool, false, List, length, Option, None, Some, Result, Ok, Err, MatchResult, ◌&&◌, not, []}
use Rattle.std.specs.Prelude.{◌∷◌, ◌++◌, IsErr, is_some, if◌then◌else◌}
use Rattle.std.proofs.Props.{props}
use Rattle.mm_model.specs.declared.refusal.Refusal.TheVariants as core
use Rattle.mm_move.specs.declared.cell.MovedCell.TheVariants as moved
use Rattle.mm_move.specs.declared.refusal.MoveRefusal.TheVariants as refusal
use Rattle.mm_world.specs.Lengths.{within_64}
use Rattle.mm_transfer.specs.Below.{meaning_of, Header, rising_bytes_from, world_key, world_barrier, Pair, most_members, Memory, CellFault}
use Rattle.mm_transfer.specs.Below.{Standing, Digests, register_reading, moved_cell_of, MovedCell, Link, Event, IsPrintable, Reply, Outcome}
use Rattle.mm_transfer.specs.Below.{SideName, instance_on, SideState, digest_mover, outcome_by_role, commits_between, Role, Blank, Live}
use Rattle.mm_transfer.specs.Below.{Waiting, Retired, digest_in, flag_in, value_in, IsQuiet, Meddle, Stop, Reads, Refusal, move_fault_of}
use Rattle.mm_transfer.specs.Below.{Accepted, MoveRefusal, cause_of, way_of, BothSides, BothOutcome, move_outcome, MoveCommand, Variant}
use Rattle.mm_transfer.specs.Below.{Basic, Opt, FitsVariant, Instance}
use Rattle.mm_transfer.specs.declared.between.IssuedTickets.{IssuedTickets}
use Rattle.mm_transfer.specs.declared.reply.MoveCause.TheVariants as cause
use Rattle.mm_transfer.specs.declared.reply.MoveReply.{MoveReply}
use Rattle.mm_transfer.specs.declared.reply.MoveReply.TheVariants as reply
use Rattle.mm_transfer.specs.declared.side.Side.{Side as CodeSide}
use Rattle.mm_transfer.specs.MovePlan.{PlainWants, has_effect_at, move_reply_of, MayHaveRead}
use Rattle.mm_transfer.specs.RoleCells.{cell_of_role, FitsCell, FitsRole}

-- The two sides that a header sets up.

-- its variant and module; each key, and the barrier, are 32 bytes in rising order
abbrev pub pair_of : Header → Pair
pair_of header = record {
  variant = header.variant;
  meaning = meaning_of header.«module»;
  first_key = world_key;
  second_key = rising_bytes_from 0x40;
  barrier = world_barrier;
  link = rising_bytes_from 0x60;
}

-- One side in code, and what it is by digests.

-- what both sides share
abbrev pub link_of : Pair → Link
link_of pair = record { key = pair.link; barrier = pair.barrier }

-- The role of a side, as its cell tells it.
abbrev pub role_of : Result MovedCell CellFault → Role
role_of (Ok (moved.Live cell)) = Live
role_of (Ok (moved.Waiting cell)) = Waiting cell.nonce
role_of (Ok (moved.Retired cell)) = Retired cell.nonce
role_of (Err fault) = Blank

abbrev pub role_in : Option (List ℕ) → Role
role_in None = Blank
role_in (Some bytes) = role_of (moved_cell_of bytes)

-- The summary or anchor where a side stands or last stood, and its flag: a cell has them where the
-- module is or left, and elsewhere the digest is kept.
abbrev pub digest_by : Role → List ℕ → Option (List ℕ) → List ℕ
digest_by Live kept cell = digest_in cell
digest_by (Retired nonce) kept cell = digest_in cell
digest_by role kept cell = kept

abbrev pub flag_by : Role → Option (List ℕ) → Bool
flag_by Live cell = flag_in cell
flag_by role cell = false

abbrev pub at_by : Role → Standing → (kept : List ℕ) → (position : ℕ) → Digests
at_by role standing kept position = record {
  digest = digest_by role kept standing.cell;
  flag = flag_by role standing.cell;
  register = value_in (register_reading standing);
  count = position;
}

-- where a side stands by digests
abbrev pub at_in : CodeSide → Digests
at_in side =
    at_by (role_in side.seat.platform.cell) side.seat.platform side.digest.bytes side.seat.committed

-- a side as contracts see it
abbrev pub side_in : CodeSide → SideState Digests
side_in side = record {
  role = role_in side.seat.platform.cell;
  at = at_in side;
  issued = side.seat.issued.items;
}

-- The platform of a side stands there: its cell is by the side's role, and the register has this
-- value.
pub record StandsAs (pair : Pair) (which : SideName) (role : Role) (standing : Standing)
    (d : Digests) : Type 0 where
  pub fits : FitsCell (instance_on pair which) (link_of pair) role d
  pub cell : standing.cell ≡ Some (cell_of_role (instance_on pair which) role d)
  pub register : register_reading standing ≡ Some d.register

-- What the fields of a side keep.
pub record FitsSide (pair : Pair) (which : SideName) (side : CodeSide) : Type 0 where
  pub stands : StandsAs pair which (role_in side.seat.platform.cell) side.seat.platform (at_in side)
  pub quiet : IsQuiet side.seat.platform

-- The same side, in which something happened: it issued one snapshot at most.
pub record SideGoesOn (pair : Pair) (which : SideName) (old new : CodeSide) : Type 0 where
  pub fits : FitsSide pair which new
  pub few : new.seat.committed ≤ old.seat.committed + most_members
  pub one : length new.seat.issued.items ≤ length old.seat.issued.items + 1

-- An event of a schedule came to this outcome, and was answered so; the requests of the side grew
-- by what the event committed.
pub record SideComes (pair : Pair) (which : SideName) (old new : CodeSide) (o : Outcome Digests)
    (said : Reply) : Type 0 where
  pub goes : SideGoesOn pair which old new
  pub stands : side_in new ≡ record (side_in old) { at = o.state; issued = o.issued }
  pub says : said ≡ o.reply
  pub printable : IsPrintable said
  pub commits : new.seat.committed ≡ old.seat.committed
      + commits_between (side_in old).role (at_in old).count o.state.count

-- Memory was wanting for an event of a schedule, and the side can go on.
pub record SideLacks (pair : Pair) (which : SideName) (event : Event)
    (old new : CodeSide) : Type 0 where
  pub goes : SideGoesOn pair which old new
  pub stands : PlainWants (instance_on pair which) event (side_in old) (side_in new)
  pub digest : new.digest ≡ old.digest
  pub committed : new.seat.committed ≡ old.seat.committed

-- what an event of a schedule comes to on a side
abbrev pub outcome_on : Pair → SideName → CodeSide → Event → Outcome Digests
outcome_on pair which side event =
    outcome_by_role digest_mover (instance_on pair which) (side_in side).role (side_in side) event

-- An event of a schedule happened on a side of a transfer, which is either of the two.
pub record SideFollows (event : Event) (old new : CodeSide) (result : Result Reply Memory) : Type 0
  where
    pub headed : new.seat.header ≡ old.seat.header
    pub comes : (which : SideName) → let pair = pair_of old.seat.header in
        FitsSide pair which old
        → MatchResult result (SideComes pair which old new (outcome_on pair which old event))
        (λ _. SideLacks pair which event old new)

-- a side at first
pub record IsNew (header : Header) (which : SideName) (first : SideState Digests) (side : CodeSide)
    : Type 0 where
  pub headed : side.seat.header ≡ header
  pub fits : FitsSide (pair_of header) which side
  pub stands : side_in side ≡ first
  pub committed : side.seat.committed ≡ 0

-- What passes between both sides, and what a command makes of a side and of it.

-- what is told of a move that was refused, or broken off; want of memory is the caller's
abbrev pub TellsRefusalFor : Stop → Refusal → Result MoveReply Memory → Type 0
TellsRefusalFor stop core.Memory result = IsErr result
TellsRefusalFor stop (core.Device fault) result =
    result ≡ Ok (reply.Broken (way_of stop) (has_effect_at stop))
TellsRefusalFor stop why result = result ≡ Ok (reply.Denied (cause.Refused (cause_of why)))

abbrev pub TellsRefusalAs : Stop → MoveRefusal → Result MoveReply Memory → Type 0
TellsRefusalAs stop (refusal.Core why) result = TellsRefusalFor stop why result
TellsRefusalAs stop refusal.Already result = result ≡ Ok (reply.Denied cause.Already)
TellsRefusalAs stop refusal.Open result = result ≡ Ok (reply.Denied cause.Open)
TellsRefusalAs stop refusal.Gone result = result ≡ Ok (reply.Denied cause.Gone)
TellsRefusalAs stop refusal.Nonce result = result ≡ Ok (reply.Denied cause.Nonce)
TellsRefusalAs stop refusal.Barrier result = result ≡ Ok (reply.Denied cause.Barrier)

-- a move that was refused so has its effect: it was broken off at the step that has it
abbrev pub has_moved : Stop → MoveRefusal → Bool
has_moved stop why = is_some (move_fault_of why) && has_effect_at stop

-- what an invitation is told as
abbrev pub TellsInvitation : {A : Type 0} → Stop → Result A MoveRefusal → Result MoveReply Memory
    → Type 0
TellsInvitation stop (Ok done) result = result ≡ Ok reply.Invited
TellsInvitation stop (Err why) result = TellsRefusalAs stop why result

-- A retirement is told: its ticket is handed out, and the module has left, if it was there.
pub record TicketKept (was_live : Bool) (position : ℕ) (ticket : List ℕ) (old new : IssuedTickets)
    (result : Result MoveReply Memory) : Type 0 where
  pub tickets : new.tickets.items ≡ old.tickets.items ++ ticket ∷ []
  pub kept : new.kept ≡ within_64 (old.kept + length ticket)
  pub away : new.away ≡ (if was_live then position else old.away)
  pub says : result ≡ Ok (reply.Left (length old.tickets.items))

pub record TicketRefused (was_live : Bool) (position : ℕ) (stop : Stop) (why : MoveRefusal)
    (old new : IssuedTickets) (result : Result MoveReply Memory)
    : Type 0 where
  pub tickets : new.tickets.items ≡ old.tickets.items
  pub kept : new.kept ≡ old.kept
  pub away : new.away ≡ (if was_live && has_moved stop why then position else old.away)
  pub says : TellsRefusalAs stop why result

abbrev pub TellsRetirement : Bool → ℕ → Stop → Result (List ℕ) MoveRefusal → IssuedTickets
    → IssuedTickets
    → Result MoveReply Memory → Type 0
TellsRetirement was_live position stop (Ok ticket) old new result =
    TicketKept was_live position ticket old new result
TellsRetirement was_live position stop (Err why) old new result =
    TicketRefused was_live position stop why old new result

-- An acceptance is told: its snapshot is handed out, and the module has entered, if it wasn't
-- there.
pub record EntryKept (was_live : Bool) (away : ℕ) (accepted : Accepted) (old new : CodeSide)
    (result : Result MoveReply Memory) : Type 0 where
  pub platform : new.seat.platform ≡ old.seat.platform
  pub digest : new.digest ≡ old.digest
  pub issued : new.seat.issued.items ≡ old.seat.issued.items ++ accepted.snapshot ∷ []
  pub committed : new.seat.committed ≡ (if was_live then old.seat.committed else away)
  pub says : result ≡ Ok (reply.Entered accepted.position)

pub record EntryRefused (was_live : Bool) (away : ℕ) (stop : Stop) (why : MoveRefusal)
    (old new : CodeSide) (result : Result MoveReply Memory)
    : Type 0 where
  pub platform : new.seat.platform ≡ old.seat.platform
  pub digest : new.digest ≡ old.digest
  pub issued : new.seat.issued.items ≡ old.seat.issued.items
  pub committed : new.seat.committed
      ≡ (if not was_live && has_moved stop why then away else old.seat.committed)
  pub says : TellsRefusalAs stop why result

abbrev pub TellsEntry : Bool → ℕ → Stop → Result Accepted MoveRefusal → CodeSide → CodeSide
    → Result MoveReply Memory → Type 0
TellsEntry was_live away stop (Ok accepted) old new result =
    EntryKept was_live away accepted old new result
TellsEntry was_live away stop (Err why) old new result =
    EntryRefused was_live away stop why old new result

-- The side keeps the digest of its cell, where that has one; and nothing else changes.
pub record KeepsDigest (old new : CodeSide) : Type 0 where
  pub seat : new.seat ≡ old.seat
  pub digest : new.digest.bytes ≡ (at_in old).digest

-- both sides, of which this is the first
abbrev pub both_with : CodeSide → IssuedTickets → SideState Digests → ℕ → BothSides Digests ℕ
both_with here between other committed = record {
  first = side_in here;
  second = other;
  away = between.away;
  tickets = between.tickets.items;
  committed = committed;
}

-- What a command on a side reaches: the side, and what passes between both.
pub record CommandReach : Type 0 where
  pub here : CodeSide
  pub between : IssuedTickets

abbrev pub command_reach : CodeSide → IssuedTickets → CommandReach
command_reach here between = record { here = here; between = between }

-- what a command on this side comes to, whatever the other is
abbrev pub outcome_of_command : Pair → SideName → CommandReach → List Meddle → Stop → MoveCommand
    → SideState Digests → ℕ → BothOutcome Digests ℕ
outcome_of_command pair which old meddles stop command other committed =
    move_outcome digest_mover pair (instance_on pair which)
    (both_with old.here old.between other committed) meddles stop command

-- the bytes of the tickets are counted
abbrev pub FitsIssuedTickets : IssuedTickets → Type 0
FitsIssuedTickets between = between.kept ≡ within_64 (sum_by length between.tickets.items)

-- A side with what passes between both has come to this outcome, and answers so. At most one
-- snapshot and one ticket came, and no count is greater than the greater of both was.
pub record CommandDone (pair : Pair) (which : SideName) (old new : CommandReach)
    (o : SideState Digests → ℕ → BothOutcome Digests ℕ) (said : MoveReply) : Type 0 where
  pub fits : FitsSide pair which new.here
  pub between : FitsIssuedTickets new.between
  pub both : (other : SideState Digests) (committed : ℕ)
      → both_with new.here new.between other committed ≡ (o other committed).both
  pub says : (other : SideState Digests) (committed : ℕ)
      → said ≡ move_reply_of (o other committed).reply
  pub issued : length new.here.seat.issued.items ≤ length old.here.seat.issued.items + 1
  pub tickets : length new.between.tickets.items ≤ length old.between.tickets.items + 1
  pub counts : (most : ℕ) → old.here.seat.committed ≤ most → old.between.away ≤ most
      → (new.here.seat.committed ≤ most) × (new.between.away ≤ most)

-- Memory was wanting: nothing has changed, but that the first step may have been made.
pub record CommandLacks (pair : Pair) (which : SideName) (meddles : List Meddle) (stop : Stop)
    (old new : CommandReach) : Type 0 where
  pub fits : FitsSide pair which new.here
  pub side : MayHaveRead (instance_on pair which) (Reads ∷ []) meddles stop (side_in old.here)
      (side_in new.here)
  pub committed : new.here.seat.committed ≡ old.here.seat.committed
  pub tickets : new.between.tickets.items ≡ old.between.tickets.items
  pub kept : new.between.kept ≡ old.between.kept
  pub away : new.between.away ≡ old.between.away

-- a command on a side
abbrev pub CommandGoes : Pair → SideName → List Meddle → Stop → MoveCommand → CommandReach
    → CommandReach → Result MoveReply Memory → Type 0
CommandGoes pair which meddles stop command old new result =
    FitsSide pair which old.here → FitsIssuedTickets old.between
    → MatchResult result
    (CommandDone pair which old new (outcome_of_command pair which old meddles stop command))
    (λ _. CommandLacks pair which meddles stop old new)

-- What a side in code keeps has one proof at most, so that it may be said of a field.

pub variant_prop : (variant : Variant) (flag : Bool) (barrier : List ℕ)
    → IsProp (FitsVariant variant flag barrier)
variant_prop Basic flag barrier = Prim.hlevel props
variant_prop Opt flag barrier = Prim.hlevel props

pub role_prop : (i : Instance) (role : Role) (d : Digests) → IsProp (FitsRole i role d)
role_prop i Live d = Prim.hlevel (props, variant_prop)
role_prop i role d = Prim.hlevel props

pub fits_prop : (pair : Pair) (which : SideName) (side : CodeSide)
    → IsProp (FitsSide pair which side)
fits_prop pair which side = Prim.hlevel (props, role_prop)

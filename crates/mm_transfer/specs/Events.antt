-- Events of two sides as contracts see them. With it: what happens on one side in code, whichever
-- it is; BothSides sides in code, as contracts see them.
use Rattle.std.specs.Prelude.{◌≡◌, ◌≤◌, ◌<◌, ◌+◌, ◌^◌, ℕ, length, Result, MatchResult, ◌-◌}
use Rattle.mm_sides.specs.BothSides as both
use Rattle.mm_sides.specs.Folds as folds
use Rattle.mm_transfer.specs.Below.{event_of, meddles_of, most_members, Memory, Digests, SideName, Pair, instance_on, SideState}
use Rattle.mm_transfer.specs.Below.{digest_mover, BothAct, BothOutcome, outcome_here, Header, BothSides, first_both_by_digests, BothEvent}
use Rattle.mm_transfer.specs.Below.{both_outcome}
use Rattle.mm_transfer.specs.declared.between.IssuedTickets.{IssuedTickets}
use Rattle.mm_transfer.specs.declared.event.Command.{Command}
use Rattle.mm_transfer.specs.declared.event.Command.TheVariants.{Invite, Retire, Accept}
use Rattle.mm_transfer.specs.declared.event.SideAct.{SideAct}
use Rattle.mm_transfer.specs.declared.event.SideAct.TheVariants.{Plain, Moves}
use Rattle.mm_transfer.specs.declared.event.SideChoice.{SideChoice}
use Rattle.mm_transfer.specs.declared.event.SideChoice.TheVariants.{First, Second}
use Rattle.mm_transfer.specs.declared.event.SideEvent.{SideEvent}
use Rattle.mm_transfer.specs.declared.reply.MoveReply.{MoveReply}
use Rattle.mm_transfer.specs.declared.side.Side.{Side as CodeSide}
use Rattle.mm_transfer.specs.MovePlan.{move_reply_of, IsSayable, ActWants, BothEventLacksMemory}
use Rattle.mm_transfer.specs.SideCommands.{both_with, FitsIssuedTickets, side_in, FitsSide, pair_of}

-- the side that a value of the code stands for, its command, what happens, and its event
abbrev pub which_of : SideChoice → both.SideName
which_of First = both.First
which_of Second = both.Second

abbrev pub command_of : Command → both.MoveCommand
command_of (Invite nonce) = both.Invite nonce.bytes
command_of (Retire nonce offer) = both.Retire nonce.bytes offer
command_of (Accept offer) = both.Accept offer

abbrev pub act_of : SideAct → folds.BothAct
act_of (Plain event) = folds.Plain (event_of event)
act_of (Moves meddles stop command) = folds.Moves (meddles_of meddles) stop (command_of command)

abbrev pub side_event_of : SideEvent → folds.BothEvent
side_event_of event = record { which = which_of event.which; act = act_of event.act }

-- What happens on one side in code, whichever it is: an event of a schedule, or a command.

-- What happens on a side reaches this: the side, what passes between both, and how many requests
-- were committed, on either side.
pub record ActReach : Type 0 where
  pub here : CodeSide
  pub between : IssuedTickets
  pub committed : ℕ

abbrev pub act_reach : CodeSide → IssuedTickets → ℕ → ActReach
act_reach here between committed =
    record { here = here; between = between; committed = committed }

-- what happens on a side comes to this, whatever the other is
abbrev pub outcome_of_act : Pair → SideName → ActReach → BothAct → SideState Digests
    → BothOutcome Digests ℕ
outcome_of_act pair which old act other =
    outcome_here digest_mover pair (instance_on pair which)
    (both_with old.here old.between other old.committed) act

-- no count is greater than that of the requests committed, on either side
pub record AreWithin (reach : ActReach) : Type 0 where
  pub side : reach.here.seat.committed ≤ reach.committed
  pub away : reach.between.away ≤ reach.committed

-- A side with what passes between both, and with how many requests were committed, has come to this
-- outcome, and answers so. No more came than one event may bring.
pub record ActDone (pair : Pair) (which : SideName) (old new : ActReach)
    (o : SideState Digests → BothOutcome Digests ℕ) (said : MoveReply) : Type 0 where
  pub fits : FitsSide pair which new.here
  pub between : FitsIssuedTickets new.between
  pub within : AreWithin new
  pub both : (other : SideState Digests)
      → both_with new.here new.between other new.committed ≡ (o other).both
  pub says : (other : SideState Digests) → said ≡ move_reply_of (o other).reply
  pub sayable : IsSayable said
  pub rises : old.committed ≤ new.committed
  pub few : new.committed ≤ old.committed + most_members
  pub issued : length new.here.seat.issued.items ≤ length old.here.seat.issued.items + 1
  pub tickets : length new.between.tickets.items ≤ length old.between.tickets.items + 1

-- Memory was wanting for what happened on the side, and nothing beside it has changed.
pub record ActLacks (pair : Pair) (which : SideName) (act : BothAct) (old new : ActReach) : Type 0
  where
    pub fits : FitsSide pair which new.here
    pub between : FitsIssuedTickets new.between
    pub within : AreWithin new
    pub side : ActWants (instance_on pair which) act (side_in old.here) (side_in new.here)
    pub away : new.between.away ≡ old.between.away
    pub tickets : new.between.tickets.items ≡ old.between.tickets.items
    pub same : new.committed ≡ old.committed

-- something happened on a side
abbrev pub ActGoes : Pair → SideName → BothAct → ActReach → ActReach → Result MoveReply Memory
    → Type 0
ActGoes pair which act old new result =
    FitsSide pair which old.here → FitsIssuedTickets old.between → AreWithin old
    → old.committed < 2 ^ 63
    → MatchResult result (ActDone pair which old new (outcome_of_act pair which old act))
    (λ _. ActLacks pair which act old new)

-- BothSides sides in code, as contracts see them.

-- the header, and what stands on both sides by digests
pub record TransferSides : Type 0 where
  pub header : Header
  pub both : BothSides Digests ℕ

abbrev pub first_transfer_sides : Header → TransferSides
first_transfer_sides header =
    record { header = header; both = first_both_by_digests (pair_of header) }

-- what an event comes to
abbrev pub outcome_in : TransferSides → BothEvent → BothOutcome Digests ℕ
outcome_in held event = both_outcome digest_mover (pair_of held.header) held.both event

-- so few requests, snapshots and tickets that one event more can be counted in 64 bits, and
-- numbered in 32
pub record HasRoom (held : TransferSides) : Type 0 where
  pub committed : held.both.committed < 2 ^ 63
  pub first : length held.both.first.issued < 2 ^ 32 - 1
  pub second : length held.both.second.issued < 2 ^ 32 - 1
  pub tickets : length held.both.tickets < 2 ^ 32 - 1

-- no more came than one event may bring: 64 requests, a snapshot on either side, and a ticket
pub record GrowsByOne (old new : TransferSides) : Type 0 where
  pub header : new.header ≡ old.header
  pub committed : new.both.committed ≤ old.both.committed + most_members
  pub first : length new.both.first.issued ≤ length old.both.first.issued + 1
  pub second : length new.both.second.issued ≤ length old.both.second.issued + 1
  pub tickets : length new.both.tickets ≤ length old.both.tickets + 1

-- memory was wanting for an event
pub record TransferSidesLackMemory (event : BothEvent) (old new : TransferSides) : Type 0 where
  pub header : new.header ≡ old.header
  pub both : BothEventLacksMemory (pair_of old.header) event old.both new.both

-- both sides in code, with what passes between them, and how many requests were committed
abbrev pub transfer_sides_in : Header → CodeSide → CodeSide → IssuedTickets → ℕ → TransferSides
transfer_sides_in header first second between committed =
    record { header = header; both = both_with first between (side_in second) committed }

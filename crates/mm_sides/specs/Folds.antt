-- A schedule of both sides: each event's reply, and what stands after it.
use Rattle.std.specs.Prelude.{ℕ, ◌+◌, ◌-◌, Bool, true, false, List, [], ◌∷◌, ◌++◌, length, Option, None, Some, Result, Ok, Err}
use Rattle.std.specs.Prelude.{fold, if◌then◌else◌}
use Rattle.mm_sides.specs.Below.{sealed_snapshot_of, StepFault, Meddle, Stop, History, Move, Instance, Digests, DeviceStep, Reads, Refusal}
use Rattle.mm_sides.specs.Below.{End, Done, Fails, StepFate, walk, sealed_ticket, Event, Reply, Way, Outcome, way_of, moves_after_stop}
use Rattle.mm_sides.specs.Below.{course_of, event_outcome, vain_event_outcome, offered_bytes}
use Rattle.mm_model.specs.declared.refusal.Refusal.TheVariants as refusal
use Rattle.mm_sides.specs.BothSides.{Role, Blank, Live, Waiting, Retired, Effect, Invites, Leaves, Enters, MoveNotes, notes_with_effect}
use Rattle.mm_sides.specs.BothSides.{SideName, First, Second, Pair, instance_on, SideState, BothSides, sides_swapped, sides_seen_from}
use Rattle.mm_sides.specs.BothSides.{Mover, list_mover, digest_mover, first_both_by_lists, first_both_by_digests, MoveCommand, Invite}
use Rattle.mm_sides.specs.BothSides.{Retire, Accept, DenialCause, FoundMove, invitation_on, retirement_on, acceptance_on, ticket_in}

-- What happens on a side: an event of a schedule; or a command that moves the module, while others
-- extend the register just before certain steps, and which may be stopped at a step.
pub data BothAct : Type 0 where
  Plain : Event → BothAct
  Moves : (meddles : List Meddle) → (stop : Stop) → MoveCommand → BothAct

-- an event: a side, and what happens there
pub record BothEvent : Type 0 where
  pub which : SideName
  pub act : BothAct

-- The reply to an event: one of a schedule. To a command: invited, left by the ticket of this
-- number, or entered at this position; refused; a number that isn't issued of the side's snapshots
-- or of the tickets; or broken off, with the move made or not.
pub data BothReply : Type 0 where
  Said : Reply → BothReply
  Invited : BothReply
  Left : ℕ → BothReply
  Entered : ℕ → BothReply
  Denied : DenialCause → BothReply
  NoSnapshot : BothReply
  NoTicket : BothReply
  Broken : Way → (moved : Bool) → BothReply

-- what stands after an event, its reply, and the effect of a move, where it had one
pub record BothOutcome (S A : Type 0) : Type 0 where
  pub both : BothSides S A
  pub reply : BothReply
  pub effect : Option Effect

-- as what a call is refused where the module isn't
abbrev pub refusal_for_role : Role → Refusal
refusal_for_role Blank = refusal.Blank
refusal_for_role role = refusal.Cell

-- An event of a schedule on a side, by its role: where the module is, it comes to what it comes to
-- on one platform; elsewhere the cell is read in vain.
abbrev pub outcome_by_role : {S A : Type 0} → Mover S A → Instance → Role → SideState S → Event
    → Outcome S
outcome_by_role mover i Live side event = event_outcome i (mover.level i) side.at side.issued event
outcome_by_role mover i role side event =
    vain_event_outcome (mover.level i) side.at side.issued (refusal_for_role role) event

-- how many requests it commits: none where the module isn't
abbrev pub commits_between : Role → (before after : ℕ) → ℕ
commits_between Live before after = after - before
commits_between role before after = 0

-- What follows is said of the first side; an event on the second is one on the first of the turned
-- sides.

-- an event of a schedule
abbrev pub plain_outcome : {S A : Type 0} → Mover S A → Instance → BothSides S A → Event
    → BothOutcome S A
plain_outcome mover i both event =
    let side = both.first in
    let o = outcome_by_role mover i side.role side event in record {
      both = record both {
        first = record side { at = o.state; issued = o.issued };
        committed =
            both.committed + commits_between side.role ((mover.level i).count side.at)
            ((mover.level i).count o.state);
      };
      reply = Said o.reply;
      effect = None;
    }

-- the steps of a move: the cell is read, and written where its side's role changes. None of them
-- makes a move of the module's register.
abbrev pub move_steps : Result FoundMove DenialCause → List DeviceStep
move_steps (Ok found) = if found.again then Reads ∷ [] else Reads ∷ Reads ∷ []
move_steps (Err cause) = Reads ∷ []

-- the second step had its effect: the first was done, and the second was done or failed with its
-- effect made
abbrev pub is_written : End → Bool
is_written Done = true
is_written (Fails fault made) = made

abbrev pub is_moved : End → End → Bool
is_moved Done second = is_written second
is_moved (Fails fault made) second = false

-- the effect that a move has: what it found, unless it was made before or its writing step had no
-- effect
abbrev pub effect_if : Bool → Effect → Option Effect
effect_if true effect = Some effect
effect_if false effect = None

abbrev pub effect_of : (ℕ → StepFate) → Result FoundMove DenialCause → Option Effect
effect_of fates (Ok found) =
    if found.again then None else effect_if (is_moved (fates 1).ends (fates 2).ends) found.effect
effect_of fates (Err cause) = None

-- a move that was broken off may be followed by a loss of power
abbrev pub stopped_moves : Stop → Option StepFault → List Move
stopped_moves stop None = []
stopped_moves stop (Some fault) = moves_after_stop stop

-- where a side stands at the end of a move, its effect apart: others have extended the register
abbrev pub state_after_steps : {S A : Type 0} → Mover S A → Instance → S → List Meddle → Stop
    → List DeviceStep
    → S
state_after_steps mover i at meddles stop steps =
    let walked = walk (course_of stop meddles).fates 1 steps in
    fold (mover.level i).made (fold (mover.level i).made at walked.moves)
    (stopped_moves stop walked.broken)

-- what an effect makes of both sides
abbrev pub sides_after_effect : {S A : Type 0} → Mover S A → BothSides S A → Effect → BothSides S A
sides_after_effect mover both (Invites nonce) =
    record both { first = record both.first { role = Waiting nonce } }
sides_after_effect mover both (Leaves ticket) =
    record both {
      first = record both.first { role = Retired ticket.nonce };
      away = mover.leaves
          both.first.at;
    }
sides_after_effect mover both (Enters ticket) =
    record both {
      first = record both.first
          { role = Live; at = mover.enters both.first.at both.away ticket.content };
    }

abbrev pub sides_after_effect_if : {S A : Type 0} → Mover S A → BothSides S A → Option Effect
    → BothSides S A
sides_after_effect_if mover both None = both
sides_after_effect_if mover both (Some effect) = sides_after_effect mover both effect

-- what stands after a move is told, and its reply: a retirement hands out its ticket, and an
-- acceptance a snapshot
abbrev pub sides_after_issue : {S A : Type 0} → Mover S A → Pair → Instance → BothSides S A → Effect
    → BothSides S A
sides_after_issue mover pair i both (Invites nonce) = both
sides_after_issue mover pair i both (Leaves ticket) =
    record both { tickets = both.tickets ++ sealed_ticket pair.link ticket ∷ [] }
sides_after_issue mover pair i both (Enters ticket) =
    let answer = sealed_snapshot_of i.key (mover.says i both.first.at ticket.content) in
    record both { first = record both.first { issued = both.first.issued ++ answer ∷ [] } }

abbrev pub effect_reply : {S A : Type 0} → Mover S A → Instance → BothSides S A → Effect → BothReply
effect_reply mover i both (Invites nonce) = Invited
effect_reply mover i both (Leaves ticket) = Left (length both.tickets)
effect_reply mover i both (Enters ticket) =
    Entered (mover.says i both.first.at ticket.content).position

abbrev pub is_some : {A : Type 0} → Option A → Bool
is_some None = false
is_some (Some x) = true

-- how a move ends: broken off, with its effect or without; or refused; or told
abbrev pub move_end_outcome : {S A : Type 0} → Mover S A → Pair → Instance → BothSides S A → Stop
    → Option StepFault → Result FoundMove DenialCause
    → Option Effect → BothOutcome S A
move_end_outcome mover pair i both stop (Some fault) found effect =
    record { both = both; reply = Broken (way_of stop) (is_some effect); effect = effect }
move_end_outcome mover pair i both stop None (Err cause) effect =
    record { both = both; reply = Denied cause; effect = effect }
move_end_outcome mover pair i both stop None (Ok found) effect = record {
  both = sides_after_issue mover pair i both found.effect;
  reply = effect_reply mover i both found.effect;
  effect = effect;
}

-- a move, by what it finds
abbrev pub outcome_of_found_move : {S A : Type 0} → Mover S A → Pair → Instance → BothSides S A
    → List Meddle → Stop
    → Result FoundMove DenialCause
    → BothOutcome S A
outcome_of_found_move mover pair i both meddles stop found =
    let fates = (course_of stop meddles).fates in
    let effect = effect_of fates found in
    let here = record both {
      first = record both.first
          { at = state_after_steps mover i both.first.at meddles stop (move_steps found) };
    } in
    move_end_outcome mover pair i (sides_after_effect_if mover here effect) stop
    (walk fates 1 (move_steps found)).broken found effect

-- what a command finds, by the bytes that it offers; none where their number isn't issued
abbrev pub found_retirement : {S A : Type 0} → Mover S A → Instance → SideState S → List ℕ
    → Option (List ℕ)
    → Option (Result FoundMove DenialCause)
found_retirement mover i side nonce None = None
found_retirement mover i side nonce (Some bytes) =
    Some (retirement_on mover i side.role side.at nonce bytes)

abbrev pub found_acceptance : {S A : Type 0} → Mover S A → Pair → Instance → SideState S
    → Option (List ℕ)
    → Option (Result FoundMove DenialCause)
found_acceptance mover pair i side None = None
found_acceptance mover pair i side (Some bytes) =
    Some (acceptance_on (mover.level i) side.role side.at (ticket_in pair bytes))

abbrev pub found_command : {S A : Type 0} → Mover S A → Pair → Instance → BothSides S A
    → MoveCommand
    → Option (Result FoundMove DenialCause)
found_command mover pair i both (Invite nonce) = Some (invitation_on both.first.role nonce)
found_command mover pair i both (Retire nonce offer) =
    found_retirement mover i both.first nonce (offered_bytes both.first.issued offer)
found_command mover pair i both (Accept offer) =
    found_acceptance mover pair i both.first (offered_bytes both.tickets offer)

abbrev pub unissued_reply : MoveCommand → BothReply
unissued_reply (Accept offer) = NoTicket
unissued_reply command = NoSnapshot

-- a command: where its number isn't issued nothing is called
abbrev pub outcome_if_found : {S A : Type 0} → Mover S A → Pair → Instance → BothSides S A
    → List Meddle
    → Stop
    → MoveCommand
    → Option (Result FoundMove DenialCause) → BothOutcome S A
outcome_if_found mover pair i both meddles stop command None =
    record { both = both; reply = unissued_reply command; effect = None }
outcome_if_found mover pair i both meddles stop command (Some found) =
    outcome_of_found_move mover pair i both meddles stop found

abbrev pub move_outcome : {S A : Type 0} → Mover S A → Pair → Instance → BothSides S A → List Meddle
    → Stop → MoveCommand → BothOutcome S A
move_outcome mover pair i both meddles stop command =
    outcome_if_found mover pair i both meddles stop command
    (found_command mover pair i both command)

-- an event on the first side, by its instance
abbrev pub outcome_here : {S A : Type 0} → Mover S A → Pair → Instance → BothSides S A → BothAct
    → BothOutcome S A
outcome_here mover pair i both (Plain event) = plain_outcome mover i both event
outcome_here mover pair i both (Moves meddles stop command) =
    move_outcome mover pair i both meddles stop command

abbrev pub outcome_swapped : {S A : Type 0} → SideName → BothOutcome S A → BothOutcome S A
outcome_swapped First o = o
outcome_swapped Second o = record o { both = sides_swapped o.both }

-- one event
abbrev pub both_outcome : {S A : Type 0} → Mover S A → Pair → BothSides S A → BothEvent
    → BothOutcome S A
both_outcome mover pair both event =
    outcome_swapped event.which
    (outcome_here mover pair (instance_on pair event.which)
    (sides_seen_from event.which both) event.act)

-- what stands after some events, and the replies
pub record BothRunOutcome (S A : Type 0) : Type 0 where
  pub both : BothSides S A
  pub replies : List BothReply

abbrev pub both_outcome_of_events : {S A : Type 0} → Mover S A → Pair → BothSides S A
    → List BothEvent
    → BothRunOutcome S A
both_outcome_of_events mover pair both [] = record { both = both; replies = [] }
both_outcome_of_events mover pair both (event ∷ events) =
    let o = both_outcome mover pair both event in
    let rest = both_outcome_of_events mover pair o.both events
    in record { both = rest.both; replies = o.reply ∷ rest.replies }

-- a schedule from the start: by lists, and by digests
abbrev pub both_outcome_by_lists : Pair → List BothEvent → BothRunOutcome History History
both_outcome_by_lists pair events = both_outcome_of_events list_mover pair
    (first_both_by_lists pair) events

abbrev pub both_outcome_by_digests : Pair → List BothEvent → BothRunOutcome Digests ℕ
both_outcome_by_digests pair events = both_outcome_of_events digest_mover pair
    (first_both_by_digests pair) events

-- the notes of what an event has moved
abbrev pub notes_with_effect_if : Option Effect → MoveNotes → MoveNotes
notes_with_effect_if None notes = notes
notes_with_effect_if (Some effect) notes = notes_with_effect effect notes

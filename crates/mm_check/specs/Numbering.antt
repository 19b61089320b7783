-- The premises of the headline for a run of events, as they are told: by the numbers of messages
-- and of events. With it: what is told of the premises, as evidence that one holds in hand, by the
-- numbers of messages and of events; what the code that decides holds behind some first events.
use Rattle.std.specs.List.{flat_map, fold, Contains}
use Rattle.std.specs.Prelude.{◌≡◌, ℕ, ◌+◌, List, [], ◌∷◌, ◌++◌, length, Option, None, Some, ◌≢◌, ◌⊎◌, ◌≤◌}
use Rattle.mm_numbering.specs.Listing.{is_secured, number_of_first, messages_with, message_digests, shared_pair_in, zero_number_in}
use Rattle.mm_numbering.specs.Listing.{ListsMessages}
use Rattle.mm_numbering.specs.declared.messages.Numbers.{Numbers}
use Rattle.mm_expect.specs.ExpectedState.{ExpectedState}
use Rattle.mm_expect.specs.declared.expecting.ExpectedOutcome.{ExpectedOutcome}
use Rattle.mm_check.specs.Below.{start_message, Opt, own_values, History, first_history, total_of, Instance, IsClear, list_level, Event}
use Rattle.mm_check.specs.Below.{lines_of_reply, end_line, Reply, RunOutcome, event_outcome, first_snapshots, outcome_by_lists, IsClearRun}
use Rattle.mm_check.specs.Below.{IsGenuineEvent, IsGenuineRun, asked_batches, run_messages, numbered_event_messages, sha256, zero_bytes}
use Rattle.mm_check.specs.Below.{Batch, guard, Meddle, Stop, Offer, Ask, event_foreign_values, offered_bytes, HasEvidence, IsForged, Header}
use Rattle.mm_check.specs.Below.{world_of, IsAfter}
use Rattle.mm_check.specs.declared.deciding.Decider.{Decider}
use Rattle.mm_check.specs.declared.deciding.Decision.{Decision}
use Rattle.mm_check.specs.declared.verdicts.Premise.{Premise}
use Rattle.mm_check.specs.declared.verdicts.Premise.TheVariants.{Held, Shared, Zero, Secured, Forged}

-- the messages of events from a history on in the order of their numbers, those that come again too
abbrev pub numbered_messages_from : Instance → History → List (List ℕ) → List Event → List (List ℕ)
numbered_messages_from i y issued [] = []
numbered_messages_from i y issued (event ∷ events) =
    let o = event_outcome i (list_level i) y issued event in
    numbered_event_messages i y issued event ++ numbered_messages_from i o.state o.issued events

-- the messages of a run, each once: a message has the number of its place, from 1
abbrev pub numbered_messages : Instance → List Event → List (List ℕ)
numbered_messages i events =
    fold messages_with (start_message i.variant i.meaning.id ∷ [])
    (numbered_messages_from i first_history (first_snapshots i) events)

-- the number, from 1, of the first event at which they do so by the guard of a batch that the run
-- asks
abbrev pub secured_event_in : Instance → List Event → Option ℕ
secured_event_in i events =
    number_of_first (is_secured (own_values i.barrier (asked_batches events))) events

-- The event of this number is the first whose offer is right and names no position.
pub record IsForgedAt (i : Instance) (events : List Event) (number : ℕ) : Type 0 where
  pub before : List Event
  pub event : Event
  pub after : List Event
  pub split : events ≡ before ++ event ∷ after
  pub place : number ≡ length before + 1
  pub genuine : IsGenuineRun i before
  pub forged : IsGenuineEvent i (outcome_by_lists i before).state
      (outcome_by_lists i before).issued event → ⊥

-- What is told of the premises. They hold; or two messages share a digest, the lowest numbers; or
-- else a digest is zero, the first one; or else others extend the register by the guard of a batch,
-- at the first such event; or else a right offer names no position, at the first such event.
abbrev pub DecidesPremise : Instance → List Event → Premise → Type 0
DecidesPremise i events Held = IsClearRun i events × IsGenuineRun i events
DecidesPremise i events (Shared first second) =
    shared_pair_in (message_digests (numbered_messages i events)) ≡ Some (first, second)
DecidesPremise i events (Zero message) =
    (shared_pair_in (message_digests (numbered_messages i events)) ≡ None)
    × (zero_number_in (message_digests (numbered_messages i events)) ≡ Some message)
DecidesPremise i events (Secured event) =
    IsClear (run_messages i events) × (i.variant ≡ Opt) × (secured_event_in i events ≡ Some event)
DecidesPremise i events (Forged event) = IsClearRun i events × IsForgedAt i events event

-- the lines of replies, each with its LF
abbrev pub lines_of_all : List Reply → List (List ℕ)
lines_of_all replies = flat_map lines_of_reply replies

-- the lines of a run that was followed, with its last line, by how many requests were committed
abbrev pub lines_with : {S : Type 0} → RunOutcome S → ℕ → List (List ℕ)
lines_with f committed = lines_of_all f.replies ++ end_line committed (length f.issued) ∷ []

-- the lines that are expected
abbrev pub expected_lines : Instance → List Event → List (List ℕ)
expected_lines i events =
    lines_with (outcome_by_lists i events) (total_of (outcome_by_lists i events).state.batches)

-- one premise alone is told of a run
abbrev pub PremiseIsFixed : Type 0
PremiseIsFixed =
    (i : Instance) (events : List Event) (p q : Premise) → DecidesPremise i events p
    → DecidesPremise i events q
    → p ≡ q

-- What is told of the premises, as evidence that one holds in hand, by the numbers of messages and
-- of events.

-- The messages of these two numbers, from 1, differ and have one digest.
pub record IsSharedAt (messages : List (List ℕ)) (first second : ℕ) : Type 0 where
  pub before : List (List ℕ)
  pub one : List ℕ
  pub between : List (List ℕ)
  pub other : List ℕ
  pub after : List (List ℕ)
  pub split : messages ≡ before ++ one ∷ (between ++ other ∷ after)
  pub first_is : first ≡ length before + 1
  pub second_is : second ≡ first + length between + 1
  pub differs : one ≢ other
  pub one_digest : sha256 one ≡ sha256 other

-- The digest of the message of this number is zero.
pub record IsZeroAt (messages : List (List ℕ)) (number : ℕ) : Type 0 where
  pub before : List (List ℕ)
  pub message : List ℕ
  pub after : List (List ℕ)
  pub split : messages ≡ before ++ message ∷ after
  pub place : number ≡ length before + 1
  pub is_zero : sha256 message ≡ zero_bytes

-- At the event of this number others bring the guard of a batch that the run asks.
pub record IsSecuredAt (i : Instance) (events : List Event) (number : ℕ) : Type 0 where
  pub before : List Event
  pub event : Event
  pub after : List Event
  pub value : List ℕ
  pub batch : Batch
  pub split : events ≡ before ++ event ∷ after
  pub place : number ≡ length before + 1
  pub in_opt : i.variant ≡ Opt
  pub brought : Contains (event_foreign_values event) value
  pub asked : Contains (asked_batches events) batch
  pub is_guard : value ≡ guard i.barrier batch

-- What the event of this number offers is forged, by the history before it.
pub record IsForgeryAt (i : Instance) (events : List Event) (number : ℕ) : Type 0 where
  pub before : List Event
  pub meddles : List Meddle
  pub stop : Stop
  pub offer : Offer
  pub batch : Batch
  pub after : List Event
  pub split : events ≡ before ++ Ask meddles stop offer batch ∷ after
  pub place : number ≡ length before + 1
  pub forged : IsForged i (outcome_by_lists i before).state
      (offered_bytes (outcome_by_lists i before).issued offer)

-- What is told is evidence, by its numbers; or that the premises hold.
abbrev pub IsEvidence : Instance → List Event → Premise → Type 0
IsEvidence i events Held = IsClearRun i events × IsGenuineRun i events
IsEvidence i events (Shared first second) = IsSharedAt (numbered_messages i events) first second
IsEvidence i events (Zero message) = IsZeroAt (numbered_messages i events) message
IsEvidence i events (Secured event) = IsSecuredAt i events event
IsEvidence i events (Forged event) = IsForgeryAt i events event

-- What a run is told: one premise alone, which is that evidence.
pub record IsToldByEvidence (i : Instance) (events : List Event) : Type 0 where
  pub told : Premise
  pub decides : DecidesPremise i events told
  pub alone : (premise : Premise) → DecidesPremise i events premise → premise ≡ told
  pub evidence : IsEvidence i events told

-- Evidence by its numbers is evidence, but for the premises that hold.
abbrev pub EvidenceIsHeld : Instance → List Event → Type 0
EvidenceIsHeld i events =
    (premise : Premise) → IsEvidence i events premise → (premise ≡ Held) ⊎ HasEvidence i events

-- What the code that decides holds behind some first events.

-- the first event that isn't genuine, if there is one
abbrev pub IsFirstForged : Instance → List Event → Option ℕ → Type 0
IsFirstForged i events None = IsGenuineRun i events
IsFirstForged i events (Some number) = IsForgedAt i events number

-- The first forged event, once the one with this number is looked at, behind whatever events lead
-- to
-- this and have that first forged one.
abbrev pub LooksAtEvent : ExpectedState → Option ℕ → Event → ℕ → Option ℕ → Type 0
LooksAtEvent it first event number forged =
    (header : Header) (events : List Event) → IsAfter header events it
    → IsFirstForged (world_of header) events first → number ≡ length events + 1
    → IsFirstForged (world_of header) (events ++ event ∷ []) forged

-- One over this expectation, before any message is listed.
pub record IsNewDecider (expecting : ExpectedState) (it : Decider) : Type 0 where
  pub over : it.expecting ≡ expecting
  pub lists : ListsMessages [] it.numbers
  pub lines : it.lines ≡ []
  pub forged : it.forged ≡ None

-- It stands behind these events.
pub record StandsBehind (header : Header) (events : List Event) (it : Decider) : Type 0 where
  pub after : IsAfter header events it.expecting
  pub few : length it.expecting.issued ≤ length events + 1
  pub lists : ListsMessages (numbered_messages (world_of header) events) it.numbers
  pub lines : it.lines ≡ lines_of_all (outcome_by_lists (world_of header) events).replies
  pub forged : IsFirstForged (world_of header) events it.forged

-- One event more, of which this was heard: its messages are listed, and the lines of its reply.
pub record TakesInEvent (heard : ExpectedOutcome) (numbers numbers' : Numbers)
    (lines lines' : List (List ℕ)) : Type 0 where
  pub lists : (seen : List (List ℕ)) → ListsMessages seen numbers
      → ListsMessages (fold messages_with seen heard.messages.items) numbers'
  pub told : lines' ≡ lines ++ lines_of_reply heard.reply

-- what is told of the premises: the first that applies
abbrev pub premise_by : Option (ℕ × ℕ) → Option ℕ → Option ℕ → Option ℕ → Premise
premise_by (Some pair) zero secured forged = Shared pair.0 pair.1
premise_by None (Some message) secured forged = Zero message
premise_by None None (Some event) forged = Secured event
premise_by None None None (Some event) = Forged event
premise_by None None None None = Held

-- what these events come to
pub record DecidesRun (header : Header) (events : List Event) (it : Decision) : Type 0 where
  pub premise : DecidesPremise (world_of header) events it.premise
  pub lines : it.lines ≡ expected_lines (world_of header) events

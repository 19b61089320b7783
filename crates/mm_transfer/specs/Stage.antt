-- A transfer line by line. With it: the grammar of the lines of two sides, as a reading of the
-- bytes; what is told of a whole transfer; a transfer, whole; events of two sides whose bytes still
-- lie in their line.
use Rattle.std.specs.List.{sum_by}
use Rattle.std.specs.Option.{option_map_or, option_map}
use Rattle.std.specs.Prelude.{ℕ, List, Option, Some, None, if◌then◌else◌, codes, ◌≡◌, ◌≤◌, ◌*◌, ◌+◌, length, Result, [], ◌++◌, ◌⊎◌, ◌∷◌}
use Rattle.std.specs.Str.{bytes_eq}
use Rattle.mm_sides.specs.Premises.{HasPairEvidence}
use Rattle.mm_play.specs.Headline.{HeadingStep, Begins, EventPlayer, stream_standing}
use Rattle.mm_play.specs.PlaysInput.{PlaysEvents}
use Rattle.mm_play.specs.Stage.{heading_step_by, EventStage, EventSteps, HeadStage, LineStage, AtHeading, answer_to, line_answer}
use Rattle.mm_play.specs.Stage.{closing_lines, InEvents}
use Rattle.mm_transfer.specs.Below.{Meddle, Stop, One, value_at, Ask, Checkpoint, Power, Extend, meddles_at, stop_at, offer_at}
use Rattle.mm_transfer.specs.Below.{header_of_words, ◌>>=◌, rest_after_prefix, bytes_at, number_at, word_at, Offer, Number, Last, Flip, Raw}
use Rattle.mm_transfer.specs.Below.{Header, SideName, First, Second, BothAct, Plain, Moves, BothEvent, MoveCommand, Invite, Retire, Accept}
use Rattle.mm_transfer.specs.Below.{most_events, most_members, Digests, BothSides, digest_mover, first_both_by_digests, BothOutcome}
use Rattle.mm_transfer.specs.Below.{both_outcome, LineRefusal, meaning_of, IsEventRun, ModulePromises, first_both_by_lists, BothRunOutcome}
use Rattle.mm_transfer.specs.Below.{both_outcome_by_lists, both_outcome_by_digests, IsOneLiveFrom, plain_events, plain_replies}
use Rattle.mm_transfer.specs.Below.{AreNotBothLive, History, no_notes, ReplayFault, offer_of}
use Rattle.mm_transfer.specs.declared.opening.FirstLine.{FirstLine}
use Rattle.mm_transfer.specs.declared.report.TransferReport.{TransferReport}
use Rattle.mm_transfer.specs.declared.text.ActText.{ActText}
use Rattle.mm_transfer.specs.declared.text.ActText.TheVariants as text
use Rattle.mm_transfer.specs.declared.text.CommandText.{CommandText}
use Rattle.mm_transfer.specs.declared.text.CommandText.TheVariants as command
use Rattle.mm_transfer.specs.declared.text.SideEventText.{SideEventText}
use Rattle.mm_transfer.specs.Events.{which_of}
use Rattle.mm_transfer.specs.MovePlan.{answer_text, end_line, move_reply_of, BothEventLacksMemory, answers_text}
use Rattle.mm_transfer.specs.SideCommands.{pair_of}

-- The grammar of the lines of two sides, as a reading of the bytes.

-- the header that the first line names, as `memoir transfer 1 basic counter`
unfoldable pub first_header_at : List ℕ → Option Header
first_header_at line = rest_after_prefix (codes "memoir transfer 1 ") line >>= header_of_words

-- a side, 0 or 1
unfoldable pub side_at : List ℕ → Option SideName
side_at word =
    if bytes_eq word (codes "0") then Some First
    else if bytes_eq word (codes "1") then Some Second
    else None

-- bytes behind `raw`, up to the end of the line
unfoldable pub raw_offer_at : List ℕ → Option Offer
raw_offer_at word = bytes_at word >>= λ bytes. Some (Raw bytes)

-- a number, `last`, or bytes behind `raw`, up to the end of the line
unfoldable pub named_offer_at : List ℕ → Option Offer
named_offer_at line =
    if bytes_eq line (codes "last") then Some Last
    else option_map_or raw_offer_at (rest_after_prefix (codes "raw ") line)
    (number_at line >>= λ number. Some (Number number))

-- two numbers behind `flip`, up to the end of the line
unfoldable pub flipped_offer_at : List ℕ → Option Offer
flipped_offer_at line =
    word_at line >>= λ first.
    number_at first.0 >>= λ number.
    number_at first.1 >>= λ byte.
    Some (Flip number byte)

-- an offer up to the end of the line
unfoldable pub whole_offer_at : List ℕ → Option Offer
whole_offer_at line = option_map_or flipped_offer_at (rest_after_prefix (codes "flip ") line)
    (named_offer_at line)

-- a nonce and an offer behind `retire`
unfoldable pub retirement_at : List ℕ → Option MoveCommand
retirement_at line =
    word_at line >>= λ first.
    value_at first.0 >>= λ nonce.
    whole_offer_at first.1 >>= λ offer.
    Some (Retire nonce offer)

-- a command, behind the meddles and the stop
unfoldable pub command_at : List ℕ → Option MoveCommand
command_at line =
    option_map_or (λ word. value_at word >>= λ nonce. Some (Invite nonce))
    (rest_after_prefix (codes "invite ") line)
    (option_map_or retirement_at (rest_after_prefix (codes "retire ") line)
    (option_map_or (λ word. named_offer_at word >>= λ offer. Some (Accept offer))
    (rest_after_prefix (codes "accept ") line) None))

-- what one request is asked of, behind the meddles and the stop
unfoldable pub ask_at : List Meddle → Stop → List ℕ → Option BothAct
ask_at meddles stop line =
    offer_at line >>= λ offer. Some (Plain (Ask meddles stop offer.0 (One offer.1)))

-- a call or a command, behind its meddles and its stop
unfoldable pub call_at : List Meddle → Stop → List ℕ → Option BothAct
call_at meddles stop line =
    if bytes_eq line (codes "checkpoint") then Some (Plain (Checkpoint meddles stop))
    else option_map_or (ask_at meddles stop) (rest_after_prefix (codes "ask ") line)
    (command_at line >>= λ command. Some (Moves meddles stop command))

-- the same with what comes before it
unfoldable pub prefixed_act_at : List ℕ → Option BothAct
prefixed_act_at line =
    meddles_at 8 0 line >>= λ meddles. stop_at meddles.1 >>= λ stop. call_at meddles.0 stop.0 stop.1

-- what happens on a side
unfoldable pub act_at : List ℕ → Option BothAct
act_at line =
    if bytes_eq line (codes "power") then Some (Plain Power)
    else option_map_or (λ word. value_at word >>= λ value. Some (Plain (Extend value)))
    (rest_after_prefix (codes "extend ") line)
    (prefixed_act_at line)

-- the event of a line: a side, and what happens there
unfoldable pub event_at : List ℕ → Option BothEvent
event_at line =
    word_at line >>= λ word.
    side_at word.0 >>= λ which.
    act_at word.1 >>= λ act.
    Some (record { which = which; act = act })

-- A transfer line by line: the first line, and then the events.

-- what stands between two events, by digests: the header, both sides, and how many events were
-- followed
pub record TransferState : Type 0 where
  pub header : Header
  pub both : BothSides Digests ℕ
  pub events : ℕ

abbrev pub first_transfer : Header → TransferState
first_transfer header = record {
  header = header;
  both = first_both_by_digests (pair_of header);
  events = 0;
}

-- the bytes of the snapshots issued on both sides, and of the tickets
abbrev pub kept_size_of : {S A : Type 0} → BothSides S A → ℕ
kept_size_of both =
    sum_by length both.first.issued + sum_by length both.second.issued + sum_by length both.tickets

-- what an event comes to
abbrev pub transfer_outcome : TransferState → BothEvent → BothOutcome Digests ℕ
transfer_outcome r event = both_outcome digest_mover (pair_of r.header) r.both event

abbrev pub transfer_after : TransferState → BothEvent → TransferState
transfer_after r event = record r { both = (transfer_outcome r event).both; events = r.events + 1 }

-- Memory was wanting for an event, which isn't counted.
abbrev pub TransferLacksMemory : TransferState → BothEvent → TransferState → Type 0
TransferLacksMemory old event new =
    (new.header ≡ old.header) × BothEventLacksMemory (pair_of old.header) event old.both new.both
    × (new.events ≡ old.events)

-- the line that answers an event
abbrev pub transfer_text : TransferState → BothEvent → List ℕ
transfer_text r event = answer_text event.which (move_reply_of (transfer_outcome r event).reply)

-- the last line
abbrev pub both_end_line : {S A : Type 0} → BothSides S A → List ℕ
both_end_line both =
    end_line both.committed (length both.first.issued) (length both.second.issued)
    (length both.tickets)

-- what is done with events
abbrev pub transfer_steps : EventSteps BothEvent TransferState
transfer_steps = record { event_in = λ r. event_at; reply = transfer_text; after = transfer_after }

abbrev pub transfer_stage : EventStage TransferState
transfer_stage = record {
  answer = λ r line. answer_to transfer_steps r line;
  events = λ r. r.events;
  kept = λ r. kept_size_of r.both;
  last = λ r. both_end_line r.both;
}

-- the first line names the header
abbrev pub transfer_head : FirstLine → List ℕ → Option (HeadingStep FirstLine Header)
transfer_head at line = option_map (λ header. Begins header) (first_header_at line)

abbrev pub transfer_heads : HeadStage FirstLine TransferState
transfer_heads = record {
  behind = λ at line. heading_step_by first_transfer (transfer_head at line);
  left = λ at. 0;
}

-- the reply to a line, and the last line, which needs the first one before it
abbrev pub TransferLineStage : Type 0
TransferLineStage = LineStage FirstLine TransferState

abbrev pub first_transfer_stage : TransferLineStage
first_transfer_stage = AtHeading (record {})

abbrev pub transfer_answer : TransferLineStage → List ℕ
    → Result (List ℕ × TransferLineStage) LineRefusal
transfer_answer at line = line_answer transfer_heads transfer_stage at line

abbrev pub transfer_closing : TransferLineStage → Option (List ℕ)
transfer_closing at = closing_lines transfer_heads transfer_stage at

-- what the fields of sides among their events keep: no more was committed and issued, and no more
-- tickets were handed out, than so many events can
pub record KeepsSides (both : BothSides Digests ℕ) (events : ℕ) : Type 0 where
  pub few : events ≤ most_events
  pub committed : both.committed ≤ most_members * events
  pub first : length both.first.issued ≤ events + 1
  pub second : length both.second.issued ≤ events
  pub tickets : length both.tickets ≤ events

-- What is told of a whole transfer.

-- The first line names a header, and events follow. What is shown of them is what they come to on
-- both sides: the last line counts the requests, the snapshots and the tickets, and these are kept.
abbrev pub transfer_player : EventPlayer FirstLine Header BothEvent (BothRunOutcome Digests ℕ)
transfer_player = record {
  start = record {};
  head = λ at line. option_map (λ header. Begins header) (first_header_at line);
  event_in = λ header. event_at;
  text = λ events shown. answers_text events shown.replies;
  last = λ shown. end_line shown.both.committed (length shown.both.first.issued)
      (length shown.both.second.issued) (length shown.both.tickets);
  kept = λ shown. sum_by length shown.both.first.issued
      + sum_by length shown.both.second.issued + sum_by length shown.both.tickets;
}

-- The snapshots that both sides issued, and the tickets handed out, are the same.
pub record AreShownAs (both : BothSides Digests ℕ)
    (expected : BothSides History History) : Type 0 where
  pub first : both.first.issued ≡ expected.first.issued
  pub second : both.second.issued ≡ expected.second.issued
  pub tickets : both.tickets ≡ expected.tickets

-- What the events come to on both sides, by digests: the replies to all of them are those of both
-- sides by lists, as the verdict on the one history gives them; those to the calls of either side
-- are one run of the module on one list of requests; so many requests were committed, and the
-- snapshots issued and the tickets are those that the verdict issues. At most one side is live, and
-- it was so at each moment; where none was, the module entered only by the ticket that it left by
-- last. And what the module promises of a run holds.
pub record IsOneTransfer (header : Header) (events : List BothEvent)
    (it : BothRunOutcome Digests ℕ) : Type 0 where
  pub requests : List (List ℕ)
  pub runs : IsEventRun (meaning_of header.«module») [] (plain_events events)
      (plain_replies it.replies)
      requests
  pub judged : it.replies ≡ (both_outcome_by_lists (pair_of header) events).replies
  pub count : it.both.committed ≡ length requests
  pub shown : AreShownAs it.both (both_outcome_by_lists (pair_of header) events).both
  pub live : AreNotBothLive it.both.first.role it.both.second.role
  pub entered : IsOneLiveFrom (pair_of header) (first_both_by_lists (pair_of header)) no_notes
      events
  pub promised : ModulePromises header.«module» requests (plain_replies it.replies)

-- The headline. With no premise what is shown is by digests; and each first part of the events is
-- one transfer, or one holds evidence in hand: two different messages of it with one digest, one
-- with digest zero, a value of others that is the guard of a batch, an offer that is forged, a
-- nonce that was invited twice, or a right ticket that the module didn't leave by.
abbrev pub AreOneTransfer : Header → List BothEvent → (List BothEvent → BothRunOutcome Digests ℕ)
    → Type 0
AreOneTransfer header events shown = (front later : List BothEvent) → events ≡ front ++ later
    → (shown front ≡ both_outcome_by_digests (pair_of header) front)
    × (IsOneTransfer header front (shown front) ⊎ HasPairEvidence (pair_of header) front)

-- A transfer, whole.

-- how many requests were committed, snapshots issued on each side, and tickets
abbrev pub ReportsTransfer : TransferLineStage → TransferReport → Type 0
ReportsTransfer (AtHeading at) report =
    (report.committed ≡ 0) × (report.issued ≡ 0 ∷ 0 ∷ []) × (report.tickets ≡ 0)
ReportsTransfer (InEvents r) report =
    (report.committed ≡ r.stage.both.committed)
    × (report.issued ≡ length r.stage.both.first.issued ∷ length r.stage.both.second.issued ∷ [])
    × (report.tickets ≡ length r.stage.both.tickets)

-- What was taken of the input and written fits the answer line by line; and as a whole it is the
-- replies to the events, with the headline.
abbrev pub PlaysTransfer : (left left' received received' : Option (List ℕ))
    → Result TransferReport ReplayFault → Type 0
PlaysTransfer left left' received received' result =
    PlaysEvents transfer_player AreOneTransfer transfer_heads transfer_stage ReportsTransfer
    (stream_standing left received) (stream_standing left' received') result

-- Events of two sides whose bytes still lie in their line.

-- the command that stands in a line
abbrev pub command_in : CommandText → MoveCommand
command_in (command.Invite nonce) = Invite nonce.bytes
command_in (command.Retire nonce from) = Retire nonce.bytes (offer_of from)
command_in (command.Accept from) = Accept (offer_of from)

-- what happens on a side, by its line, with its meddles
abbrev pub act_in : List Meddle → ActText → BothAct
act_in meddles (text.Ask stop from request) =
    Plain (Ask meddles stop (offer_of from) (One request.now))
act_in meddles (text.Checkpoint stop) = Plain (Checkpoint meddles stop)
act_in meddles text.Power = Plain Power
act_in meddles (text.Extend value) = Plain (Extend value.bytes)
act_in meddles (text.Moves stop what) = Moves meddles stop (command_in what)

-- the event that stands in a line, with its meddles
abbrev pub event_in : List Meddle → SideEventText → BothEvent
event_in meddles event = record { which = which_of event.which; act = act_in meddles event.act }

-- The messages that a run of events hashes, as far as a proof looks at them, and what is asked of
-- the run. With it: a schedule followed by a level.
use Rattle.std.specs.Option.{option_map_or}
use Rattle.std.specs.Prelude.{ℕ, ◌+◌, ◌-◌, false, List, [], ◌∷◌, ◌++◌, length, fold, Option, None, Some, Err, if◌then◌else◌, ◌≡◌, IfSome}
use Rattle.std.specs.Prelude.{map, flat_map}
use Rattle.mm_model.specs.declared.refusal.Refusal.TheVariants as refusal
use Rattle.mm_schedule.specs.declared.reply.Cause.TheVariants as cause
use Rattle.mm_schedule.specs.declared.reply.Reply.TheVariants as reply
use Rattle.mm_schedule.specs.declared.reply.Way.TheVariants as way
use Rattle.mm_outcome.specs.Below.{zero_bytes, start_digest_of, sealed_snapshot_of, Plan, Meddle, Stop, Cut, Drop, Batch, One, normal_batch}
use Rattle.mm_outcome.specs.Below.{History, Move, Foreign, PowerMove, first_history, Instance, is_long, Digests, content_of_issue, Reads}
use Rattle.mm_outcome.specs.Below.{Refusal, CallEnding, Answers, Refuses, Breaks, CallOutcome, call_outcome, call_outcome_by}
use Rattle.mm_outcome.specs.Below.{CheckpointEnding, Closes, HasNone, NoSegment, LostPower, Stops, CheckpointOutcome, checkpoint_outcome}
use Rattle.mm_outcome.specs.Below.{Course, fate_by_plan, walk, Level, list_level, digest_level, Event, Ask, Checkpoint, Power, Extend}
use Rattle.mm_outcome.specs.Below.{Cause, Reply, Way, start_message, Variant, Opt, IsClear, AreNoGuards, IsGenuine, messages_of_moves}
use Rattle.mm_outcome.specs.Below.{right_messages, right_content}
use Rattle.mm_outcome.specs.EventOffers.{offered_bytes}

-- A schedule followed by a level: each event's reply, and what stands after it.

-- what stands after an event, with the snapshots issued so far; its reply; and the steps that it
-- called, and those of them that were to write the cell
pub record Outcome (S : Type 0) : Type 0 where
  pub state : S
  pub issued : List (List ℕ)
  pub reply : Reply
  pub steps : ℕ
  pub writes : ℕ

-- how a call is broken off
abbrev pub way_of : Stop → Way
way_of (Cut step) = way.Cut
way_of (Drop step) = way.Drop
way_of stop = way.Fault

-- power is lost where the call is cut, and comes back
abbrev pub moves_after_stop : Stop → List Move
moves_after_stop (Cut step) = PowerMove ∷ []
moves_after_stop stop = []

-- what a schedule plans for a call, and the course by it
abbrev pub plan_of : Stop → List Meddle → Plan
plan_of stop meddles = record { stop = stop; meddles = meddles; at = 0 }

abbrev pub course_of : Stop → List Meddle → Course
course_of stop meddles = record { fates = fate_by_plan (plan_of stop meddles); lacks = false }

-- the cause that a reply names. A planned call is refused for no other reason.
abbrev pub cause_of : Refusal → Cause
cause_of refusal.Lost = cause.Lost
cause_of refusal.Form = cause.Form
cause_of refusal.Kind = cause.Kind
cause_of refusal.State = cause.State
cause_of refusal.Tag = cause.Tag
cause_of refusal.Stale = cause.Stale
cause_of refusal.Full = cause.Full
cause_of refusal.Blank = cause.Blank
cause_of refusal.Cell = cause.Cell
cause_of why = cause.Long

-- the reply to a call: its answer; or, where it was broken off, the position after its batch, if
-- that was committed
abbrev pub reply_of : Way → CallEnding → Reply
reply_of how (Answers answer) =
    reply.Told answer.again (answer.position - length answer.outputs) answer.outputs
reply_of how (Refuses why) = reply.No (cause_of why)
reply_of how (Breaks fault kept) =
    option_map_or (λ position. reply.Kept how position) kept (reply.Nothing how)

-- an answer hands out a snapshot
abbrev pub snapshots_of : CallEnding → List (List ℕ)
snapshots_of (Answers answer) = answer.snapshot ∷ []
snapshots_of ending = []

-- what follows a call that is broken off
abbrev pub moves_after_call : Stop → CallEnding → List Move
moves_after_call stop (Breaks fault kept) = moves_after_stop stop
moves_after_call stop ending = []

-- what a call comes to in a schedule
abbrev pub outcome_by : {S : Type 0} → Level S → Stop → List (List ℕ) → CallOutcome S → Outcome S
outcome_by level stop issued o = record {
  state = fold level.made o.state (moves_after_call stop o.ending);
  issued = issued ++ snapshots_of o.ending;
  reply = reply_of (way_of stop) o.ending;
  steps = o.steps;
  writes = o.writes;
}

-- nothing was called
abbrev pub outcome_without_call : {S : Type 0} → S → List (List ℕ) → Reply → Outcome S
outcome_without_call s issued said = record {
  state = s;
  issued = issued;
  reply = said;
  steps = 0;
  writes = 0;
}

-- the number isn't issued, or the batch is too long: then nothing is called, and nothing meddles
abbrev pub ask_event_outcome : {S : Type 0} → Instance → Level S → S → List (List ℕ) → List Meddle
    → Stop
    → Option (List ℕ) → Batch → Outcome S
ask_event_outcome i level s issued meddles stop None b =
    outcome_without_call s issued (reply.No cause.Snapshot)
ask_event_outcome i level s issued meddles stop (Some bytes) b =
    if is_long b then outcome_without_call s issued (reply.No cause.Long)
    else outcome_by level stop issued (call_outcome i level s (course_of stop meddles) bytes
    (normal_batch b))

-- The cell is none that a call goes on with: the call reads it, makes no further step, and is
-- refused.
abbrev pub read_only_outcome : {S : Type 0} → Level S → S → List (List ℕ) → List Meddle → Stop
    → Refusal
    → Outcome S
read_only_outcome level s issued meddles stop why =
    outcome_by level stop issued
    (call_outcome_by level s s (One []) (Err why)
    (walk (course_of stop meddles).fates 1 (Reads ∷ [])))

-- the same behind the tests for a number that isn't issued and for a batch that is too long
abbrev pub vain_ask_outcome : {S : Type 0} → Level S → S → List (List ℕ) → List Meddle → Stop
    → Refusal
    → Option (List ℕ) → Batch → Outcome S
vain_ask_outcome level s issued meddles stop why None b =
    outcome_without_call s issued (reply.No cause.Snapshot)
vain_ask_outcome level s issued meddles stop why (Some bytes) b =
    if is_long b then outcome_without_call s issued (reply.No cause.Long)
    else read_only_outcome level s issued meddles stop why

-- the reply to a checkpoint: where it was broken off, whether its segment was closed
abbrev pub closing_reply : Way → CheckpointEnding → Reply
closing_reply how Closes = reply.Checkpointed
closing_reply how HasNone = reply.No cause.Kind
closing_reply how NoSegment = reply.No cause.Segment
closing_reply how LostPower = reply.No cause.Lost
closing_reply how (Stops fault closed) = if closed then reply.Closed how else reply.Nothing how

abbrev pub moves_after_checkpoint : Stop → CheckpointEnding → List Move
moves_after_checkpoint stop (Stops fault closed) = moves_after_stop stop
moves_after_checkpoint stop closing = []

-- what a checkpoint comes to in a schedule
abbrev pub checkpoint_event_outcome : {S : Type 0} → Level S → Stop → List (List ℕ)
    → CheckpointOutcome S
    → Outcome S
checkpoint_event_outcome level stop issued o = record {
  state = fold level.made o.state (moves_after_checkpoint stop o.ending);
  issued = issued;
  reply = closing_reply (way_of stop) o.ending;
  steps = o.steps;
  writes = o.writes;
}

-- one event
abbrev pub event_outcome : {S : Type 0} → Instance → Level S → S → List (List ℕ) → Event → Outcome S
event_outcome i level s issued (Ask meddles stop offer b) =
    ask_event_outcome i level s issued meddles stop (offered_bytes issued offer) b
event_outcome i level s issued (Checkpoint meddles stop) =
    checkpoint_event_outcome level stop issued
    (checkpoint_outcome i level s (course_of stop meddles))
event_outcome i level s issued Power = outcome_without_call (level.made s PowerMove)
    issued reply.Power
event_outcome i level s issued (Extend value) =
    outcome_without_call (level.made s (Foreign value)) issued reply.Extended

-- one event where the cell is none that a call goes on with
abbrev pub vain_event_outcome : {S : Type 0} → Level S → S → List (List ℕ) → Refusal → Event
    → Outcome S
vain_event_outcome level s issued why (Ask meddles stop offer b) =
    vain_ask_outcome level s issued meddles stop why (offered_bytes issued offer) b
vain_event_outcome level s issued why (Checkpoint meddles stop) =
    read_only_outcome level s issued meddles stop why
vain_event_outcome level s issued why Power = outcome_without_call (level.made s PowerMove)
    issued reply.Power
vain_event_outcome level s issued why (Extend value) =
    outcome_without_call (level.made s (Foreign value)) issued reply.Extended

-- What stands after some events, with the replies so far and the counts of steps and of writes of
-- the cell.
pub record RunOutcome (S : Type 0) : Type 0 where
  pub state : S
  pub issued : List (List ℕ)
  pub replies : List Reply
  pub steps : ℕ
  pub writes : ℕ

abbrev pub outcome_of_events : {S : Type 0} → Instance → Level S → S → List (List ℕ) → List Event
    → RunOutcome S
outcome_of_events i level s issued [] =
    record { state = s; issued = issued; replies = []; steps = 0; writes = 0 }
outcome_of_events i level s issued (event ∷ events) =
    let o = event_outcome i level s issued event in
    let rest = outcome_of_events i level o.state o.issued events in record {
      state = rest.state;
      issued = rest.issued;
      replies = o.reply ∷ rest.replies;
      steps = o.steps + rest.steps;
      writes = o.writes + rest.writes;
    }

-- the first snapshot of an instance, and its first digests
abbrev pub first_snapshots : Instance → List (List ℕ)
first_snapshots i = sealed_snapshot_of i.key (content_of_issue i first_history) ∷ []

abbrev pub first_digests : Instance → Digests
first_digests i =
    record {
      digest = start_digest_of i.variant i.meaning.id;
      flag = false;
      register = zero_bytes;
      count = 0;
    }

-- a schedule from the start: by lists, which gives the expected replies; and by digests
abbrev pub outcome_by_lists : Instance → List Event → RunOutcome History
outcome_by_lists i events = outcome_of_events i (list_level i) first_history
    (first_snapshots i) events

abbrev pub outcome_by_digests : Instance → List Event → RunOutcome Digests
outcome_by_digests i events = outcome_of_events i (digest_level i) (first_digests i)
    (first_snapshots i) events

-- The messages that a run of events hashes, as far as a proof looks at them, and what is asked of
-- the run.

-- the moves of an event's call, by lists. The loss of power after one that was cut has no messages.
abbrev pub moves_of : Instance → History → List (List ℕ) → Event → List Move
moves_of i y issued (Ask meddles stop offer b) =
    option_map_or (λ bytes. if is_long b then []
    else (call_outcome i (list_level i) y (course_of stop meddles) bytes (normal_batch b)).moves)
    (offered_bytes issued offer) []
moves_of i y issued (Checkpoint meddles stop) =
    (checkpoint_outcome i (list_level i) y (course_of stop meddles)).moves
moves_of i y issued Power = PowerMove ∷ []
moves_of i y issued (Extend value) = Foreign value ∷ []

-- the messages of what an event asks of a right offer, where the batch isn't too long
abbrev pub event_messages : Instance → List (List ℕ) → Event → List (List ℕ)
event_messages i issued (Ask meddles stop offer b) =
    option_map_or (λ bytes. if is_long b then []
    else right_messages i (normal_batch b) (right_content i bytes)) (offered_bytes issued offer) []
event_messages i issued event = []

-- the messages of events from a history on, event by event: those of what is asked, then those of
-- the moves
abbrev pub messages_from : Instance → History → List (List ℕ) → List Event → List (List ℕ)
messages_from i y issued [] = []
messages_from i y issued (event ∷ events) =
    let o = event_outcome i (list_level i) y issued event in
    event_messages i issued event ++ messages_of_moves i y (moves_of i y issued event)
    ++ messages_from i o.state o.issued events

-- the values by which others extend the register, whether the step is reached or not
abbrev pub event_foreign_values : Event → List (List ℕ)
event_foreign_values (Ask meddles stop offer b) = map (λ m. m.value.bytes) meddles
event_foreign_values (Checkpoint meddles stop) = map (λ m. m.value.bytes) meddles
event_foreign_values Power = []
event_foreign_values (Extend value) = value ∷ []

-- the batches asked that aren't too long, of whatever offer
abbrev pub batches_of : Event → List Batch
batches_of (Ask meddles stop offer b) = if is_long b then [] else normal_batch b ∷ []
batches_of event = []

-- the messages of a run
abbrev pub run_messages : Instance → List Event → List (List ℕ)
run_messages i events =
    start_message i.variant i.meaning.id ∷ messages_from i first_history (first_snapshots i) events

-- the values by which others extend the register, and the batches asked
abbrev pub foreign_values : List Event → List (List ℕ)
foreign_values events = flat_map event_foreign_values events

abbrev pub asked_batches : List Event → List Batch
asked_batches events = flat_map batches_of events

-- in Opt, none of the values is the guard of one of the batches
abbrev pub AreApartIn : Variant → Instance → List (List ℕ) → List Batch → Type 0
AreApartIn variant i others batches = variant ≡ Opt → AreNoGuards i.barrier others batches

-- the same of the events
abbrev pub AreApart : Variant → Instance → List Event → Type 0
AreApart variant i events = AreApartIn variant i (foreign_values events) (asked_batches events)

-- What is asked of the digests: no two messages of the run share one, and none is zero. In Opt, no
-- value that others extend the register by is the guard of a batch that is asked.
pub record IsClearRun (i : Instance) (events : List Event) : Type 0 where
  pub clear : IsClear (run_messages i events)
  pub apart : AreApart i.variant i events

-- each right offer names a position of the history before its event: nobody else sealed it
abbrev pub IsGenuineOffer : Instance → History → Option (List ℕ) → Type 0
IsGenuineOffer i y offered = IfSome offered (λ bytes. IsGenuine i y bytes)

abbrev pub IsGenuineEvent : Instance → History → List (List ℕ) → Event → Type 0
IsGenuineEvent i y issued (Ask meddles stop offer b) =
    IsGenuineOffer i y (offered_bytes issued offer)
IsGenuineEvent i y issued event = Unit {0}

abbrev pub AreGenuine : Instance → History → List (List ℕ) → List Event → Type 0
AreGenuine i y issued [] = Unit {0}
AreGenuine i y issued (event ∷ events) =
    let o = event_outcome i (list_level i) y issued event in
    IsGenuineEvent i y issued event × AreGenuine i o.state o.issued events

abbrev pub IsGenuineRun : Instance → List Event → Type 0
IsGenuineRun i events = AreGenuine i first_history (first_snapshots i) events

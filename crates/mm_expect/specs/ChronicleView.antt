-- A chronicle as contracts see it. With it: what a checkpoint comes to, as a chronicle goes on by
-- it; what an event comes to, as a chronicle goes on by it; the steps of a call in code, and the
-- walk of them; what the fields of a chronicle keep.
use Rattle.std.specs.List.{list_any}
use Rattle.std.specs.Prelude.{◌≡◌, ℕ, true, false, List, [], ◌∷◌, ◌++◌, Bool, option_to_list, map, Option, IsTrue}
use Rattle.mm_module.specs.Meaning.{outputs_from}
use Rattle.mm_model.specs.History as history
use Rattle.mm_call.specs.Checkpoints as ghost_closing
use Rattle.mm_history.specs.Naming.{AreWaymarks}
use Rattle.mm_history.specs.declared.waymarks.Waymarks.{Waymarks}
use Rattle.mm_expect.specs.Below.{zero_bytes, extended_message, anchored_message, Variant, Basic, Opt, Batch, members_of, state_after}
use Rattle.mm_expect.specs.Below.{state_from, meaning_of, AnyModule, History, Move, requests_of, first_history, Instance, list_level}
use Rattle.mm_expect.specs.Below.{state_after_moves, world_key, world_barrier, StepsWalk, Meddle, Stop, right_messages, CallOutcome}
use Rattle.mm_expect.specs.Below.{call_outcome, right_content, Event, Outcome, course_of, way_of, reply_of, snapshots_of, moves_after_call}
use Rattle.mm_expect.specs.Below.{event_outcome, StepFault, batch_of, is_long, marks_of, HistoryMarks}
use Rattle.mm_expect.specs.declared.calls.ClosingResult.{ClosingResult}
use Rattle.mm_expect.specs.declared.calls.ClosingResult.TheVariants.{Closes, HasNone, NoSegment, LostPower, Stops}
use Rattle.mm_expect.specs.declared.course.ChronicleMove.{ChronicleMove}
use Rattle.mm_expect.specs.declared.course.ChronicleMove.TheVariants.{Commit, Place, Reset, Close}
use Rattle.mm_expect.specs.declared.course.ChronicleStep.{ChronicleStep}
use Rattle.mm_expect.specs.declared.course.ChronicleStep.TheVariants.{Reads, Changes, Writes}
use Rattle.mm_expect.specs.declared.replies.EventReply.{EventReply}
use Rattle.mm_expect.specs.ExpectedState.{messages_where, numbered_event_messages}

-- a variant and a module, and a history of them; and the messages of the moves since they were last
-- taken out: of those that extend the register, and of those that close a segment
pub record ChronicleView : Type 0 where
  pub variant : Variant
  pub «module» : AnyModule
  pub history : History
  pub extending : List (List ℕ)
  pub closing : List (List ℕ)

-- Basic has no barrier
abbrev pub barrier_of : Variant → List ℕ
barrier_of Basic = zero_bytes
barrier_of Opt = world_barrier

-- the instance of a variant and a module in each world
abbrev pub instance_with : Variant → AnyModule → Instance
instance_with variant «module» = record {
  variant = variant;
  meaning = meaning_of «module»;
  key = world_key;
  barrier = barrier_of variant;
}

abbrev pub chronicle_instance : ChronicleView → Instance
chronicle_instance r = instance_with r.variant r.«module»

-- the first one of a variant and a module
abbrev pub first_chronicle : Variant → AnyModule → ChronicleView
first_chronicle variant «module» = record {
  variant = variant;
  «module» = «module»;
  history = first_history;
  extending = [];
  closing = [];
}

-- The chronicle went on by these moves, and their messages are put behind those that it has.
pub record ChronicleGoes (old new : ChronicleView) (moves : List Move) : Type 0 where
  pub variant : new.variant ≡ old.variant
  pub «module» : new.«module» ≡ old.«module»
  pub history : new.history ≡ state_after_moves (list_level (chronicle_instance old))
      old.history moves
  pub extending : new.extending ≡ old.extending ++ messages_where false (chronicle_instance old)
      old.history moves
  pub closing : new.closing ≡ old.closing ++ messages_where true
      (chronicle_instance old) old.history
      moves

-- the messages by which the register takes in a value: none in Basic, which has no register
abbrev pub extension_messages : Variant → List ℕ → List ℕ → List (List ℕ)
extension_messages Basic register value = []
extension_messages Opt register value = extended_message register value ∷ []

-- the message by which a segment is closed: none in Basic, which has no segments
abbrev pub segment_closing_messages : Variant → List ℕ → List ℕ → List (List ℕ)
segment_closing_messages Basic cell register = []
segment_closing_messages Opt cell register = anchored_message cell register ∷ []

-- the module's state once the batch is run behind the history
abbrev pub state_after_batch : ChronicleView → Batch → List ℕ
state_after_batch r b =
    state_from (meaning_of r.«module»)
    (state_after (meaning_of r.«module») (requests_of r.history.batches)) (members_of b)

-- what the module says to the batch, run behind the history
abbrev pub outputs_of_batch : ChronicleView → Batch → List (List ℕ)
outputs_of_batch r b =
    outputs_from (meaning_of r.«module»)
    (state_after (meaning_of r.«module») (requests_of r.history.batches)) (members_of b)

-- What a checkpoint comes to, as a chronicle goes on by it.

abbrev pub ending_of_closing : ClosingResult → ghost_closing.CheckpointEnding
ending_of_closing Closes = ghost_closing.Closes
ending_of_closing HasNone = ghost_closing.HasNone
ending_of_closing NoSegment = ghost_closing.NoSegment
ending_of_closing LostPower = ghost_closing.LostPower
ending_of_closing (Stops fault closed) = ghost_closing.Stops fault closed

-- a device's fault broke it off
abbrev pub is_broken_off : ClosingResult → Bool
is_broken_off Closes = false
is_broken_off HasNone = false
is_broken_off NoSegment = false
is_broken_off LostPower = false
is_broken_off (Stops _ _) = true

-- The chronicle went on by a checkpoint, which ended so.
pub record ChronicleGoesByCheckpoint (old new : ChronicleView)
    (o : ghost_closing.CheckpointOutcome History)
    (closing : ClosingResult) : Type 0 where
  pub went : ChronicleGoes old new o.moves
  pub ends : ending_of_closing closing ≡ o.ending

-- The same of one that reads the cell alone, by how it ends unless it is broken off.
pub record ChronicleClosesBy (old new : ChronicleView) (walked : StepsWalk) (unless : ClosingResult)
    (closing : ClosingResult) : Type 0 where
  pub went : ChronicleGoes old new walked.moves
  pub ends : ending_of_closing closing
      ≡ ghost_closing.checkpoint_ending_by walked.broken false (ending_of_closing unless)

-- What an event comes to, as a chronicle goes on by it.

abbrev pub moves_if : Bool → List Move → List Move
moves_if true moves = moves
moves_if false moves = []

abbrev pub call_outcome_on : ChronicleView → Stop → List Meddle → List ℕ → Batch
    → CallOutcome History
call_outcome_on old stop meddles bytes b =
    call_outcome (chronicle_instance old) (list_level (chronicle_instance old)) old.history
    (course_of stop meddles) bytes b

-- A chronicle, and the messages that were listed.
pub record ListedChronicle : Type 0 where
  pub at : ChronicleView
  pub messages : List (List ℕ)

abbrev pub listed_chronicle : ChronicleView → List (List ℕ) → ListedChronicle
listed_chronicle at messages = record { at = at; messages = messages }

-- The chronicle went on by a call in a schedule: what is said of it, and the messages behind those
-- before.
pub record ChronicleGoesByCall (old new : ListedChronicle) (stop : Stop) (meddles : List Meddle)
    (bytes : List ℕ) (b : Batch) (said : EventReply) : Type 0 where
  pub variant : new.at.variant ≡ old.at.variant
  pub «module» : new.at.«module» ≡ old.at.«module»
  pub state : new.at.history ≡ state_after_moves (list_level (chronicle_instance old.at))
      (call_outcome_on old.at stop meddles bytes b).state
      (moves_after_call stop (call_outcome_on old.at stop meddles bytes b).ending)
  pub reply : said.reply
      ≡ reply_of (way_of stop) (call_outcome_on old.at stop meddles bytes b).ending
  pub snapshots : option_to_list said.snapshot ≡ snapshots_of
      (call_outcome_on old.at stop meddles bytes b).ending
  pub messages : new.messages ≡ old.messages
      ++ (right_messages (chronicle_instance old.at) b
      (right_content (chronicle_instance old.at) bytes)
      ++ (messages_where false (chronicle_instance old.at) old.at.history
      (call_outcome_on old.at stop meddles bytes b).moves
      ++ messages_where true (chronicle_instance old.at) old.at.history
      (call_outcome_on old.at stop meddles bytes b).moves))

abbrev pub outcome_on : ChronicleView → List (List ℕ) → Event → Outcome History
outcome_on old issued event =
    event_outcome (chronicle_instance old) (list_level (chronicle_instance old)) old.history issued
    event

-- The chronicle went on by an event.
pub record ChronicleGoesByEvent (old new : ListedChronicle) (issued : List (List ℕ))
    (event : Event) (said : EventReply) : Type 0 where
  pub variant : new.at.variant ≡ old.at.variant
  pub «module» : new.at.«module» ≡ old.at.«module»
  pub state : new.at.history ≡ (outcome_on old.at issued event).state
  pub reply : said.reply ≡ (outcome_on old.at issued event).reply
  pub issued_is : (outcome_on old.at issued event).issued ≡ issued ++ option_to_list said.snapshot
  pub messages : new.messages ≡ old.messages
      ++ numbered_event_messages (chronicle_instance old.at) old.at.history issued event

-- The steps of a call in code, and the walk of them.

abbrev pub move_of : ChronicleMove → history.Move
move_of (Commit batch) = history.Commit (batch_of batch)
move_of (Place batch) = history.Placed (batch_of batch)
move_of Reset = history.Reset
move_of Close = history.Close

abbrev pub model_step_of : ChronicleStep → history.DeviceStep
model_step_of Reads = history.Reads
model_step_of (Changes action) = history.Changes (move_of action)
model_step_of (Writes action) = history.Writes (move_of action)

abbrev pub steps_of : List ChronicleStep → List history.DeviceStep
steps_of all = map model_step_of all

-- the batch of a commit isn't too long
abbrev pub IsShortMove : ChronicleMove → Type 0
IsShortMove (Commit batch) = is_long (batch_of batch) ≡ false
IsShortMove (Place batch) = Unit {0}
IsShortMove Reset = Unit {0}
IsShortMove Close = Unit {0}

abbrev pub IsShortStep : ChronicleStep → Type 0
IsShortStep Reads = Unit {0}
IsShortStep (Changes action) = IsShortMove action
IsShortStep (Writes action) = IsShortMove action

abbrev pub AreShort : List ChronicleStep → Type 0
AreShort [] = Unit {0}
AreShort (step ∷ later) = IsShortStep step × AreShort later

-- The chronicle went on by the moves of a walk, which was broken off by this fault.
pub record ChronicleWalks (old new : ChronicleView) (walked : StepsWalk)
    (fault : Option StepFault) : Type 0 where
  pub went : ChronicleGoes old new walked.moves
  pub broken : fault ≡ walked.broken

-- What the fields of a chronicle keep.

-- the barrier and the marks are those of the history; the module's state is that after its batches,
-- and what it said is of the last; and no batch is too long
pub record IsSettled (variant : Variant) («module» : AnyModule) (barrier : List ℕ)
    (history : History) (marks : HistoryMarks)
    (state : List ℕ) (said : List (List ℕ)) : Type 0 where
  pub barrier_is : barrier ≡ barrier_of variant
  pub marks_is : marks ≡ marks_of (instance_with variant «module») history
  pub state_is : state ≡ state_after (meaning_of «module») (requests_of history.batches)
  pub said_is : (front : List Batch) (last : Batch) → history.batches ≡ front ++ last ∷ [] →
      said ≡ outputs_from (meaning_of «module»)
      (state_after (meaning_of «module») (requests_of front)) (members_of last)
  pub spelled : IsTrue ((meaning_of «module»).is_spelled state)
  pub short : list_any is_long history.batches ≡ false

-- and what is kept of its positions
pub record IsKept (variant : Variant) («module» : AnyModule) (barrier : List ℕ)
    (history : History) (marks : HistoryMarks)
    (state : List ℕ) (said : List (List ℕ)) (ways : Waymarks) : Type 0 where
  pub settled : IsSettled variant «module» barrier history marks state said
  pub open settled use *
  pub ways_are : AreWaymarks variant (meaning_of «module») barrier history ways

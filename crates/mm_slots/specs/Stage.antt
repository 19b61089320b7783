-- Slots line by line. With it: a platform with several slots, of which one is selected; the grammar
-- of the lines of slots, as a reading of the bytes; the lines before the events of slots, as
-- contracts see them; what is told of whole slots; a run of slots, whole, and what it reports.
use Rattle.std.specs.List.{sum_by}
use Rattle.std.specs.Option.{option_map_or, option_map}
use Rattle.std.specs.Prelude.{◌≡◌, ℕ, Bool, List, [], ◌∷◌, map, slice_index_or, slice_set, Some, true, false, ◌==◌, ◌||◌, nat_le, nat_lt}
use Rattle.std.specs.Prelude.{Option, None, if◌then◌else◌, codes, ◌+◌, ◌-◌, min, ◌++◌, length, Result, Ok, Err, slice_get, ◌⊎◌}
use Rattle.std.specs.Str.{bytes_eq}
use Rattle.mm_bytes.specs.declared.fault.Memory.{Memory}
use Rattle.mm_base.specs.declared.replay_fault.ReplayFault.{ReplayFault}
use Rattle.mm_digest.specs.declared.digest.Digest.{Digest}
use Rattle.mm_platform.specs.Memory.{new_platform, failing_plan, standing_after_cycle}
use Rattle.mm_platform.specs.Standing.{Standing, items_beside}
use Rattle.mm_module.specs.Meaning.{value_at}
use Rattle.mm_schedule.specs.Events.{offer_at}
use Rattle.mm_schedule.specs.Headers.{◌>>=◌, rest_after_prefix, number_at, word_at, header_of_words}
use Rattle.mm_schedule.specs.declared.header.Header.{Header}
use Rattle.mm_evidence.specs.Evidence.{HasEvidence}
use Rattle.mm_play.specs.Headline.{HeadingStep, More, Begins, EventPlayer, stream_standing}
use Rattle.mm_play.specs.PlaysInput.{PlaysEvents}
use Rattle.mm_play.specs.Stage.{heading_step_by, EventStage, EventSteps, HeadStage, LineStage, AtHeading, answer_to, line_answer}
use Rattle.mm_play.specs.Stage.{closing_lines, InEvents}
use Rattle.mm_play.specs.declared.player.LineRefusal.{LineRefusal}
use Rattle.mm_replay.specs.Schedule.{IsPromisedRun}
use Rattle.mm_slots.specs.declared.event.CallBreak.{CallBreak}
use Rattle.mm_slots.specs.declared.event.CallBreak.TheVariants as breaking
use Rattle.mm_slots.specs.declared.event.SlotAction.{SlotAction}
use Rattle.mm_slots.specs.declared.event.SlotAction.TheVariants as action
use Rattle.mm_slots.specs.declared.event.SlotEvent.{SlotEvent}
use Rattle.mm_slots.specs.declared.event.SlotEvent.TheVariants.{Power, At}
use Rattle.mm_slots.specs.declared.heads.Heads.{Heads}
use Rattle.mm_slots.specs.declared.report.SlotReport.{SlotReport}
use Rattle.mm_slots.specs.Table.{answers_text, end_lines, RowsLackMemory, Row, first_rows, rows_after_event, answers_to, SlotAnswer}
use Rattle.mm_slots.specs.Table.{rows_after_all, answers, slot_meetings, slot_replies_for}
use Rattle.mm_slots.specs.Tenant.{SlotTurn, tenant_instance, tenant_turn}

-- A platform with several slots, of which one is selected.

-- what stands in each slot, and the number of the one that is selected
pub record Slots : Type 0 where
  pub slots : List Standing
  pub selected : ℕ

-- what stands in the slot with this number
abbrev pub standing_in : Slots → ℕ → Standing
standing_in s number = slice_index_or s.slots number (new_platform [])

abbrev pub selected_standing : Slots → Standing
selected_standing s = standing_in s s.selected

-- the same with another standing in the slot with this number
abbrev pub with_slot : Slots → ℕ → Standing → Slots
with_slot s number standing = record s { slots = slice_set s.slots number standing }

-- others extend the register of the slot with this number by a value
abbrev pub slots_after_value : Slots → ℕ → Digest → Slots
slots_after_value s number value =
    with_slot s number (record (standing_in s number)
    { items = items_beside (value.bytes ∷ []) (standing_in s number).items })

-- the next step of the slot with this number fails, and nothing else
abbrev pub slots_with_failure : Slots → ℕ → Bool → Slots
slots_with_failure s number done =
    with_slot s number (record (standing_in s number) { plan = Some (failing_plan done) })

-- power was lost and came back, for all slots
abbrev pub slots_after_cycle : Slots → Slots
slots_after_cycle s = record s { slots = map standing_after_cycle s.slots }

-- what stands in the slots beside the selected one stays, and which one is selected
abbrev pub KeepsOthers : Slots → Slots → Type 0
KeepsOthers old new = new ≡ with_slot old old.selected (selected_standing new)

-- The grammar of the lines of slots, as a reading of the bytes.

-- the number of slots that the first line names, 1 to 16
unfoldable pub slot_count_at : List ℕ → Option ℕ
slot_count_at line =
    rest_after_prefix (codes "memoir slots 1 ") line >>= λ word.
    number_at word >>= λ count.
    if count == 0 || nat_lt 16 count then None else Some count

-- the number of a slot, a decimal below their number
unfoldable pub index_at : ℕ → List ℕ → Option ℕ
index_at slots word = number_at word >>= λ number. if nat_le slots number then None else Some number

-- an offer and a request behind `begin`
unfoldable pub begin_action_at : List ℕ → Option SlotAction
begin_action_at line = offer_at line >>= λ offer. Some (action.Begin offer.0 offer.1)

-- how a call is broken off
unfoldable pub break_at : List ℕ → Option CallBreak
break_at line =
    if bytes_eq line (codes "cut") then Some breaking.Cut
    else if bytes_eq line (codes "drop") then Some breaking.Drop
    else if bytes_eq line (codes "fail done") then Some (breaking.Fail true)
    else if bytes_eq line (codes "fail undone") then Some (breaking.Fail false)
    else None

-- what happens in a slot
unfoldable pub action_at : List ℕ → Option SlotAction
action_at line =
    if bytes_eq line (codes "close") then Some action.Close
    else if bytes_eq line (codes "step") then Some action.Step
    else option_map_or begin_action_at (rest_after_prefix (codes "begin ") line)
    (option_map_or (λ word. value_at word >>= λ value. Some
    (action.Extend (record { bytes = value }))) (rest_after_prefix (codes "extend ") line)
    (break_at line >>= λ how. Some (action.Break how)))

-- the event of a line, on a platform with so many slots
unfoldable pub event_at : ℕ → List ℕ → Option SlotEvent
event_at slots line =
    if bytes_eq line (codes "power") then Some Power
    else (word_at line >>= λ word. index_at slots word.0 >>= λ slot. action_at word.1
    >>= λ what. Some (At slot what))

-- Slots line by line: the first line, a header line for each slot, and then the events.

-- what stands between two events: the slots, and how many events were followed
pub record SlotsState : Type 0 where
  pub rows : List Row
  pub events : ℕ

abbrev pub first_slots_state : List Header → SlotsState
first_slots_state headers = record { rows = first_rows headers; events = 0 }

-- the bytes of the snapshots issued in all slots
abbrev pub kept_bytes_in : List Row → ℕ
kept_bytes_in rows = sum_by (λ (row : Row). sum_by length row.slot.issued) rows

abbrev pub slots_state_after : SlotsState → SlotEvent → SlotsState
slots_state_after r event = record { rows = rows_after_event r.rows event; events = r.events + 1 }

-- Memory was wanting for an event, or for its answer. It counts all the same.
abbrev pub SlotsLackMemory : SlotsState → SlotEvent → SlotsState → Type 0
SlotsLackMemory old event new = RowsLackMemory event old.rows new.rows
    × (new.events ≡ old.events + 1)

-- what is done with events
abbrev pub slots_steps : EventSteps SlotEvent SlotsState
slots_steps = record {
  event_in = λ r. event_at (length r.rows);
  reply = λ r event. answers_text (answers_to r.rows event);
  after = slots_state_after;
}

abbrev pub slots_stage : EventStage SlotsState
slots_stage = record {
  answer = λ r line. answer_to slots_steps r line;
  events = λ r. r.events;
  kept = λ r. kept_bytes_in r.rows;
  last = λ r. end_lines 0 r.rows;
}

-- before the first line, or among the header lines of so many slots
pub data OpeningStage : Type 0 where
  AtFirst : OpeningStage
  AtHeads : (count : ℕ) (headers : List Header) → OpeningStage

-- The first line names the number of slots. Behind one more header line others are to come, of 16
-- at most, or it names the headers of all slots.
abbrev pub slots_head : OpeningStage → List ℕ → Option (HeadingStep OpeningStage (List Header))
slots_head AtFirst line = option_map (λ count. More (AtHeads count [])) (slot_count_at line)
slots_head (AtHeads count headers) line = option_map (λ header.
    if nat_lt (length (headers ++ header ∷ [])) (min count 16)
    then More (AtHeads count (headers ++ header ∷ []))
    else Begins (headers ++ header ∷ [])) (header_of_words line)

-- behind one more header line others are to come, of 16 at most
abbrev pub are_to_come : ℕ → List Header → Bool
are_to_come count headers = nat_lt (length headers) (min count 16)

-- how many more lines the opening has, at most
abbrev pub remaining_heads : OpeningStage → ℕ
remaining_heads AtFirst = 17
remaining_heads (AtHeads count headers) = 16 - length headers

abbrev pub slots_heads : HeadStage OpeningStage SlotsState
slots_heads = record {
  behind = λ at line. heading_step_by first_slots_state (slots_head at line);
  left = remaining_heads;
}

-- the reply to a line, and the last lines, which need all header lines before them
abbrev pub SlotsStage : Type 0
SlotsStage = LineStage OpeningStage SlotsState

abbrev pub first_slots_stage : SlotsStage
first_slots_stage = AtHeading AtFirst

abbrev pub slots_answer : SlotsStage → List ℕ → Result (List ℕ × SlotsStage) LineRefusal
slots_answer at line = line_answer slots_heads slots_stage at line

abbrev pub slots_closing : SlotsStage → Option (List ℕ)
slots_closing at = closing_lines slots_heads slots_stage at

-- The lines before the events of slots, as contracts see them.

abbrev pub opening_in : Option Heads → OpeningStage
opening_in None = AtFirst
opening_in (Some heads) = AtHeads heads.count heads.headers.items

-- With one more header of so many slots others are to come, or these begin.
abbrev pub AddsHead : (count : ℕ) (all : List Header) (count' : ℕ) (headers : List Header)
    → Result (Option SlotsState) Memory → Type 0
AddsHead count all count' headers (Ok None) =
    (are_to_come count all ≡ true) × (count' ≡ count) × (headers ≡ all)
AddsHead count all count' headers (Ok (Some stage)) =
    (are_to_come count all ≡ false) × (stage ≡ first_slots_state all)
AddsHead count all count' headers (Err memory) = Unit {0}

-- What is told of whole slots.

-- The first line names the number of slots, a header line for each follows, and then events. What
-- is shown of these is the answers to them, and what stands in the slots behind them: the last
-- lines count the requests and the snapshots of each slot, and the snapshots are kept.
abbrev pub slots_player : EventPlayer OpeningStage (List Header) SlotEvent
    (List SlotAnswer × List Row)
slots_player = record {
  start = AtFirst;
  head = slots_head;
  event_in = λ headers. event_at (length headers);
  text = λ events shown. answers_text shown.0;
  last = λ shown. end_lines 0 shown.1;
  kept = λ shown. sum_by (λ (row : Row). sum_by length row.slot.issued) shown.1;
}

-- the calls of a slot that are over are one run of its module
abbrev pub IsRunOfSlot : ℕ → Header → SlotTurn → Type 0
IsRunOfSlot number header it =
    IsPromisedRun (tenant_instance header number) header.«module» it.events (record {
      replies = it.replies;
      committed = it.slot.digests.count;
      issued = it.slot.issued;
    })

-- What a slot is told is what its own fold says, with no premise. And its calls that are over are
-- one run of its module, or one holds evidence in hand: two different messages of the slot's run
-- with one digest, one with digest zero, a value of others that is the guard of a batch, or an
-- offer that is forged.
pub record IsSlotRun (number : ℕ) (header : Header) (told : List SlotAnswer)
    (it : SlotTurn) : Type 0
  where
    pub own : slot_replies_for number told ≡ it.said
    pub unless_evidence : IsRunOfSlot number header it
        ⊎ HasEvidence (tenant_instance header number) it.events

-- The headline, of each first part of the events, and of each slot. A slot's fold is over what it
-- meets itself, and knows no other slot.
abbrev pub AreSlotRuns : List Header → List SlotEvent
    → (List SlotEvent → List SlotAnswer × List Row) → Type 0
AreSlotRuns headers events shown = (front later : List SlotEvent) → events ≡ front ++ later
    → (shown front ≡ (
      answers (first_rows headers) front,
      rows_after_all
          (first_rows headers) front,
    ))
    × ((number : ℕ) (header : Header) → slice_get headers number ≡ Some header
    → IsSlotRun number header (shown front).0
    (tenant_turn header number (slot_meetings number (first_rows headers) front)))

-- A run of slots, whole, and what it reports.

-- how many requests were committed and snapshots issued in these slots, all together
abbrev pub committed_count_in : List Row → ℕ
committed_count_in rows = sum_by (λ (row : Row). row.slot.digests.count) rows

abbrev pub issued_count_in : List Row → ℕ
issued_count_in rows = sum_by (λ (row : Row). length row.slot.issued) rows

abbrev pub ReportsSlots : SlotsStage → SlotReport → Type 0
ReportsSlots (AtHeading at) report = (report.committed ≡ 0) × (report.issued ≡ 0)
ReportsSlots (InEvents r) report =
    (report.committed ≡ committed_count_in r.stage.rows)
    × (report.issued ≡ issued_count_in r.stage.rows)

-- What was taken of the input and written fits the answer line by line; and as a whole it is the
-- answers to the events, each slot's its own, with the headline.
abbrev pub PlaysSlots : (left left' received received' : Option (List ℕ))
    → Result SlotReport ReplayFault → Type 0
PlaysSlots left left' received received' result =
    PlaysEvents slots_player AreSlotRuns slots_heads slots_stage ReportsSlots
    (stream_standing left received) (stream_standing left' received') result

-- The slots of one platform. With it: the lines that answer events of slots; what becomes of the
-- slots of a platform, or of one of them.
use Rattle.std.specs.Fmt.{decimal}
use Rattle.std.specs.List.{flat_map, All}
use Rattle.std.specs.Option.{option_map_or}
use Rattle.std.specs.Prelude.{◌≡◌, ℕ, ◌+◌, ◌==◌, Bool, true, false, List, [], ◌∷◌, ◌++◌, map, Option, Some, slice_get, slice_set, ◌⊎◌}
use Rattle.std.specs.Prelude.{if◌then◌else◌, length, codes, ◌≤◌, ◌<◌, ◌*◌, ◌^◌}
use Rattle.mm_bytes.specs.Limits.{most_events, most_members}
use Rattle.mm_model.specs.Chains.{Instance}
use Rattle.mm_schedule.specs.Replies.{IsPrintable}
use Rattle.mm_schedule.specs.declared.header.Header.{Header}
use Rattle.mm_replay.specs.Schedule.{text_of_replies}
use Rattle.mm_slots.specs.declared.event.CallBreak.TheVariants as breaking
use Rattle.mm_slots.specs.declared.event.SlotAction.{SlotAction}
use Rattle.mm_slots.specs.declared.event.SlotAction.TheVariants as action
use Rattle.mm_slots.specs.declared.event.SlotEvent.{SlotEvent}
use Rattle.mm_slots.specs.declared.event.SlotEvent.TheVariants.{Power, At}
use Rattle.mm_slots.specs.declared.said.SlotReply.{SlotReply}
use Rattle.mm_slots.specs.declared.said.SlotReply.TheVariants.{Busy, Idle, Begun, Going, Replied}
use Rattle.mm_slots.specs.Tenant.{Tenant, Flight, ActionLacksMemory, Meeting, Acts, Loses, turn_by_action, turn_over_all, tenant_instance}
use Rattle.mm_slots.specs.Tenant.{first_tenant}

-- a slot, its number, and the header of the module in it
pub record Row : Type 0 where
  pub header : Header
  pub number : ℕ
  pub slot : Tenant

-- the instance in a slot
abbrev pub instance_of : Row → Instance
instance_of row = tenant_instance row.header row.number

-- a cut of a call in flight takes the power of all slots
abbrev pub is_cut : Option Flight → SlotAction → Bool
is_cut (Some flight) (action.Break breaking.Cut) = true
is_cut flight what = false

abbrev pub is_cut_for_all : List Row → ℕ → SlotAction → Bool
is_cut_for_all rows number what =
    option_map_or (λ (row : Row). is_cut row.slot.flight what) (slice_get rows number) false

-- what an event has in it for the slot with this number
abbrev pub event_meetings : ℕ → List Row → SlotEvent → List Meeting
event_meetings number rows Power = Loses ∷ []
event_meetings number rows (At other what) =
    if number == other then Acts what ∷ []
    else if is_cut_for_all rows other what then Loses ∷ [] else []

abbrev pub row_after : Row → List Meeting → Row
row_after row mets = record row { slot = (turn_over_all (instance_of row) row.slot mets).slot }

-- each of a list by its place, from this one on
abbrev pub items_by_place : {A B : Type 0} → (ℕ → A → B) → ℕ → List A → List B
items_by_place f place [] = []
items_by_place f place (x ∷ xs) = f place x ∷ items_by_place f (place + 1) xs

-- all slots after one event, and after several
abbrev pub rows_after_event : List Row → SlotEvent → List Row
rows_after_event rows event =
    items_by_place (λ number row. row_after row (event_meetings number rows event)) 0 rows

abbrev pub rows_after_all : List Row → List SlotEvent → List Row
rows_after_all rows [] = rows
rows_after_all rows (event ∷ events) = rows_after_all (rows_after_event rows event) events

-- Memory was wanting for what happened in the slot with this number. All others are as they were.
pub record OneRowLacksMemory (number : ℕ) (what : SlotAction) (old new : List Row) : Type 0 where
  pub row : Row
  pub slot : Tenant
  pub was : slice_get old number ≡ Some row
  pub wants : ActionLacksMemory (instance_of row) what row.slot slot
  pub now : new ≡ slice_set old number (record row { slot = slot })

-- Memory was wanting for an event: for what happens there, or, once that has happened, for the
-- answer.
abbrev pub RowsLackMemory : SlotEvent → List Row → List Row → Type 0
RowsLackMemory Power old new = new ≡ rows_after_event old Power
RowsLackMemory (At number what) old new =
    OneRowLacksMemory number what old new ⊎ (new ≡ rows_after_event old (At number what))

-- what is answered: that power was lost, or what is said for the slot with this number
pub data SlotAnswer : Type 0 where
  PowerLost : SlotAnswer
  Says : (number : ℕ) (said : SlotReply) → SlotAnswer

abbrev pub slot_replies_at : List Row → ℕ → SlotAction → List SlotReply
slot_replies_at rows number what =
    option_map_or (λ (row : Row). (turn_by_action (instance_of row) row.slot what).said)
    (slice_get rows number) []

abbrev pub answers_to : List Row → SlotEvent → List SlotAnswer
answers_to rows Power = PowerLost ∷ []
answers_to rows (At number what) = map (Says number) (slot_replies_at rows number what)

abbrev pub answers : List Row → List SlotEvent → List SlotAnswer
answers rows [] = []
answers rows (event ∷ events) = answers_to rows event
    ++ answers (rows_after_event rows event) events

-- What the slot with this number meets: what happens in it, in order, and a loss of power at each
-- that is common and at each cut of another slot's call.
abbrev pub slot_meetings : ℕ → List Row → List SlotEvent → List Meeting
slot_meetings number rows [] = []
slot_meetings number rows (event ∷ events) =
    event_meetings number rows event ++ slot_meetings number (rows_after_event rows event) events

-- what is said for the slot with this number
abbrev pub slot_replies_for : ℕ → List SlotAnswer → List SlotReply
slot_replies_for number [] = []
slot_replies_for number (PowerLost ∷ answers) = slot_replies_for number answers
slot_replies_for number (Says other said ∷ answers) =
    (if number == other then said ∷ [] else []) ++ slot_replies_for number answers

-- the slots at first, by their header lines
abbrev pub first_row : ℕ → Header → Row
first_row number header =
    record { header = header; number = number; slot = first_tenant (tenant_instance header number) }

abbrev pub first_rows : List Header → List Row
first_rows headers = items_by_place first_row 0 headers

-- The lines that answer events of slots.

-- what is said, with its LF
abbrev pub slot_reply_text : SlotReply → List ℕ
slot_reply_text Busy = codes "no busy" ++ 10 ∷ []
slot_reply_text Idle = codes "no idle" ++ 10 ∷ []
slot_reply_text Begun = codes "begun" ++ 10 ∷ []
slot_reply_text (Going step) = codes "going " ++ decimal step ++ 10 ∷ []
slot_reply_text (Replied reply) = text_of_replies reply

-- what has to be met to be said: short outputs, and positions of at most 2^48
abbrev pub IsSayable : SlotReply → Type 0
IsSayable (Replied reply) = IsPrintable reply
IsSayable said = Unit {0}

-- the line of an answer: what is said for a slot stands behind its number and a space
abbrev pub answer_text : SlotAnswer → List ℕ
answer_text PowerLost = codes "power" ++ 10 ∷ []
answer_text (Says number said) = decimal number ++ 32 ∷ slot_reply_text said

abbrev pub answers_text : List SlotAnswer → List ℕ
answers_text answers = flat_map answer_text answers

-- the line `end I N K`: in slot I so many requests were committed, and so many snapshots issued
abbrev pub slot_end_line : ℕ → ℕ → ℕ → List ℕ
slot_end_line number committed issued =
    codes "end " ++ decimal number ++ 32 ∷ [] ++ decimal committed ++ 32 ∷ [] ++ decimal issued
    ++ 10 ∷ []

-- the last lines, one for each slot, from this number on
abbrev pub end_lines : ℕ → List Row → List ℕ
end_lines number [] = []
end_lines number (row ∷ rows) =
    slot_end_line number row.slot.digests.count (length row.slot.issued)
    ++ end_lines (number + 1) rows

-- What becomes of the slots of a platform, or of one of them.

-- Something happened in a slot, and this was said.
pub record RowActs (what : SlotAction) (old new : Row) (said : SlotReply) : Type 0 where
  pub stands : new ≡ row_after old (Acts what ∷ [])
  pub says : (turn_by_action (instance_of old) old.slot what).said ≡ said ∷ []
  pub sayable : IsSayable said

-- Memory was wanting for what happened in a slot.
pub record RowLacksMemory (what : SlotAction) (old new : Row) : Type 0 where
  pub same : new ≡ record old { slot = new.slot }
  pub wants : ActionLacksMemory (instance_of old) what old.slot new.slot

-- each slot after what it meets, by its number
abbrev pub rows_after_meetings : (ℕ → List Meeting) → List Row → List Row
rows_after_meetings mets rows = items_by_place (λ number row. row_after row (mets number)) 0 rows

-- one slot meets something
abbrev pub meetings_at : ℕ → Meeting → ℕ → List Meeting
meetings_at number met other = if other == number then met ∷ [] else []

-- all slots lose their power but the one with this number
abbrev pub losses_of_others : ℕ → ℕ → List Meeting
losses_of_others but number = if number == but then [] else Loses ∷ []

-- Something happened in the slot with this number, and in no other, and this was said.
pub record SlotActsAt (number : ℕ) (what : SlotAction) (old new : List Row)
    (said : SlotReply) : Type 0 where
  pub stands : new ≡ rows_after_meetings (meetings_at number (Acts what)) old
  pub says : slot_replies_at old number what ≡ said ∷ []
  pub sayable : IsSayable said

-- Something happened in the slot with this number, by which others may have lost their power, and
-- this was said.
pub record EventTells (number : ℕ) (what : SlotAction) (old new : List Row)
    (said : SlotReply) : Type 0 where
  pub stands : new ≡ rows_after_event old (At number what)
  pub says : slot_replies_at old number what ≡ said ∷ []
  pub sayable : IsSayable said

-- 64 bits count the requests of one more event
abbrev pub CanCount : Row → Type 0
CanCount row = row.slot.digests.count < 2 ^ 63

-- 32 bits count the snapshots
abbrev pub IsCounted : Row → Type 0
IsCounted row = length row.slot.issued < 2 ^ 32

-- the slot has committed and issued no more than so many events can
pub record IsWithin (events : ℕ) (row : Row) : Type 0 where
  pub few : row.slot.digests.count ≤ most_members * events
  pub short : length row.slot.issued ≤ events + 1

-- what slots among their events keep
pub record KeepsAll (rows : List Row) (events : ℕ) : Type 0 where
  pub within : All (IsWithin events) rows
  pub some : 1 ≤ length rows
  pub most : length rows ≤ 16
  pub few : events ≤ most_events

-- the event is in one of so many slots, or in all
abbrev pub IsInside : ℕ → SlotEvent → Type 0
IsInside slots Power = Unit {0}
IsInside slots (At number what) = number < slots

-- The laws of slots.
use Rattle.std.specs.Prelude.{◌≡◌, ℕ, List, [], ◌∷◌, ◌++◌, Some, slice_get}
use Rattle.std.specs.List.{flat_map}
use Rattle.mm_model.specs.Chains.{Instance}
use Rattle.mm_schedule.specs.declared.header.Header.{Header}
use Rattle.mm_schedule.specs.declared.reply.Reply.{Reply}
use Rattle.mm_schedule.specs.declared.reply.Reply.TheVariants as reply
use Rattle.mm_call.specs.Standing.{instance_by}
use Rattle.mm_digest.specs.declared.variant.Variant.{Variant}
use Rattle.mm_module.specs.Meaning.{Meaning}
use Rattle.mm_outcome.specs.OneRun.{IsOneRun}
use Rattle.mm_outcome.specs.Premises.{IsClearRun, IsGenuineRun}
use Rattle.mm_evidence.specs.Evidence.{HasEvidence}
use Rattle.mm_evidence.specs.Laws.{IsFrontWithoutEvidence, IsLongest, RunsUntil}
use Rattle.mm_schedule.specs.Events.{Event}
use Rattle.mm_slots.specs.declared.event.SlotEvent.{SlotEvent}
use Rattle.mm_slots.specs.declared.said.SlotReply.{SlotReply}
use Rattle.mm_slots.specs.declared.said.SlotReply.TheVariants.{Replied}
use Rattle.mm_slots.specs.Tenant.{Tenant, SlotTurn, Meeting, turn_over_all, first_tenant, tenant_turn, tenant_instance}
use Rattle.mm_slots.specs.Table.{SlotAnswer, Row, instance_of, row_after, rows_after_all, answers, first_rows, slot_meetings}
use Rattle.mm_slots.specs.Table.{slot_replies_for}
use Rattle.mm_slots.specs.Stage.{AreSlotRuns, IsRunOfSlot}

-- A slot of a table is where its own fold leaves it, and what is said for it is what its fold says:
-- over what it meets, and over nothing else.
pub record IsAlone (number : ℕ) (rows : List Row) (events : List SlotEvent) (row : Row) : Type 0
  where
    pub stands : slice_get (rows_after_all rows events) number ≡ Some
        (row_after row (slot_meetings number rows events))
    pub said : slot_replies_for number
        (answers rows events) ≡ (turn_over_all (instance_of row) row.slot (slot_meetings number rows events)).said

abbrev pub SlotsAreAlone : Type 0
SlotsAreAlone =
    (rows : List Row) (events : List SlotEvent) (number : ℕ) (row : Row)
    → slice_get rows number ≡ Some row
    → IsAlone number rows events row

-- The replies that a slot's events come to are those of one run of the module on one list of
-- requests, as the verdict on histories gives them; so many requests were committed, and the
-- snapshots issued are those that the verdict issues.
abbrev pub SlotIsOneRun : Instance → SlotTurn → Type 0
SlotIsOneRun i it = IsOneRun i it.events it.replies it.slot.digests.count it.slot.issued

-- So it is of each slot, where no two different messages of its run share a digest, no digest is
-- zero, no value that others extend its register by is the guard of a batch, and no tag is forged.
abbrev pub SlotsRun : Type 0
SlotsRun = (variant : Variant) (meaning : Meaning) (key barrier : List ℕ) (mets : List Meeting) →
    let i = instance_by variant meaning key barrier in
    let it = turn_over_all i (first_tenant i) mets in
    IsClearRun i it.events → IsGenuineRun i it.events → SlotIsOneRun i it

-- So the headline says of each slot, and of each first part of the events: a premise that breaks
-- later costs nothing of it.
abbrev pub PremisesGiveSlotRuns : Type 0
PremisesGiveSlotRuns =
    (headers : List Header) (events : List SlotEvent)
    (shown : List SlotEvent → List SlotAnswer × List Row) → AreSlotRuns headers events shown
    → (front later : List SlotEvent) → events ≡ front ++ later
    → (number : ℕ) (header : Header) → slice_get headers number ≡ Some header →
    let it = tenant_turn header number (slot_meetings number (first_rows headers) front) in
    IsClearRun (tenant_instance header number) it.events
    → IsGenuineRun (tenant_instance header number) it.events → IsRunOfSlot number header it

-- what a slot comes to that meets these events from the start, by the headers of all slots
abbrev pub slot_turn_in : List Header → ℕ → Header → List SlotEvent → SlotTurn
slot_turn_in headers number header events =
    tenant_turn header number (slot_meetings number (first_rows headers) events)

-- The calls of a slot that are over give evidence; or they meet what is asked of a run.
abbrev pub HasSlotEvidence : List Header → ℕ → Header → List SlotEvent → Type 0
HasSlotEvidence headers number header events =
    HasEvidence (tenant_instance header number) (slot_turn_in headers number header events).events

abbrev pub MeetsSlotPremises : List Header → ℕ → Header → List SlotEvent → Type 0
MeetsSlotPremises headers number header events =
    let over : List Event = (slot_turn_in headers number header events).events in
    IsClearRun (tenant_instance header number) over
    × IsGenuineRun (tenant_instance header number) over

-- And so it does of each slot up to the first event at which that slot's calls give evidence.
abbrev pub OneRunOfSlotUntilEvidence : Type 0
OneRunOfSlotUntilEvidence =
    (headers : List Header) (events : List SlotEvent)
    (shown : List SlotEvent → List SlotAnswer × List Row) → AreSlotRuns headers events shown
    → (number : ℕ) (header : Header) → slice_get headers number ≡ Some header
    → RunsUntil (HasSlotEvidence headers number header) events
    (λ front. IsRunOfSlot number header (slot_turn_in headers number header front))

-- The events before that one are the longest first part in which the slot's calls meet what is
-- asked.
abbrev pub SlotFrontsAreLongest : Type 0
SlotFrontsAreLongest =
    (headers : List Header) (number : ℕ) (header : Header) (events front : List SlotEvent)
    → IsFrontWithoutEvidence (HasSlotEvidence headers number header) events front
    → IsLongest (HasSlotEvidence headers number header) (MeetsSlotPremises headers number header)
    events front

-- All that is shown is that of each first part of the events, and then of the rest.
abbrev pub SlotsGoOn : Type 0
SlotsGoOn =
    (headers : List Header) (events : List SlotEvent)
    (shown : List SlotEvent → List SlotAnswer × List Row) → AreSlotRuns headers events shown
    → (front rest : List SlotEvent) → events ≡ front ++ rest →
    let it : List SlotAnswer × List Row = shown front in
    shown events ≡ (it.0 ++ answers it.1 rest, rows_after_all it.1 rest)

-- a reply to a call: neither that of a loss of power, nor that of a value of others
abbrev pub call_replies_of : Reply → List Reply
call_replies_of reply.Power = []
call_replies_of reply.Extended = []
call_replies_of it = it ∷ []

abbrev pub call_replies_in : SlotReply → List Reply
call_replies_in (Replied it) = call_replies_of it
call_replies_in _ = []

-- The replies to calls that are said for a slot are those that its fold gives, in their order.
abbrev pub SlotsTellReplies : Type 0
SlotsTellReplies = (i : Instance) (slot : Tenant) (mets : List Meeting)
    → flat_map call_replies_in (turn_over_all i slot mets).said ≡ flat_map call_replies_of
    (turn_over_all i slot mets).replies

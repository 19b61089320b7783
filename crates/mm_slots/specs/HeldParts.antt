-- The parts of a slot in code, and what they keep. With it: a slot of a platform is lent; events of
-- slots whose bytes still lie in their line.
use Rattle.std.specs.Borrow.{Lends, MutBor, Fml}
use Rattle.std.specs.Prelude.{◌≡◌, ◌+◌, ◌<◌, ℕ, false, List, [], ◌∷◌, length, Option, None, Some, vec_capacity, Result, Ok, Err}
use Rattle.mm_bytes.specs.declared.fault.Memory.{Memory}
use Rattle.mm_platform.specs.contracts.memory.MemPlatform.{the_row as slot_row}
use Rattle.mm_platform.specs.Standing.{Plan, Standing, next_plan}
use Rattle.mm_platform.specs.declared.plan.Meddle.{Meddle}
use Rattle.mm_module.specs.Batch.{One}
use Rattle.mm_modules.specs.Modules.{meaning_of}
use Rattle.mm_model.specs.Chains.{Instance}
use Rattle.mm_model.specs.Moves.{is_long, Digests}
use Rattle.mm_model.specs.Standing.{register_reading}
use Rattle.mm_schedule.specs.Events.{offer_of}
use Rattle.mm_schedule.specs.declared.event.Offer.{Offer}
use Rattle.mm_schedule.specs.declared.header.Header.{Header}
use Rattle.mm_outcome.specs.EventOffers.{offered_bytes}
use Rattle.mm_world.specs.Seat.{EndsCall}
use Rattle.mm_world.specs.WorldStanding.{digest_in, flag_in, HasDigests, IsQuiet}
use Rattle.mm_world.specs.declared.call.CallReport.{CallReport}
use Rattle.mm_steps.specs.FlightKind.{IsInFlight, ask_kind as asks_so, checkpoint_kind}
use Rattle.mm_slots.specs.contracts.platform.SlotPlatform.{the_row}
use Rattle.mm_slots.specs.declared.event.SlotAction.{SlotAction}
use Rattle.mm_slots.specs.declared.event.SlotAction.TheVariants as action
use Rattle.mm_slots.specs.declared.event.SlotEvent.{SlotEvent}
use Rattle.mm_slots.specs.declared.event.SlotEvent.TheVariants as event
use Rattle.mm_slots.specs.declared.flight.Flight.{Flight as CodeFlight}
use Rattle.mm_slots.specs.declared.flight.Flight.TheVariants as code
use Rattle.mm_slots.specs.declared.parts.Parts.{Parts}
use Rattle.mm_slots.specs.declared.read.ActionText.{ActionText}
use Rattle.mm_slots.specs.declared.read.ActionText.TheVariants as text
use Rattle.mm_slots.specs.declared.read.SlotEventText.{SlotEventText}
use Rattle.mm_slots.specs.declared.read.SlotEventText.TheVariants as event_text
use Rattle.mm_slots.specs.declared.said.SlotReply.{SlotReply}
use Rattle.mm_slots.specs.declared.said.SlotReply.TheVariants.{Replied}
use Rattle.mm_slots.specs.Stage.{Slots, with_slot}
use Rattle.mm_slots.specs.Table.{IsSayable, Row}
use Rattle.mm_slots.specs.Tenant.{Tenant, Flight, SlotCall, Asks, Closes, SlotTurn, ActionLacksMemory, tenant_instance, power_turn}
use Rattle.mm_slots.specs.Tenant.{turn_by_action}

-- what a call in flight asks
abbrev pub call_in : CodeFlight → SlotCall
call_in (code.Asks asking) = Asks asking.asked.offer (One asking.asked.request)
call_in (code.Closes closing) = Closes

-- its meddles, and its next step, are those of the platform's plan
abbrev pub flight_in : Plan → Option CodeFlight → Option Flight
flight_in plan None = None
flight_in plan (Some flight) =
    Some (record { call = call_in flight; meddles = plan.meddles; next = plan.at + 1 })

-- Where a slot stands by digests: a call in flight has left the cell's as they were, and the slot
-- has the register's as it was before the call.
abbrev pub digests_in : Parts → Digests
digests_in parts = record {
  digest = digest_in parts.seat.platform.cell;
  flag = flag_in parts.seat.platform.cell;
  register = parts.register.bytes;
  count = parts.seat.committed;
}

abbrev pub slot_in : Parts → Tenant
slot_in parts = record {
  digests = digests_in parts;
  issued = parts.seat.issued.items;
  flight = flight_in (next_plan parts.seat.platform) parts.flight;
}

abbrev pub instance_in : Parts → Instance
instance_in parts = tenant_instance parts.seat.header parts.number

-- the slot with its header and number
abbrev pub row_in : Parts → Row
row_in parts =
    record { header = parts.seat.header; number = parts.number; slot = slot_in parts }

-- The call is in flight. It was begun over a platform that stood so, at these digests; others have
-- extended the register by these meddles since; and its next step has this number.
abbrev pub SlotCallFlies : Header → Instance → Digests → Standing → CodeFlight → Standing
    → List Meddle → ℕ
    → Type 0
SlotCallFlies header i d from (code.Asks it) now meddles next =
    IsInFlight
    (asks_so header.variant (meaning_of header.«module») it.asked.bytes (One it.asked.request)) i d
    from it.call now meddles next
SlotCallFlies header i d from (code.Closes it) now meddles next =
    IsInFlight checkpoint_kind i d from it.call now meddles next

-- The bytes are those that the offer names, the request isn't too long, and there is room for the
-- snapshot that may be handed out.
pub record MayAsk (issued : List (List ℕ)) (capacity : ℕ) (offer : Offer)
    (bytes request : List ℕ) : Type 0 where
  pub offered : offered_bytes issued offer ≡ Some bytes
  pub short : is_long (One request) ≡ false
  pub room : length issued < capacity

abbrev pub MayGoOn : List (List ℕ) → ℕ → CodeFlight → Type 0
MayGoOn issued capacity (code.Asks asking) =
    MayAsk issued capacity asking.asked.offer asking.asked.bytes asking.asked.request
MayGoOn issued capacity (code.Closes closing) = Unit {0}

-- A call is in flight, that was begun over a platform that stood so.
pub record FitsCall (header : Header) (number : ℕ) (d : Digests) (issued : List (List ℕ))
    (capacity : ℕ) (standing : Standing)
    (flight : CodeFlight) : Type 0 where
  pub from : Standing
  pub flies : SlotCallFlies header (tenant_instance header number) d from flight standing
      (next_plan standing).meddles ((next_plan standing).at + 1)
  pub may : MayGoOn issued capacity flight

-- the platform stands so that the call in flight, if there is one, goes on
abbrev pub FitsFlight : Header → ℕ → Digests → List (List ℕ) → ℕ → Standing → Option CodeFlight
    → Type 0
FitsFlight header number d issued capacity standing None =
    HasDigests (tenant_instance header number) standing d × IsQuiet standing
FitsFlight header number d issued capacity standing (Some flight) =
    FitsCall header number d issued capacity standing flight

-- the platform stands so that the call in flight goes on, or none is
abbrev pub PartsFit : Parts → Type 0
PartsFit parts =
    FitsFlight parts.seat.header parts.number (digests_in parts) parts.seat.issued.items
    (vec_capacity parts.seat.issued) parts.seat.platform parts.flight

-- the slot with this call in flight
abbrev pub parts_with_flight : Parts → CodeFlight → Parts
parts_with_flight parts flight = record parts { flight = Some flight }

-- The slot has the register's value as the platform tells it.
abbrev pub HasRegister : Parts → Type 0
HasRegister parts = register_reading parts.seat.platform ≡ Some parts.register.bytes

-- A call of the slot is over that came to this, and the slot is as it leaves it.
pub record CallEndsIn (it : CallReport) (old new : Parts) (said : SlotReply) : Type 0 where
  pub ends : EndsCall it old.seat new.seat it.reply
  pub number : new.number ≡ old.number
  pub flight : new.flight ≡ old.flight
  pub register : HasRegister new
  pub says : said ≡ Replied it.reply

-- the same slot, in which something happened
pub record SlotGoesOn (old new : Parts) : Type 0 where
  pub fits : PartsFit new
  pub header : new.seat.header ≡ old.seat.header
  pub number : new.number ≡ old.number

-- Memory was wanting for what happened in the slot, which can go on.
pub record SlotLacksMemory (what : SlotAction) (old new : Parts) : Type 0 where
  pub goes : SlotGoesOn old new
  pub wants : ActionLacksMemory (instance_in old) what (slot_in old) (slot_in new)

-- Something happened in the slot that comes to this, and this was said.
pub record SlotComesTo (old new : Parts) (it : SlotTurn) (said : SlotReply) : Type 0 where
  pub goes : SlotGoesOn old new
  pub stands : slot_in new ≡ it.slot
  pub says : it.said ≡ said ∷ []
  pub sayable : IsSayable said

-- What was to happen in the slot has happened, and this was said; or memory was wanting for it.
abbrev pub SlotTakes : SlotAction → Parts → Parts → Result SlotReply Memory → Type 0
SlotTakes what old new (Ok said) =
    SlotComesTo old new (turn_by_action (instance_in old) (slot_in old) what) said
SlotTakes what old new (Err memory) = SlotLacksMemory what old new

-- the slot lost its power
pub record SlotLosesPower (old new : Parts) : Type 0 where
  pub goes : SlotGoesOn old new
  pub stands : slot_in new ≡ (power_turn (instance_in old) (slot_in old)).slot

-- A slot of a platform is lent.

-- the platform ends with the slot of this number as it is left
abbrev pub LendsSlot : MutBor Slots → ℕ → MutBor Standing → Fml
LendsSlot s number slot = Lends the_row slot_row s slot (with_slot s.now number)

-- Events of slots whose bytes still lie in their line.

-- what happens in a slot, by its line
abbrev pub action_in : ActionText → SlotAction
action_in (text.Begin from request) = action.Begin (offer_of from) request.now
action_in text.Close = action.Close
action_in text.Step = action.Step
action_in (text.Break how) = action.Break how
action_in (text.Extend value) = action.Extend value

-- the event that stands in a line
abbrev pub event_in : SlotEventText → SlotEvent
event_in event_text.Power = event.Power
event_in (event_text.At slot what) = event.At slot (action_in what)

-- One slot of a platform, followed event by event. What a call in flight comes to is what the call
-- comes to in one go.
use Rattle.std.specs.Prelude.{◌≡◌, ℕ, ◌+◌, List, [], ◌∷◌, ◌++◌, Option, None, Some, if◌then◌else◌}
use Rattle.mm_module.specs.Batch.{Batch, One}
use Rattle.mm_modules.specs.Modules.{meaning_of}
use Rattle.mm_platform.specs.declared.plan.Meddle.{Meddle}
use Rattle.mm_platform.specs.declared.plan.Stop.{Stop}
use Rattle.mm_platform.specs.declared.plan.Stop.TheVariants as stop
use Rattle.mm_model.specs.Chains.{Instance}
use Rattle.mm_model.specs.Moves.{is_long, Digests}
use Rattle.mm_call.specs.CallFinding.{digest_level}
use Rattle.mm_call.specs.CallOutcome.{state_seen}
use Rattle.mm_call.specs.Standing.{instance_by}
use Rattle.mm_schedule.specs.Events.{Event, Ask, Checkpoint, Power, Extend}
use Rattle.mm_schedule.specs.declared.event.Offer.{Offer}
use Rattle.mm_schedule.specs.declared.header.Header.{Header}
use Rattle.mm_schedule.specs.declared.reply.Reply.{Reply}
use Rattle.mm_schedule.specs.declared.reply.Reply.TheVariants as reply
use Rattle.mm_outcome.specs.Premises.{Outcome, course_of, event_outcome, first_snapshots, first_digests}
use Rattle.mm_outcome.specs.OneRun.{rising_bytes_from}
use Rattle.mm_outcome.specs.EventOffers.{offered_bytes}
use Rattle.mm_steps.specs.FlightKind.{is_nothing, stop_behind}
use Rattle.mm_slots.specs.declared.event.SlotAction.{SlotAction}
use Rattle.mm_slots.specs.declared.event.SlotAction.TheVariants as action
use Rattle.mm_slots.specs.declared.event.CallBreak.{CallBreak}
use Rattle.mm_slots.specs.declared.event.CallBreak.TheVariants as breaking
use Rattle.mm_slots.specs.declared.said.SlotReply.{SlotReply}
use Rattle.mm_slots.specs.declared.said.SlotReply.TheVariants.{Busy, Idle, Begun, Going, Replied}

-- what a call asks
pub data SlotCall : Type 0 where
  Asks : (offer : Offer) (batch : Batch) → SlotCall
  Closes : SlotCall

-- the call in one go, with what others bring and how it is stopped
abbrev pub event_by : SlotCall → List Meddle → Stop → Event
event_by (Asks offer batch) meddles stop = Ask meddles stop offer batch
event_by Closes meddles stop = Checkpoint meddles stop

-- a call in flight: the values that others brought, each just before a step, and the number of its
-- next step
pub record Flight : Type 0 where
  pub call : SlotCall
  pub meddles : List Meddle
  pub next : ℕ

-- where a slot stands by digests, its issued snapshots, and its call in flight; while one is, the
-- digests and the snapshots are those at which it was begun
pub record Tenant : Type 0 where
  pub digests : Digests
  pub issued : List (List ℕ)
  pub flight : Option Flight

-- What something in a slot comes to: the slot afterwards, and what is said; and the events of a
-- schedule that it completes, with a reply for each. A call is such an event once it is over.
pub record SlotTurn : Type 0 where
  pub slot : Tenant
  pub said : List SlotReply
  pub events : List Event
  pub replies : List Reply

abbrev pub turn_saying : Tenant → SlotReply → SlotTurn
turn_saying slot said = record { slot = slot; said = said ∷ []; events = []; replies = [] }

abbrev pub outcome_in : Instance → Tenant → Event → Outcome Digests
outcome_in i slot event = event_outcome i (digest_level i) slot.digests slot.issued event

-- an event of a schedule, in one go
abbrev pub event_turn : Instance → Tenant → Event → SlotTurn
event_turn i slot event = record {
  slot =
      record {
        digests = (outcome_in i slot event).state;
        issued = (outcome_in i slot event).issued;
        flight = None;
      };
  said = Replied (outcome_in i slot event).reply ∷ [];
  events = event ∷ [];
  replies = (outcome_in i slot event).reply ∷ [];
}

-- a call begins
abbrev pub first_flight : SlotCall → Flight
first_flight call = record { call = call; meddles = []; next = 1 }

abbrev pub tenant_with_flight : Tenant → Flight → Tenant
tenant_with_flight slot flight = record slot { flight = Some flight }

-- a request is asked of these bytes, if any are offered; a call that can't begin is refused
abbrev pub begin_turn : Instance → Tenant → Offer → Batch → Option (List ℕ) → SlotTurn
begin_turn i slot offer batch None = event_turn i slot (Ask [] stop.Quiet offer batch)
begin_turn i slot offer batch (Some bytes) =
    if is_long batch then event_turn i slot (Ask [] stop.Quiet offer batch)
    else turn_saying (tenant_with_flight slot (first_flight (Asks offer batch))) Begun

-- the call as it was made up to its next step, which it makes, and is stopped at the one behind it
-- without effect
abbrev pub event_so_far : Flight → Event
event_so_far flight = event_by flight.call flight.meddles (stop_behind flight.next)

-- the call makes its next step, and goes on, or is over
abbrev pub step_turn : Instance → Tenant → Flight → SlotTurn
step_turn i slot flight =
    if is_nothing (outcome_in i slot (event_so_far flight)).reply
    then turn_saying (tenant_with_flight slot (record flight { next = flight.next + 1 }))
    (Going (flight.next + 1))
    else event_turn i slot (event_so_far flight)

abbrev pub stop_at : CallBreak → ℕ → Stop
stop_at breaking.Cut step = stop.Cut step
stop_at breaking.Drop step = stop.Drop step
stop_at (breaking.Fail done) step = stop.Fail step done

-- others bring a value just before the call's next step
abbrev pub flight_with_meddle : Flight → List ℕ → Flight
flight_with_meddle flight value = record flight {
  meddles = flight.meddles ++ record { step = flight.next; value = record { bytes = value } } ∷ [];
}

-- what happens in a slot, by the call in flight
abbrev pub turn_in_flight : Instance → Tenant → Option Flight → SlotAction → SlotTurn
turn_in_flight i slot None (action.Begin offer request) =
    begin_turn i slot offer (One request) (offered_bytes slot.issued offer)
turn_in_flight i slot None action.Close =
    turn_saying (tenant_with_flight slot (first_flight Closes)) Begun
turn_in_flight i slot None action.Step = turn_saying slot Idle
turn_in_flight i slot None (action.Break how) = turn_saying slot Idle
turn_in_flight i slot None (action.Extend value) = event_turn i slot (Extend value.bytes)
turn_in_flight i slot (Some flight) (action.Begin offer request) = turn_saying slot Busy
turn_in_flight i slot (Some flight) action.Close = turn_saying slot Busy
turn_in_flight i slot (Some flight) action.Step = step_turn i slot flight
turn_in_flight i slot (Some flight) (action.Break how) =
    event_turn i slot (event_by flight.call flight.meddles (stop_at how flight.next))
turn_in_flight i slot (Some flight) (action.Extend value) =
    turn_saying (tenant_with_flight slot (flight_with_meddle flight value.bytes))
    (Replied reply.Extended)

abbrev pub turn_by_action : Instance → Tenant → SlotAction → SlotTurn
turn_by_action i slot what = turn_in_flight i slot slot.flight what

-- a call in flight that asks has made its reading steps, and is over
abbrev pub tenant_after_reading : Instance → Tenant → Flight → Tenant
tenant_after_reading i slot flight = record slot {
  digests =
      state_seen i (digest_level i) slot.digests
      (course_of (stop_behind flight.next) flight.meddles);
  flight = None;
}

-- Memory was wanting for a step: the call in flight asks, and is over, with nothing done but its
-- reading steps.
abbrev pub StepLacksMemory : Instance → Flight → SlotCall → Tenant → Tenant → Type 0
StepLacksMemory i flight (Asks offer batch) old new = new ≡ tenant_after_reading i old flight
StepLacksMemory i flight Closes old new = ⊥

abbrev pub FlightLacksMemory : Instance → Option Flight → Tenant → Tenant → Type 0
FlightLacksMemory i None old new = ⊥
FlightLacksMemory i (Some flight) old new = StepLacksMemory i flight flight.call old new

-- Memory was wanting for what happened in a slot: nothing has changed, but where that was a step. A
-- checkpoint, and what breaks a call off, want none.
abbrev pub ActionLacksMemory : Instance → SlotAction → Tenant → Tenant → Type 0
ActionLacksMemory i (action.Begin offer request) old new = new ≡ old
ActionLacksMemory i (action.Extend value) old new = new ≡ old
ActionLacksMemory i action.Step old new = FlightLacksMemory i old.flight old new
ActionLacksMemory i what old new = ⊥

-- Power is lost and comes back. A call in flight is over, and has changed nothing.
abbrev pub power_turn : Instance → Tenant → SlotTurn
power_turn i slot = record (event_turn i slot Power) { said = [] }

-- what a slot meets: something happens in it, or power is lost
pub data Meeting : Type 0 where
  Acts : SlotAction → Meeting
  Loses : Meeting

abbrev pub turn_by_met : Instance → Tenant → Meeting → SlotTurn
turn_by_met i slot (Acts what) = turn_by_action i slot what
turn_by_met i slot Loses = power_turn i slot

-- what a slot comes to that meets these one after another
abbrev pub turn_over_all : Instance → Tenant → List Meeting → SlotTurn
turn_over_all i slot [] = record { slot = slot; said = []; events = []; replies = [] }
turn_over_all i slot (met ∷ more) =
    let first = turn_by_met i slot met in
    let rest = turn_over_all i first.slot more in record {
      slot = rest.slot;
      said = first.said ++ rest.said;
      events = first.events ++ rest.events;
      replies = first.replies ++ rest.replies;
    }

-- the instance in the slot with this number: its key begins with this byte, and its barrier 128
-- bytes higher
abbrev pub tenant_instance : Header → ℕ → Instance
tenant_instance header number =
    instance_by header.variant (meaning_of header.«module») (rising_bytes_from number)
    (rising_bytes_from (128 + number))

abbrev pub first_tenant : Instance → Tenant
first_tenant i = record { digests = first_digests i; issued = first_snapshots i; flight = None }

-- What the slot with this header and number comes to that meets these from the start. It knows no
-- other slot.
abbrev pub tenant_turn : Header → ℕ → List Meeting → SlotTurn
tenant_turn header number mets =
    turn_over_all (tenant_instance header number) (first_tenant (tenant_instance header number))
    mets

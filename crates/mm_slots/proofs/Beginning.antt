-- What begins a call in a slot, what is refused, a value of others, and a loss of power.
use Rattle.mm_slots.proofs.Below.{◌≡◌, ◌∙◌, ◌+◌, ◌<◌, ℕ, true, false, List, [], length, Option, None, Some, IsSome, refl, sym, ap, subst}
use Rattle.mm_slots.proofs.Below.{arith, vec_capacity, option_map, One, meaning_of, Meddle, Quiet, Item, Plan, Standing, next_step}
use Rattle.mm_slots.proofs.Below.{item_values, register_after, next_plan, quiet_plan, plan_with_meddle, standing_after_cycle, Foreign}
use Rattle.mm_slots.proofs.Below.{PowerMove, is_long, Digests, digests_after, register_reading, Extend, rising_bytes_from, offered_bytes}
use Rattle.mm_slots.proofs.Below.{plan_by, meddled, digest_in, flag_in, HasDigests, IsQuiet, extended_standing, stands_extended}
use Rattle.mm_slots.proofs.Below.{stands_settled, asks_begun, closes_begun, may_take_in, SlotAction, AskInFlight, CodeFlight, SlotReply}
use Rattle.mm_slots.proofs.Below.{Begun, Replied, Parts, SlotTurn, Asks, event_turn, turn_saying, tenant_with_flight, first_flight}
use Rattle.mm_slots.proofs.Below.{begin_turn, turn_by_action, turn_in_flight, flight_with_meddle, digests_in, slot_in, flight_in, call_in}
use Rattle.mm_slots.proofs.Below.{instance_in, PartsFit, SlotComesTo, SlotLosesPower, parts_with_flight, HasRegister, SeatStaysOn}
use Rattle.mm_digest.specs.declared.digest.Digest.{Digest}
use Rattle.mm_schedule.specs.declared.reply.Reply.TheVariants as reply
use Rattle.mm_machine.specs.declared.call.OpStage.{OpStage}
use Rattle.mm_machine.specs.declared.call.OpStage.TheVariants as stage
use Rattle.mm_model.specs.declared.answer.BatchAnswer.{BatchAnswer}
use Rattle.mm_slots.specs.declared.event.SlotAction.TheVariants as action
use Rattle.mm_slots.specs.declared.flight.Flight.TheVariants as code
use Rattle.mm_steps.specs.FlightKind.{IsInFlight, ask_kind as asks_so}
use Rattle.mm_slots.specs.HeldParts.{SlotCallFlies, MayGoOn}
use Rattle.mm_slots.proofs.Fitting.{Counted, Bounded, rests, idle, flight_of, plan_is, call_of, flight_is, takes_value}

-- what is said by whether a call is in flight

pub comes_by : (slot slot' : Parts) (one other : SlotTurn) (said : SlotReply) → one ≡ other → SlotComesTo slot slot' one said
    → SlotComesTo slot slot' other said
comes_by slot slot' one other said e c = subst (λ (t : SlotTurn). SlotComesTo slot slot' t said) e c

-- with no call in flight
pub acts_idle : (slot : Parts) (what : SlotAction) → slot.flight ≡ None
    → turn_by_action (instance_in slot) (slot_in slot) what ≡ turn_in_flight (instance_in slot) (slot_in slot) None what
acts_idle slot what none =
    ap (λ (f : Option CodeFlight). turn_in_flight (instance_in slot) (slot_in slot) (flight_in (next_plan slot.seat.platform) f) what) none

-- with one
pub acts_flying : (slot : Parts) (what : SlotAction) (flight : CodeFlight) → slot.flight ≡ Some flight
    → turn_by_action (instance_in slot) (slot_in slot) what ≡ turn_in_flight (instance_in slot) (slot_in slot)
    (Some (flight_of slot.seat.platform flight)) what
acts_flying slot what flight some =
    ap (λ (f : Option CodeFlight). turn_in_flight (instance_in slot) (slot_in slot) (flight_in (next_plan slot.seat.platform) f) what) some

-- a call begins

quiet_next : (standing : Standing) → IsQuiet standing → next_plan standing ≡ quiet_plan
quiet_next standing q = plan_is standing quiet_plan q.plan

flight_begins : (slot : Parts) (flight : CodeFlight) (what : SlotAction) → IsQuiet slot.seat.platform
    → SlotCallFlies slot.seat.header (instance_in slot) (digests_in slot) slot.seat.platform flight slot.seat.platform [] 1
    → MayGoOn slot.seat.issued.items (vec_capacity slot.seat.issued) flight
    → turn_saying (tenant_with_flight (slot_in slot) (first_flight (call_in flight))) Begun ≡ turn_by_action (instance_in slot)
    (slot_in slot) what
    → SlotComesTo slot (parts_with_flight slot flight) (turn_by_action (instance_in slot) (slot_in slot) what) Begun
flight_begins slot flight what q begins may opens =
    let standing = slot.seat.platform in
    let next = quiet_next standing q in
    let flies = subst (λ (p : Plan). SlotCallFlies slot.seat.header (instance_in slot) (digests_in slot) standing flight standing p.meddles
    (p.at + 1)) (sym next) begins in
    comes_by slot (parts_with_flight slot flight) (turn_saying (tenant_with_flight (slot_in slot) (first_flight (call_in flight))) Begun)
    (turn_by_action (instance_in slot) (slot_in slot) what) Begun opens
    (record {
      goes = record { fits = record { from = standing; flies = flies; may = may }; header = refl; number = refl };
      stands = λ j. record {
        digests = digests_in slot;
        issued = slot.seat.issued.items;
        flight = Some (record { call = call_in flight; meddles = (next j).meddles; next = (next j).at + 1 });
      };
      says = refl;
      sayable = tt;
    })

pub ask_begins : (slot : Parts) (asking : AskInFlight) → PartsFit slot → slot.flight ≡ None
    → offered_bytes slot.seat.issued.items asking.asked.offer ≡ Some asking.asked.bytes → is_long (One asking.asked.request) ≡ false
    → asking.call ≡ stage.Begun → length slot.seat.issued.items < vec_capacity slot.seat.issued
    → SlotComesTo slot (parts_with_flight slot (code.Asks asking))
    (turn_by_action (instance_in slot) (slot_in slot) (action.Begin asking.asked.offer asking.asked.request)) Begun
ask_begins slot asking fits none some short is room =
    let s = slot_in slot in
    let i = instance_in slot in
    let at = idle slot none fits in
    let on : SlotTurn = turn_saying (tenant_with_flight s (first_flight (Asks asking.asked.offer (One asking.asked.request)))) Begun in
    let opens : begin_turn i s asking.asked.offer (One asking.asked.request) (offered_bytes s.issued asking.asked.offer) ≡ on =
    rw (some, short) refl in
    let begins = asks_begun slot.seat.header.variant (meaning_of slot.seat.header.«module») (rising_bytes_from slot.number)
    (rising_bytes_from (128 + slot.number)) (digests_in slot) slot.seat.platform at.0 at.1 asking.asked.bytes (One asking.asked.request) in
    flight_begins slot (code.Asks asking) (action.Begin asking.asked.offer asking.asked.request) at.1
    (subst (λ (call : OpStage BatchAnswer). IsInFlight
    (asks_so slot.seat.header.variant (meaning_of slot.seat.header.«module») asking.asked.bytes (One asking.asked.request)) i
    (digests_in slot) slot.seat.platform call slot.seat.platform [] 1) (sym is) begins)
    (record { offered = some; short = short; room = room })
    (sym (acts_idle slot (action.Begin asking.asked.offer asking.asked.request) none ∙ opens))

pub close_begins : (slot : Parts) → PartsFit slot → slot.flight ≡ None
    → SlotComesTo slot (parts_with_flight slot (code.Closes (record { call = stage.Begun })))
    (turn_by_action (instance_in slot) (slot_in slot) action.Close) Begun
close_begins slot fits none =
    let at = idle slot none fits in
    flight_begins slot (code.Closes (record { call = stage.Begun })) action.Close at.1
    (closes_begun slot.seat.header.variant (meaning_of slot.seat.header.«module») (rising_bytes_from slot.number)
    (rising_bytes_from (128 + slot.number)) (digests_in slot) slot.seat.platform at.0 at.1) tt (sym (acts_idle slot action.Close none))

-- others extend the register

pub extends_now : (slot slot' : Parts) (value : Digest) → PartsFit slot → slot.flight ≡ None
    → SeatStaysOn (extended_standing slot.seat.platform value.bytes) slot.seat slot'.seat → slot'.number ≡ slot.number
    → slot'.flight ≡ slot.flight → HasRegister slot'
    → SlotComesTo slot slot' (turn_by_action (instance_in slot) (slot_in slot) (action.Extend value)) (Replied reply.Extended)
extends_now slot slot' value fits none e n f r =
    let i = instance_in slot in
    let s = slot_in slot in
    let old = slot.seat.platform in
    let new = slot'.seat.platform in
    let at = idle slot none fits in
    let after = digests_after i (digests_in slot) (Foreign value.bytes) in
    let there : HasDigests i new after = subst (λ (x : Standing). HasDigests i x after) (sym e.platform)
    (stands_extended i (digests_in slot) value.bytes old at.0) in
    let quiet : IsQuiet new = subst IsQuiet (sym e.platform) (record { is_on = at.1.is_on; plan = at.1.plan }) in
    let rest = rests slot slot' after e.header n e.committed (f ∙ none) r refl there quiet in
    comes_by slot slot' (event_turn i s (Extend value.bytes)) (turn_by_action i s (action.Extend value)) (Replied reply.Extended)
    (sym (acts_idle slot (action.Extend value) none))
    (record {
      goes = rest.0;
      stands = λ j. record { digests = rest.1 j; issued = e.issued j; flight = ap (flight_in (next_plan new)) (f ∙ none) j };
      says = refl;
      sayable = tt;
    })

meddled_plan : (old new : Standing) (meddles : List Meddle) (made next : ℕ) (value : Digest)
    → old.plan ≡ Some (record (plan_by Quiet meddles) { at = made }) → made < 255
    → next ≡ made + 1 → new ≡ record old { plan = option_map (plan_with_meddle value) old.plan }
    → next_plan new ≡ record (plan_by Quiet (meddled meddles next value)) { at = made }
meddled_plan old new meddles made next value planned few is e =
    let plan : Plan = record (plan_by Quiet meddles) { at = made } in
    let step : next_step plan ≡ next = omega (arith, few, is) in
    plan_is new (plan_with_meddle value plan) (ap (λ (x : Standing). x.plan) e ∙ ap (option_map (plan_with_meddle value)) planned)
    ∙ ap (λ (n : ℕ). record (plan_by Quiet (meddled meddles n value)) { at = made }) step

-- the slot whose platform stands so
abbrev pub over : (slot : Parts) → Standing → Counted slot → Bounded slot → Parts
over slot new tally bound = record slot { seat = record slot.seat { platform = new; counted = tally; fits = bound } }

-- What held of where the slot stood, and of the plan with the value in it, holds of where it stands and of its plan.
record Moved (old new : Standing) (value : Digest) : Type 0 where
  cell : new.cell ≡ old.cell
  plan : next_plan new ≡ record (next_plan old)
      { stop = Quiet; meddles = meddled (next_plan old).meddles ((next_plan old).at + 1) value }

moved_by : (old new : Standing) (value : Digest) (made : ℕ)
    → old.plan ≡ Some (record (plan_by Quiet (next_plan old).meddles) { at = made }) → made < 255 → (next_plan old).at + 1 ≡ made + 1
    → new ≡ record old { plan = option_map (plan_with_meddle value) old.plan } → Moved old new value
moved_by old new value made planned few is e =
    let p = next_plan old in
    let known : p ≡ record (plan_by Quiet p.meddles) { at = made } = plan_is old (record (plan_by Quiet p.meddles) { at = made }) planned in
    record {
      cell = ap (λ (x : Standing). x.cell) e;
      plan = meddled_plan old new p.meddles made (p.at + 1) value planned few is e
          ∙ ap (λ (n : ℕ). record (plan_by Quiet (meddled p.meddles (p.at + 1) value)) { at = n }) (sym (ap (λ (q : Plan). q.at) known));
    }

-- what a value that comes leaves of a call in flight
joins_comes : (slot : Parts) (new : Standing) (tally : Counted slot) (bound : Bounded slot) (flight : CodeFlight) (value : Digest)
    → slot.flight ≡ Some flight
    → Moved slot.seat.platform new value → PartsFit (over slot new tally bound)
    → SlotComesTo slot (over slot new tally bound) (turn_by_action (instance_in slot) (slot_in slot) (action.Extend value))
    (Replied reply.Extended)
joins_comes slot new tally bound flight value some m fits =
    let s = slot_in slot in
    let old = slot.seat.platform in
    let on : SlotTurn = turn_saying (tenant_with_flight s (flight_with_meddle (flight_of old flight) value.bytes))
    (Replied reply.Extended) in
    let flies : flight_in (next_plan new) slot.flight ≡ Some (flight_with_meddle (flight_of old flight) value.bytes) =
    ap (flight_in (next_plan new)) some
    ∙ (λ j. Some (record { call = call_in flight; meddles = (m.plan j).meddles; next = (m.plan j).at + 1 })) in
    comes_by slot (over slot new tally bound) on (turn_by_action (instance_in slot) s (action.Extend value)) (Replied reply.Extended)
    (sym (acts_flying slot (action.Extend value) flight some))
    (record {
      goes = record { fits = fits; header = refl; number = refl };
      stands = λ j. record {
        digests = record {
          digest = digest_in (m.cell j);
          flag = flag_in (m.cell j);
          register = slot.register.bytes;
          count = slot.seat.committed;
        };
        issued = slot.seat.issued.items;
        flight = flies j;
      };
      says = refl;
      sayable = tt;
    })

-- one call in flight, by which it is
some_flight : (slot : Parts) (flight : CodeFlight) → slot.flight ≡ Some flight → PartsFit slot → PartsFit (parts_with_flight slot flight)
some_flight slot flight some fits = subst PartsFit (λ j. record slot { flight = some j }) fits

back_from : (slot : Parts) (flight : CodeFlight) → slot.flight ≡ Some flight → PartsFit (parts_with_flight slot flight) → PartsFit slot
back_from slot flight some fits = subst PartsFit (λ j. record slot { flight = sym some j }) fits

-- there is a next step to plan a value for
may_meddle : (slot : Parts) (flight : CodeFlight) → PartsFit slot → slot.flight ≡ Some flight → (next_plan slot.seat.platform).at < 255
may_meddle slot flight fits some =
    let f = call_of slot flight (some_flight slot flight some fits) in
    let p = next_plan slot.seat.platform in
    let a = flight_is slot.seat.header (instance_in slot) (digests_in slot) f.from flight slot.seat.platform p.meddles (p.at + 1) f.flies in
    may_take_in slot.seat.platform (plan_by Quiet p.meddles) a.made a.planned a.few

moves : (slot : Parts) (new : Standing) (tally : Counted slot) (bound : Bounded slot) (value : Digest) → Moved slot.seat.platform new value
    → (P : Digests → Plan → Type 0)
    → (let p = next_plan slot.seat.platform in
    P (digests_in slot) (record p { stop = Quiet; meddles = meddled p.meddles (p.at + 1) value })
    → P (digests_in (over slot new tally bound)) (next_plan new))
moves slot new tally bound value m P h =
    let d : digests_in (over slot new tally bound) ≡ digests_in slot = (λ j. record {
      digest = digest_in (m.cell j);
      flag = flag_in (m.cell j);
      register = slot.register.bytes;
      count = slot.seat.committed;
    }) in
    let p = next_plan slot.seat.platform in
    let q : Plan = record p { stop = Quiet; meddles = meddled p.meddles (p.at + 1) value } in
    subst (λ (x : Plan). P (digests_in (over slot new tally bound)) x) (sym m.plan) (subst (λ (x : Digests). P x q) (sym d) h)

extends_flying : (slot : Parts) (new : Standing) (tally : Counted slot) (bound : Bounded slot) (flight : CodeFlight) (value : Digest)
    → PartsFit slot → slot.flight ≡ Some flight
    → new ≡ record slot.seat.platform { plan = option_map (plan_with_meddle value) slot.seat.platform.plan }
    → SlotComesTo slot (over slot new tally bound) (turn_by_action (instance_in slot) (slot_in slot) (action.Extend value))
    (Replied reply.Extended)
extends_flying slot new tally bound flight value fits some e =
    let old = slot.seat.platform in
    let f = call_of slot flight (some_flight slot flight some fits) in
    let p = next_plan old in
    let a = flight_is slot.seat.header (instance_in slot) (digests_in slot) f.from flight old p.meddles (p.at + 1) f.flies in
    let m = moved_by old new value a.made a.planned a.few a.is_next e in
    let flies = moves slot new tally bound value m (λ x q. SlotCallFlies slot.seat.header (instance_in slot) x f.from flight new
    q.meddles (q.at + 1))
    (takes_value slot.seat.header (instance_in slot) (digests_in slot) f.from flight old new p.meddles (p.at + 1) value f.flies e) in
    joins_comes slot new tally bound flight value some m
    (back_from (over slot new tally bound) flight some (record { from = f.from; flies = flies; may = f.may }))

-- power is lost

-- a register that is told, once it is empty
abbrev none_left : List Item → List Item
none_left items = []

-- at which digests the slot's platform stood before the call in flight
stood : (slot : Parts) (flight : Option CodeFlight) → slot.flight ≡ flight → PartsFit slot
    → (from : Standing) × HasDigests (instance_in slot) from (digests_in slot) × (from.cell ≡ slot.seat.platform.cell)
stood slot None none fits = let at = idle slot none fits in (slot.seat.platform, at.0, refl)
stood slot (Some flight) some fits =
    let f = call_of slot flight (some_flight slot flight some fits) in
    let p = next_plan slot.seat.platform in
    let a = flight_is slot.seat.header (instance_in slot) (digests_in slot) f.from flight slot.seat.platform p.meddles (p.at + 1) f.flies in
    (f.from, a.stands, sym a.cell)

emptied : (items : Option (List Item)) (value : List ℕ) → option_map (λ xs. register_after (item_values xs))
    (option_map none_left items) ≡ Some value → option_map none_left items ≡ Some []
emptied None value e = cc
emptied (Some xs) value e = refl

items_told : (items : Option (List Item)) (value : List ℕ) → option_map (λ xs. register_after (item_values xs)) items ≡ Some value
    → option_map none_left items ≡ Some []
items_told None value e = cc
items_told (Some xs) value e = refl

pub loses : (slot slot' : Parts) → PartsFit slot → slot'.seat.platform ≡ record (standing_after_cycle slot.seat.platform)
    { plan = Some quiet_plan }
    → slot'.seat.header ≡ slot.seat.header → slot'.number ≡ slot.number → slot'.seat.committed ≡ slot.seat.committed
    → slot'.flight ≡ None → slot'.seat.issued.items ≡ slot.seat.issued.items → HasRegister slot' → SlotLosesPower slot slot'
loses slot slot' fits e h n c none issued r =
    let i = instance_in slot in
    let d = digests_in slot in
    let old = slot.seat.platform in
    let new = slot'.seat.platform in
    let at = stood slot slot.flight refl fits in
    let from = at.0 in
    let after = digests_after i d PowerMove in
    let items : new.items ≡ Some [] = ap (λ (x : Standing). x.items) e
    ∙ emptied old.items slot'.register.bytes (sym (ap register_reading e) ∙ r) in
    let there : HasDigests i new after = stands_settled i d from new true at.1 (ap (λ (x : Standing). x.cell) e ∙ sym at.2)
    (items ∙ sym (items_told from.items d.register at.1.register)) in
    let quiet : IsQuiet new = subst IsQuiet (sym e) (record { is_on = refl; plan = refl }) in
    let rest = rests slot slot' after h n c none r refl there quiet in
    record {
      goes = rest.0;
      stands = λ j. record { digests = rest.1 j; issued = issued j; flight = ap (flight_in (next_plan new)) none j };
    }

-- with some call in flight

some_of : (flight : Option CodeFlight) → IsSome flight → (it : CodeFlight) × (flight ≡ Some it)
some_of None some = cc
some_of (Some it) some = (it, refl)

pub extends_some : (slot : Parts) (new : Standing) (tally : Counted slot) (bound : Bounded slot) (value : Digest) → PartsFit slot
    → IsSome slot.flight
    → new ≡ record slot.seat.platform { plan = option_map (plan_with_meddle value) slot.seat.platform.plan }
    → SlotComesTo slot (over slot new tally bound) (turn_by_action (instance_in slot) (slot_in slot) (action.Extend value))
    (Replied reply.Extended)
extends_some slot new tally bound value fits some e = let f = some_of slot.flight some in
    extends_flying slot new tally bound f.0 value fits f.1 e

pub may_meddle_some : (slot : Parts) → PartsFit slot → IsSome slot.flight → (next_plan slot.seat.platform).at < 255
may_meddle_some slot fits some = let f = some_of slot.flight some in may_meddle slot f.0 fits f.1

-- The call in flight of a slot: its next step, and a step that breaks it off.
use Rattle.mm_slots.proofs.Below.{◌≡◌, ◌∙◌, ◌+◌, ◌^◌, ◌<◌, ℕ, Bool, true, false, cond, List, Option, None, Some, Result, Ok, Err, IsSome}
use Rattle.mm_slots.proofs.Below.{refl, sym, ap, subst, arith, eq-eqb, One, meaning_of, Stop, Quiet, Plan, Standing, next_step, next_plan}
use Rattle.mm_slots.proofs.Below.{Digests, digest_level, state_after_moves, course_of, rising_bytes_from, plan_by, CallReport, is_nothing}
use Rattle.mm_slots.proofs.Below.{stop_behind, FlightStepsAs, FlightBreaksAs, MayStepOn, asks_stepped, asks_broken_off, closes_stepped}
use Rattle.mm_slots.proofs.Below.{closes_broken_off, AskInFlight, CheckpointInFlight, CodeFlight, SlotReply, Going, Parts, SlotTurn}
use Rattle.mm_slots.proofs.Below.{outcome_in, event_turn, turn_saying, tenant_with_flight, event_so_far, step_turn, event_by, stop_at}
use Rattle.mm_slots.proofs.Below.{digests_in, slot_in, call_in, instance_in, PartsFit, SlotLacksMemory, SlotComesTo, parts_with_flight}
use Rattle.mm_slots.proofs.Below.{flight_in, HasRegister, CallEndsIn, count_none, vec_capacity}
use Rattle.mm_bytes.specs.declared.fault.Memory.{Memory}
use Rattle.mm_platform.specs.Standing.{fault_at}
use Rattle.mm_model.specs.declared.answer.BatchAnswer.{BatchAnswer}
use Rattle.mm_call.specs.CallOutcome.{reading_steps, moves_seen}
use Rattle.mm_call.specs.WalkLaws.{seen_none}
use Rattle.mm_machine.specs.OpSteps.{number_of}
use Rattle.mm_machine.specs.declared.call.OpResult.{OpResult}
use Rattle.mm_machine.specs.declared.call.OpStage.{OpStage}
use Rattle.mm_opt.specs.declared.segment.CheckpointRefusal.{CheckpointRefusal}
use Rattle.mm_opt.specs.Checkpoints.{closing_operation as checkpoint}
use Rattle.mm_opt.specs.declared.segment.Checkpointed.{Checkpointed}
use Rattle.mm_ask.specs.WholeAsk.{ask_operation, write_step_of}
use Rattle.mm_world.specs.WorldStanding.{HasRead}
use Rattle.mm_world.specs.Calls.{stopped_step, TellsAsk, TellsCheckpoint}
use Rattle.mm_steps.specs.FlightKind.{StepComesTo, ask_kind as asks_so, outcome_of_stopped_ask, checkpoint_kind, outcome_of_stopped_closing}
use Rattle.mm_steps.specs.FlightKind.{BreaksNext}
use Rattle.mm_steps.specs.declared.flying.FlightOutcome.{FlightOutcome}
use Rattle.mm_steps.specs.declared.flying.FlightOutcome.TheVariants as steps
use Rattle.mm_slots.specs.HeldParts.{SlotCallFlies, MayGoOn}
use Rattle.mm_slots.specs.declared.event.SlotAction.TheVariants as action
use Rattle.mm_slots.specs.declared.event.CallBreak.{CallBreak}
use Rattle.mm_slots.specs.declared.event.CallBreak.TheVariants as breaking
use Rattle.mm_slots.specs.declared.flight.Flight.TheVariants as code
use Rattle.mm_slots.proofs.Fitting.{rests, over_comes, flight_of, flight_is, digests_kept, goes_planned, goes_comes, call_of, left, Counted}
use Rattle.mm_slots.proofs.Fitting.{Bounded}

-- the next step of a call that asks, and of a checkpoint
pub record AsksStep (slot : Parts) (it : AskInFlight) (new : Standing) (result : Result (FlightOutcome BatchAnswer) Memory) : Type 0 where
  pub steps : FlightStepsAs
      (ask_operation slot.seat.header.variant (meaning_of slot.seat.header.«module») it.asked.bytes (One it.asked.request))
      (TellsAsk (One it.asked.request)) (write_step_of slot.seat.header.variant) it.call slot.seat.platform new result
  pub room : MayStepOn result new

pub record ClosesStep (slot : Parts) (it : CheckpointInFlight) (new : Standing)
    (result : Result (FlightOutcome Checkpointed) Memory) : Type 0 where
  pub steps : FlightStepsAs checkpoint TellsCheckpoint 3 it.call slot.seat.platform new result
  pub room : MayStepOn result new

asks_come : (slot : Parts) (it : AskInFlight) (new : Standing) (result : Result (FlightOutcome BatchAnswer) Memory)
    → (fits : PartsFit (parts_with_flight slot (code.Asks it))) → AsksStep slot it new result
    → (let h = slot.seat.header in let d = digests_in (parts_with_flight slot (code.Asks it)) in let p = next_plan slot.seat.platform in
    StepComesTo (asks_so h.variant (meaning_of h.«module») it.asked.bytes (One it.asked.request)) (instance_in slot) d
    (call_of slot (code.Asks it) fits).from (outcome_of_stopped_ask (instance_in slot) d slot.seat.issued.items p.meddles it.asked.offer
    (One it.asked.request))
    slot.seat.issued.items p.meddles (p.at + 1) new result)
asks_come slot it new result fits s =
    let h = slot.seat.header in
    let f = call_of slot (code.Asks it) fits in
    let p = next_plan slot.seat.platform in
    asks_stepped h.variant (meaning_of h.«module») it.asked.bytes (One it.asked.request) f.may.short it.call slot.seat.platform new
    result s.steps s.room (rising_bytes_from slot.number) (rising_bytes_from (128 + slot.number))
    (digests_in (parts_with_flight slot (code.Asks it))) f.from
    slot.seat.issued.items p.meddles (p.at + 1) it.asked.offer f.flies f.may.offered

closes_come : (slot : Parts) (it : CheckpointInFlight) (new : Standing) (result : Result (FlightOutcome Checkpointed) Memory)
    → (fits : PartsFit (parts_with_flight slot (code.Closes it))) → ClosesStep slot it new result
    → (let d = digests_in (parts_with_flight slot (code.Closes it)) in let p = next_plan slot.seat.platform in
    StepComesTo checkpoint_kind (instance_in slot) d (call_of slot (code.Closes it) fits).from
    (outcome_of_stopped_closing (instance_in slot) d slot.seat.issued.items p.meddles) slot.seat.issued.items p.meddles
    (p.at + 1) new result)
closes_come slot it new result fits s =
    let h = slot.seat.header in
    let f = call_of slot (code.Closes it) fits in
    let p = next_plan slot.seat.platform in
    closes_stepped it.call slot.seat.platform new result s.steps s.room h.variant (meaning_of h.«module») (rising_bytes_from slot.number)
    (rising_bytes_from (128 + slot.number)) (digests_in (parts_with_flight slot (code.Closes it))) f.from slot.seat.issued.items p.meddles
    (p.at + 1) f.flies

-- a checkpoint wants no memory
none_told : (stop : Stop) (ended : OpResult Checkpointed CheckpointRefusal) (memory : Memory) → TellsCheckpoint stop ended (Err memory) → ⊥
none_told stop ended memory told = cc

pub closes_whole : (slot : Parts) (it : CheckpointInFlight) (new : Standing) (memory : Memory)
    → PartsFit (parts_with_flight slot (code.Closes it))
    → ClosesStep slot it new (Err memory) → ⊥
closes_whole slot it new memory fits s =
    let f = call_of slot (code.Closes it) fits in
    let over = s.steps f.from (next_plan slot.seat.platform).meddles f.flies.made f.flies.flies f.flies.number in
    none_told (stop_behind (f.flies.made + 1)) over.was.ended memory over.was.told

-- nor does it hand out a snapshot
abbrev snapshot_in : Result CallReport Memory → Option (List ℕ)
snapshot_in (Ok it) = it.snapshot
snapshot_in (Err memory) = None

quiet_told : (stop : Stop) (ended : OpResult Checkpointed CheckpointRefusal) (it : CallReport) → TellsCheckpoint stop ended (Ok it)
    → it.snapshot ≡ None
quiet_told stop ended it told = ap snapshot_in told

pub over_quiet : (slot : Parts) (it : CheckpointInFlight) (new : Standing) (called : CallReport)
    → PartsFit (parts_with_flight slot (code.Closes it))
    → ClosesStep slot it new (Ok (steps.Over called)) → called.snapshot ≡ None
over_quiet slot it new called fits s =
    let f = call_of slot (code.Closes it) fits in
    let over = s.steps f.from (next_plan slot.seat.platform).meddles f.flies.made f.flies.flies f.flies.number in
    quiet_told (stop_behind (f.flies.made + 1)) over.was.ended called over.was.told

-- so no room is needed for one
pub needs_none : {P : Type 0} (snapshot : Option (List ℕ)) → snapshot ≡ None → IsSome snapshot → P
needs_none None e some = absurd (cc)
needs_none (Some it) e some = absurd (cc)

-- a call goes on
flight_goes : (slot : Parts) (before after : CodeFlight) (keys : Unit {0}) (tally : Counted slot) (bound : Bounded slot)
    (new : Standing) (step : ℕ)
    → (fits : PartsFit (parts_with_flight slot before)) → call_in after ≡ call_in before
    → MayGoOn slot.seat.issued.items (vec_capacity slot.seat.issued) after
    → (let p = next_plan slot.seat.platform in
    SlotCallFlies slot.seat.header (instance_in slot) (digests_in (parts_with_flight slot before)) (call_of slot before fits).from
    after new p.meddles
    (p.at + 1 + 1)
    → is_nothing (outcome_in (instance_in slot) (slot_in (parts_with_flight slot before))
    (event_so_far (flight_of slot.seat.platform before))).reply ≡ true
    → step ≡ p.at + 1 + 1
    → SlotComesTo (parts_with_flight slot before) (parts_with_flight (left slot new keys tally bound) after)
    (step_turn (instance_in slot) (slot_in (parts_with_flight slot before)) (flight_of slot.seat.platform before)) (Going step))
flight_goes slot before after keys tally bound new step fits same may a nothing number =
    let f = call_of slot before fits in
    let h = slot.seat.header in
    let i = instance_in slot in
    let d = digests_in (parts_with_flight slot before) in
    let old = slot.seat.platform in
    let p = next_plan old in
    let was = flight_is h i d f.from before old p.meddles (p.at + 1) f.flies in
    let is = flight_is h i d f.from after new p.meddles (p.at + 1 + 1) a in
    let planned = goes_planned old new f.from p.meddles is.made (p.at + 1) was.cell is.cell is.planned is.is_next in
    let slot' = parts_with_flight (left slot new keys tally bound) after in
    let P : Digests → Plan → Type 0 = λ x q. SlotCallFlies h i x f.from after new q.meddles (q.at + 1) in
    let flies = subst (λ (q : Plan). P (digests_in slot') q) (sym planned.plan)
    (subst (λ (x : Digests). P x (record (plan_by Quiet p.meddles) { at = p.at + 1 }))
    (sym (digests_kept slot (Some before) slot'.flight keys tally bound new planned.cell)) a) in
    goes_comes slot before after keys tally bound new step same planned (record { from = f.from; flies = flies; may = may }) number nothing

pub ask_goes : (slot : Parts) (it : AskInFlight) (call : OpStage BatchAnswer) (keys : Unit {0}) (tally : Counted slot)
    (bound : Bounded slot) (new : Standing) (step : ℕ)
    → PartsFit (parts_with_flight slot (code.Asks it)) → AsksStep slot it new (Ok (steps.Going call))
    → step ≡ number_of (write_step_of slot.seat.header.variant) call
    → SlotComesTo (parts_with_flight slot (code.Asks it))
    (parts_with_flight (left slot new keys tally bound) (code.Asks (record it { call = call })))
    (step_turn (instance_in slot) (slot_in (parts_with_flight slot (code.Asks it))) (flight_of slot.seat.platform (code.Asks it)))
    (Going step)
ask_goes slot it call keys tally bound new step fits goes number =
    let t = asks_come slot it new (Ok (steps.Going call)) fits goes in
    flight_goes slot (code.Asks it) (code.Asks (record it { call = call })) keys tally bound new step fits refl
    (call_of slot (code.Asks it) fits).may
    t.0 t.1 (number ∙ t.0.number ∙ sym t.0.is_next)

pub close_goes : (slot : Parts) (it : CheckpointInFlight) (call : OpStage Checkpointed) (keys : Unit {0}) (tally : Counted slot)
    (bound : Bounded slot) (new : Standing) (step : ℕ)
    → PartsFit (parts_with_flight slot (code.Closes it)) → ClosesStep slot it new (Ok (steps.Going call)) → step ≡ number_of 3 call
    → SlotComesTo (parts_with_flight slot (code.Closes it))
    (parts_with_flight (left slot new keys tally bound) (code.Closes (record { call = call })))
    (step_turn (instance_in slot) (slot_in (parts_with_flight slot (code.Closes it))) (flight_of slot.seat.platform (code.Closes it)))
    (Going step)
close_goes slot it call keys tally bound new step fits goes number =
    let t = closes_come slot it new (Ok (steps.Going call)) fits goes in
    flight_goes slot (code.Closes it) (code.Closes (record { call = call })) keys tally bound new step fits refl tt t.0 t.1
    (number ∙ t.0.number ∙ sym t.0.is_next)

-- a step that ends the call
stepped_over : (slot slot' : Parts) (flight : CodeFlight) (said : SlotReply) → (let i = instance_in slot in
    let s = slot_in (parts_with_flight slot flight) in
    let f = flight_of slot.seat.platform flight in
    is_nothing (outcome_in i s (event_so_far f)).reply ≡ false → SlotComesTo (parts_with_flight slot flight) slot'
    (event_turn i s (event_so_far f)) said
    → SlotComesTo (parts_with_flight slot flight) slot' (step_turn i s f) said)
stepped_over slot slot' flight said something c =
    let i = instance_in slot in
    let s = slot_in (parts_with_flight slot flight) in
    let f = flight_of slot.seat.platform flight in
    let on : SlotTurn = turn_saying (tenant_with_flight s (record f { next = f.next + 1 })) (Going (f.next + 1)) in
    let P : Bool → Type 0 = λ b. SlotComesTo (parts_with_flight slot flight) slot' (cond b on (event_turn i s (event_so_far f))) said in
    subst P (sym something) c

pub ask_over : (slot slot' : Parts) (it : AskInFlight) (keys : Unit {0}) (tally : Counted slot) (bound : Bounded slot) (new : Standing)
    (called : CallReport) (said : SlotReply)
    → slot.flight ≡ None → slot.seat.committed < 2 ^ 63 → PartsFit (parts_with_flight slot (code.Asks it))
    → AsksStep slot it new (Ok (steps.Over called))
    → CallEndsIn called (left slot new keys tally bound) slot' said → SlotComesTo (parts_with_flight slot (code.Asks it)) slot'
    (step_turn (instance_in slot) (slot_in (parts_with_flight slot (code.Asks it))) (flight_of slot.seat.platform (code.Asks it))) said
ask_over slot slot' it keys tally bound new called said none few fits goes ends =
    let f = call_of slot (code.Asks it) fits in
    let t = asks_come slot it new (Ok (steps.Over called)) fits goes in
    stepped_over slot slot' (code.Asks it) said t.1
    (over_comes slot slot' (code.Asks it) keys tally bound f.from new (event_so_far (flight_of slot.seat.platform (code.Asks it))) called
    said none few t.0
    ends)

pub close_over : (slot slot' : Parts) (it : CheckpointInFlight) (keys : Unit {0}) (tally : Counted slot) (bound : Bounded slot)
    (new : Standing) (called : CallReport) (said : SlotReply)
    → slot.flight ≡ None → slot.seat.committed < 2 ^ 63 → PartsFit (parts_with_flight slot (code.Closes it))
    → ClosesStep slot it new (Ok (steps.Over called)) → CallEndsIn called (left slot new keys tally bound) slot' said
    → SlotComesTo (parts_with_flight slot (code.Closes it)) slot'
    (step_turn (instance_in slot) (slot_in (parts_with_flight slot (code.Closes it))) (flight_of slot.seat.platform (code.Closes it))) said
close_over slot slot' it keys tally bound new called said none few fits goes ends =
    let f = call_of slot (code.Closes it) fits in
    let t = closes_come slot it new (Ok (steps.Over called)) fits goes in
    stepped_over slot slot' (code.Closes it) said t.1
    (over_comes slot slot' (code.Closes it) keys tally bound f.from new (event_so_far (flight_of slot.seat.platform (code.Closes it)))
    called said none few
    t.0 ends)

-- a call is broken off

pub stopped_at : (how : CallBreak) (n : ℕ) → stopped_step (stop_at how n) ≡ n
stopped_at (breaking.Fail done) n = refl
stopped_at _ n = refl

pub broken_quiet : (how : CallBreak) (slot : Parts) (it : CheckpointInFlight) (new : Standing) (n : ℕ) (called : CallReport)
    → PartsFit (parts_with_flight slot (code.Closes it)) → n ≡ number_of 3 it.call
    → FlightBreaksAs checkpoint TellsCheckpoint it.call slot.seat.platform new (stop_at how n) called → called.snapshot ≡ None
broken_quiet how slot it new n called fits is breaks =
    let f = call_of slot (code.Closes it) fits in
    let was = breaks f.from (next_plan slot.seat.platform).meddles f.flies.made f.flies.flies (stopped_at how n ∙ is ∙ f.flies.number) in
    quiet_told (stop_at how n) was.ended called was.told

fails_at : (how : CallBreak) (n step : ℕ) → n ≡ step → IsSome (fault_at (stop_at how n) step)
fails_at breaking.Cut n step is = rw (eq-eqb n step is) refl
fails_at breaking.Drop n step is = rw (eq-eqb n step is) refl
fails_at (breaking.Fail done) n step is = rw (eq-eqb n step is) refl

-- the next step answers a fault
pub breaks_next : (how : CallBreak) (slot : Parts) (flight : CodeFlight) (n : ℕ) → PartsFit (parts_with_flight slot flight)
    → n ≡ (next_plan slot.seat.platform).at + 1 → BreaksNext (stop_at how n) slot.seat.platform
breaks_next how slot flight n fits is =
    let f = call_of slot flight fits in
    let p = next_plan slot.seat.platform in
    let a = flight_is slot.seat.header (instance_in slot) (digests_in (parts_with_flight slot flight)) f.from flight
    slot.seat.platform p.meddles
    (p.at + 1) f.flies in
    let plan : Plan = record (plan_by Quiet p.meddles) { at = a.made } in
    let next : n ≡ next_step plan = omega (arith, is, a.is_next, a.few) in
    record { plan = plan; is_on = a.is_on; planned = a.planned; fails = fails_at how n (next_step plan) next }

pub ask_next : (slot : Parts) (it : AskInFlight) (n : ℕ) → PartsFit (parts_with_flight slot (code.Asks it))
    → n ≡ number_of (write_step_of slot.seat.header.variant) it.call → n ≡ (next_plan slot.seat.platform).at + 1
ask_next slot it n fits is =
    let f = call_of slot (code.Asks it) fits in is ∙ f.flies.number ∙ sym f.flies.is_next

pub close_next : (slot : Parts) (it : CheckpointInFlight) (n : ℕ) → PartsFit (parts_with_flight slot (code.Closes it))
    → n ≡ number_of 3 it.call
    → n ≡ (next_plan slot.seat.platform).at + 1
close_next slot it n fits is =
    let f = call_of slot (code.Closes it) fits in is ∙ f.flies.number ∙ sym f.flies.is_next

pub ask_broken : (how : CallBreak) (slot slot' : Parts) (it : AskInFlight) (keys : Unit {0}) (tally : Counted slot) (bound : Bounded slot)
    (new : Standing) (n : ℕ) (called : CallReport)
    (said : SlotReply) → slot.flight ≡ None → slot.seat.committed < 2 ^ 63 → PartsFit (parts_with_flight slot (code.Asks it))
    → n ≡ number_of (write_step_of slot.seat.header.variant) it.call
    → FlightBreaksAs (ask_operation slot.seat.header.variant (meaning_of slot.seat.header.«module») it.asked.bytes (One it.asked.request))
    (TellsAsk (One it.asked.request)) it.call slot.seat.platform new (stop_at how n) called
    → CallEndsIn called (left slot new keys tally bound) slot' said
    → (let p = next_plan slot.seat.platform in SlotComesTo (parts_with_flight slot (code.Asks it)) slot'
    (event_turn (instance_in slot) (slot_in (parts_with_flight slot (code.Asks it)))
    (event_by (call_in (code.Asks it)) p.meddles (stop_at how (p.at + 1)))) said)
ask_broken how slot slot' it keys tally bound new n called said none few fits is breaks ends =
    let h = slot.seat.header in
    let f = call_of slot (code.Asks it) fits in
    let p = next_plan slot.seat.platform in
    let there = subst (λ (k : ℕ). FlightBreaksAs (ask_operation h.variant (meaning_of h.«module») it.asked.bytes (One it.asked.request))
    (TellsAsk (One it.asked.request)) it.call slot.seat.platform new (stop_at how k) called) (ask_next slot it n fits is) breaks in
    let t = asks_broken_off h.variant (meaning_of h.«module») it.asked.bytes (One it.asked.request) f.may.short it.call slot.seat.platform
    new (stop_at how (p.at + 1)) called there (rising_bytes_from slot.number) (rising_bytes_from (128 + slot.number))
    (digests_in (parts_with_flight slot (code.Asks it))) f.from slot.seat.issued.items p.meddles (p.at + 1) it.asked.offer f.flies
    f.may.offered (stopped_at how (p.at + 1)) in
    over_comes slot slot' (code.Asks it) keys tally bound f.from new (event_by (call_in (code.Asks it)) p.meddles (stop_at how (p.at + 1)))
    called
    said none few t ends

pub close_broken : (how : CallBreak) (slot slot' : Parts) (it : CheckpointInFlight) (keys : Unit {0}) (tally : Counted slot)
    (bound : Bounded slot) (new : Standing) (n : ℕ) (called : CallReport)
    (said : SlotReply) → slot.flight ≡ None → slot.seat.committed < 2 ^ 63 → PartsFit (parts_with_flight slot (code.Closes it))
    → n ≡ number_of 3 it.call
    → FlightBreaksAs checkpoint TellsCheckpoint it.call slot.seat.platform new (stop_at how n) called
    → CallEndsIn called (left slot new keys tally bound) slot' said
    → (let p = next_plan slot.seat.platform in SlotComesTo (parts_with_flight slot (code.Closes it)) slot'
    (event_turn (instance_in slot) (slot_in (parts_with_flight slot (code.Closes it)))
    (event_by (call_in (code.Closes it)) p.meddles (stop_at how (p.at + 1)))) said)
close_broken how slot slot' it keys tally bound new n called said none few fits is breaks ends =
    let h = slot.seat.header in
    let f = call_of slot (code.Closes it) fits in
    let p = next_plan slot.seat.platform in
    let there = subst (λ (k : ℕ). FlightBreaksAs checkpoint TellsCheckpoint it.call slot.seat.platform new (stop_at how k) called)
    (close_next slot it n fits is) breaks in
    let t = closes_broken_off it.call slot.seat.platform new (stop_at how (p.at + 1)) called there h.variant (meaning_of h.«module»)
    (rising_bytes_from slot.number) (rising_bytes_from (128 + slot.number)) (digests_in (parts_with_flight slot (code.Closes it))) f.from
    slot.seat.issued.items
    p.meddles (p.at + 1) f.flies (stopped_at how (p.at + 1)) in
    over_comes slot slot' (code.Closes it) keys tally bound f.from new
    (event_by (call_in (code.Closes it)) p.meddles (stop_at how (p.at + 1))) called
    said none few t ends

-- want of memory: the call is over, and nothing was done but that it has read
pub ask_lacks : (slot slot' : Parts) (it : AskInFlight) (memory : Memory) → PartsFit (parts_with_flight slot (code.Asks it))
    → AsksStep slot it slot'.seat.platform (Err memory)
    → slot'.seat.header ≡ slot.seat.header → slot'.number ≡ slot.number → slot'.seat.committed ≡ slot.seat.committed
    → slot'.flight ≡ None → slot'.seat.issued.items ≡ slot.seat.issued.items → HasRegister slot'
    → SlotLacksMemory action.Step (parts_with_flight slot (code.Asks it)) slot'
ask_lacks slot slot' it memory fits goes h n c none issued r =
    let f = call_of slot (code.Asks it) fits in
    let i = instance_in slot in
    let d = digests_in (parts_with_flight slot (code.Asks it)) in
    let new = slot'.seat.platform in
    let p = next_plan slot.seat.platform in
    let fates = (course_of (stop_behind (p.at + 1)) p.meddles).fates in
    let reads = reading_steps i.variant in
    let seen : Digests = state_after_moves (digest_level i) d (moves_seen fates reads 1) in
    let l : HasRead i d p.meddles (stop_behind (p.at + 1)) f.from new = asks_come slot it new (Err memory) fits goes in
    let count : seen.count ≡ d.count = count_none i (moves_seen fates reads 1) d (seen_none fates reads 1) in
    let rest = rests (parts_with_flight slot (code.Asks it)) slot' seen h n c none r count l.stands l.quiet in
    record {
      goes = rest.0;
      wants = λ j. record { digests = rest.1 j; issued = issued j; flight = ap (flight_in (next_plan new)) none j };
    }

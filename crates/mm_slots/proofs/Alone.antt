-- Each slot is where its own fold leaves it; and a run of slots takes events line by line. With it:
-- the calls of a slot that are over are a schedule, told by digests; the event of a line is in one
-- of the slots.
use Rattle.std.specs.Str.{bytes_eq}
use Rattle.mm_platform.specs.declared.plan.Stop.TheVariants as stop
use Rattle.mm_outcome.specs.Laws.{AgreesThroughout, BasicIsExpected, OptIsExpected, ExpectedRuns, SchedulesGoOn, outcome_joined_to}
use Rattle.mm_outcome.specs.Premises.{IsClearRun, IsGenuineRun}
use Rattle.mm_play.specs.Stage.{state_behind_events, replies, TakesEvents}
use Rattle.mm_slots.specs.declared.event.SlotAction.TheVariants as action
use Rattle.mm_slots.specs.Laws.{SlotsTellReplies, call_replies_in, call_replies_of}
use Rattle.mm_slots.specs.Stage.{slots_stage, event_at, index_at}
use Rattle.mm_slots.proofs.Below.{◌≡◌, ◌∙◌, ◌+◌, ◌==◌, ℕ, zero, suc, Bool, true, false, cond, List, [], ◌∷◌, ◌++◌, map, Option, Some, refl}
use Rattle.mm_slots.proofs.Below.{sym, ap, arith, append-nil, slice_get, option_map, option_map_or, eqb-true, append_assoc, Instance}
use Rattle.mm_slots.proofs.Below.{SlotAction, SlotEvent, Power, At, SlotReply, Tenant, SlotTurn, Meeting, Acts, Loses, turn_by_met}
use Rattle.mm_slots.proofs.Below.{turn_by_action, turn_over_all, Row, instance_of, row_after, items_by_place, rows_after_event}
use Rattle.mm_slots.proofs.Below.{is_cut_for_all, event_meetings, slot_meetings, SlotAnswer, PowerLost, Says, slot_replies_at, answers_to}
use Rattle.mm_slots.proofs.Below.{answers, slot_replies_for, SlotsAreAlone, length, None, ◌>>=◌, flat_map-append, answer_text, answers_text}
use Rattle.mm_slots.proofs.Below.{SlotsState, slots_steps, rows_after_all, subst, Variant, Basic, Opt, Batch, One, Meaning, first_history}
use Rattle.mm_slots.proofs.Below.{requests_of, is_long, Digests, digest_level, instance_by, Event, Offer, IsEventRun, RunOutcome}
use Rattle.mm_slots.proofs.Below.{outcome_of_events, outcome_by_lists, outcome_by_digests, offered_bytes, is_nothing, Flight}
use Rattle.mm_slots.proofs.Below.{turn_in_flight, begin_turn, step_turn, outcome_in, event_so_far, first_tenant, SlotIsOneRun, SlotsRun}
use Rattle.mm_slots.proofs.Below.{ap₂, if◌then◌else◌, flat_map, Ask, Reply, Begun, Going, Asks, first_flight, tenant_with_flight}
use Rattle.mm_slots.proofs.Below.{turn_saying, event_turn, ◌<◌, nat_le, codes, nat_tests, number_at, word_at, action_at, IsInside}

pub by_place_get : {A B : Type 0} (f : ℕ → A → B) (place : ℕ) (xs : List A) (n at : ℕ) → at ≡ place + n
    → slice_get (items_by_place f place xs) n ≡ option_map (f at) (slice_get xs n)
by_place_get f place [] n at e = refl
by_place_get f place (x ∷ xs) zero at e = let same : place ≡ at = omega (arith, e) in ap (λ (k : ℕ). Some (f k x)) same
by_place_get f place (x ∷ xs) (suc n) at e = by_place_get f (place + 1) xs n at (omega (arith, e))

-- the row of a slot behind one event
pub row_behind : (rows : List Row) (event : SlotEvent) (n : ℕ) (row : Row) → slice_get rows n ≡ Some row
    → slice_get (rows_after_event rows event) n ≡ Some (row_after row (event_meetings n rows event))
row_behind rows event n row is =
    by_place_get (λ number row. row_after row (event_meetings number rows event)) 0 rows n n (omega arith)
    ∙ ap (λ (found : Option Row). option_map (λ r. row_after r (event_meetings n rows event)) found) is

-- what comes first, and then the rest
abbrev pub followed_by : SlotTurn → SlotTurn → SlotTurn
followed_by first rest = record {
  slot = rest.slot;
  said = first.said ++ rest.said;
  events = first.events ++ rest.events;
  replies = first.replies ++ rest.replies;
}

followed_assoc : (a b c : SlotTurn) → followed_by a (followed_by b c) ≡ followed_by (followed_by a b) c
followed_assoc a b c = λ j. record {
  slot = c.slot;
  said = sym (append_assoc a.said b.said c.said) j;
  events = sym (append_assoc a.events b.events c.events) j;
  replies = sym (append_assoc a.replies b.replies c.replies) j;
}

-- a fold goes on from where it stands
pub folded_more : (i : Instance) (slot : Tenant) (xs ys : List Meeting)
    → turn_over_all i slot (xs ++ ys) ≡ followed_by (turn_over_all i slot xs) (turn_over_all i (turn_over_all i slot xs).slot ys)
folded_more i slot [] ys = refl
folded_more i slot (x ∷ xs) ys =
    let t = turn_by_met i slot x in
    ap (followed_by t) (folded_more i t.slot xs ys) ∙ followed_assoc t (turn_over_all i t.slot xs)
    (turn_over_all i (turn_over_all i t.slot xs).slot ys)

said_more : (n : ℕ) (xs ys : List SlotAnswer) → slot_replies_for n (xs ++ ys) ≡ slot_replies_for n xs ++ slot_replies_for n ys
said_more n [] ys = refl
said_more n (PowerLost ∷ xs) ys = said_more n xs ys
said_more n (Says other said ∷ xs) ys =
    ap (λ (rest : List SlotReply). cond (n == other) (said ∷ []) [] ++ rest) (said_more n xs ys)
    ∙ sym (append_assoc (cond (n == other) (said ∷ []) []) (slot_replies_for n xs) (slot_replies_for n ys))

-- what is said for the slot, and for another
said_own : (n other : ℕ) (said : List SlotReply) → (n == other) ≡ true → slot_replies_for n (map (Says other) said) ≡ said
said_own n other [] own = refl
said_own n other (first ∷ said) own = rw own (ap (λ (rest : List SlotReply). first ∷ rest) (said_own n other said own))

said_others : (n other : ℕ) (said : List SlotReply) → (n == other) ≡ false → slot_replies_for n (map (Says other) said) ≡ []
said_others n other [] own = refl
said_others n other (first ∷ said) own = rw own (said_others n other said own)

-- what is said for a slot at what happens in it, or in another
said_here : (rows : List Row) (n other : ℕ) (what : SlotAction) (row : Row) (own cuts : Bool) → slice_get rows n ≡ Some row
    → (n == other) ≡ own
    → slot_replies_for n (map (Says other) (slot_replies_at rows other what)) ≡
    (turn_over_all (instance_of row) row.slot (cond own (Acts what ∷ []) (cond cuts (Loses ∷ []) []))).said
said_here rows n other what row true cuts is own =
    let same : n ≡ other = eqb-true n other own in
    said_own n other (slot_replies_at rows other what) own ∙ ap (λ (k : ℕ). slot_replies_at rows k what) (sym same)
    ∙ ap (λ (found : Option Row). option_map_or (λ (r : Row). (turn_by_action (instance_of r) r.slot what).said) found []) is
    ∙ sym (append-nil (turn_by_action (instance_of row) row.slot what).said)
said_here rows n other what row false true is own = said_others n other (slot_replies_at rows other what) own
said_here rows n other what row false false is own = said_others n other (slot_replies_at rows other what) own

said_one : (rows : List Row) (event : SlotEvent) (n : ℕ) (row : Row) → slice_get rows n ≡ Some row
    → slot_replies_for n (answers_to rows event) ≡ (turn_over_all (instance_of row) row.slot (event_meetings n rows event)).said
said_one rows Power n row is = refl
said_one rows (At other what) n row is = said_here rows n other what row (n == other) (is_cut_for_all rows other what) is refl

pub alone : SlotsAreAlone
alone rows [] n row is = record { stands = is; said = refl }
alone rows (event ∷ events) n row is =
    let mets = event_meetings n rows event in
    let next = rows_after_event rows event in
    let later = slot_meetings n next events in
    let a = alone next events n (row_after row mets) (row_behind rows event n row is) in
    let split = folded_more (instance_of row) row.slot mets later in
    record {
      stands = a.stands ∙ ap (λ (t : SlotTurn). Some (record row { slot = t.slot })) (sym split);
      said = said_more n (answers_to rows event) (answers next events)
          ∙ ap (λ (front : List SlotReply). front ++ slot_replies_for n (answers next events)) (said_one rows event n row is)
          ∙ ap (λ (rest : List SlotReply). (turn_over_all (instance_of row) row.slot mets).said ++ rest) a.said
          ∙ ap (λ (t : SlotTurn). t.said) (sym split);
    }

-- what a reading has read
pub bound : {A B : Type 0} (x : Option A) (f : A → Option B) (y : B) → (x >>= f) ≡ Some y → (a : A) × (x ≡ Some a) × (f a ≡ Some y)
bound None f y h = cc
bound (Some a) f y h = (a, refl, h)

pub length-items_by_place : {A B : Type 0} (f : ℕ → A → B) (place : ℕ) (xs : List A) → length (items_by_place f place xs) ≡ length xs
length-items_by_place f place [] = refl
length-items_by_place f place (x ∷ xs) = ap (λ (n : ℕ). suc n) (length-items_by_place f (place + 1) xs)

pub takes : TakesEvents slots_steps slots_stage
takes = record {
  answers = λ r line. refl;
  reads = λ r event. ap event_at (length-items_by_place (λ k row. row_after row (event_meetings k r.rows event)) 0 r.rows);
  counts = λ r event. refl;
}

-- what stands behind events, and what was written
pub rows_behind : (events : List SlotEvent) (r : SlotsState) → (state_behind_events slots_steps r events).rows
    ≡ rows_after_all r.rows events
rows_behind [] r = refl
rows_behind (event ∷ events) r = rows_behind events (slots_steps.after r event)

pub texts_behind : (events : List SlotEvent) (r : SlotsState) → answers_text (answers r.rows events) ≡ replies slots_steps r events
texts_behind [] r = refl
texts_behind (event ∷ events) r =
    flat_map-append answer_text (answers_to r.rows event) (answers (rows_after_event r.rows event) events)
    ∙ ap (λ (text : List ℕ). answers_text (answers_to r.rows event) ++ text) (texts_behind events (slots_steps.after r event))

-- The calls of a slot that are over are a schedule, told by digests; and what is said for it has their replies.

abbrev told_from : Instance → Tenant → List Event → RunOutcome Digests
told_from i slot events = outcome_of_events i (digest_level i) slot.digests slot.issued events

-- The events that were completed lead by digests to where the slot stands, with these replies.
record Completes (i : Instance) (slot : Tenant) (it : SlotTurn) : Type 0 where
  state : (told_from i slot it.events).state ≡ it.slot.digests
  issued : (told_from i slot it.events).issued ≡ it.slot.issued
  replies : (told_from i slot it.events).replies ≡ it.replies

by_test : (P : SlotTurn → Type 0) (test : Bool) (one other : SlotTurn) → P one → P other → P (if test then one else other)
by_test P true one other first second = first
by_test P false one other first second = second

begun_by : (P : SlotTurn → Type 0) (i : Instance) (slot : Tenant) (offer : Offer) (batch : Batch) (bytes : Option (List ℕ))
    → P (event_turn i slot (Ask [] stop.Quiet offer batch))
    → P (turn_saying (tenant_with_flight slot (first_flight (Asks offer batch))) Begun)
    → P (begin_turn i slot offer batch bytes)
begun_by P i slot offer batch None refuses begins = refuses
begun_by P i slot offer batch (Some bytes) refuses begins =
    by_test P (is_long batch) (event_turn i slot (Ask [] stop.Quiet offer batch))
    (turn_saying (tenant_with_flight slot (first_flight (Asks offer batch))) Begun)
    refuses begins

stepped_by : (P : SlotTurn → Type 0) (i : Instance) (slot : Tenant) (flight : Flight)
    → P (turn_saying (tenant_with_flight slot (record flight { next = flight.next + 1 })) (Going (flight.next + 1)))
    → P (event_turn i slot (event_so_far flight))
    → P (step_turn i slot flight)
stepped_by P i slot flight =
    by_test P (is_nothing (outcome_in i slot (event_so_far flight)).reply)
    (turn_saying (tenant_with_flight slot (record flight { next = flight.next + 1 })) (Going (flight.next + 1)))
    (event_turn i slot (event_so_far flight))

action_completes : (i : Instance) (slot : Tenant) (flight : Option Flight) (what : SlotAction)
    → Completes i slot (turn_in_flight i slot flight what)
action_completes i slot None (action.Begin offer request) =
    begun_by (Completes i slot) i slot offer (One request) (offered_bytes slot.issued offer)
    (record { state = refl; issued = refl; replies = refl }) (record { state = refl; issued = refl; replies = refl })
action_completes i slot (Some flight) action.Step = stepped_by (Completes i slot) i slot flight
    (record { state = refl; issued = refl; replies = refl }) (record { state = refl; issued = refl; replies = refl })
action_completes i slot _ _ = record { state = refl; issued = refl; replies = refl }

met_completes : (i : Instance) (slot : Tenant) (met : Meeting) → Completes i slot (turn_by_met i slot met)
met_completes i slot (Acts what) = action_completes i slot slot.flight what
met_completes i slot Loses = record { state = refl; issued = refl; replies = refl }

completes_on : SchedulesGoOn → (i : Instance) (slot : Tenant) (first rest : SlotTurn) → Completes i slot first → Completes i first.slot rest
    → Completes i slot (followed_by first rest)
completes_on law i slot first rest c r =
    let f = told_from i slot first.events in
    let joins : told_from i slot (first.events ++ rest.events) ≡ outcome_joined_to f
    (outcome_of_events i (digest_level i) f.state f.issued rest.events) =
    (law i first.events rest.events first_history slot.digests slot.issued).1 in
    let same : outcome_of_events i (digest_level i) f.state f.issued rest.events ≡ told_from i first.slot rest.events =
    ap (λ (d : Digests). outcome_of_events i (digest_level i) d f.issued rest.events) c.state
    ∙ ap (λ (s : List (List ℕ)). outcome_of_events i (digest_level i) first.slot.digests s rest.events) c.issued in
    let whole : told_from i slot (first.events ++ rest.events) ≡ outcome_joined_to f (told_from i first.slot rest.events) = joins
    ∙ ap (outcome_joined_to f) same in
    record {
      state = ap (λ (t : RunOutcome Digests). t.state) whole ∙ r.state;
      issued = ap (λ (t : RunOutcome Digests). t.issued) whole ∙ r.issued;
      replies = ap (λ (t : RunOutcome Digests). t.replies) whole ∙ ap (λ rs. rs ++ (told_from i first.slot rest.events).replies) c.replies
          ∙ ap (λ rs. first.replies ++ rs) r.replies;
    }

completes : SchedulesGoOn → (i : Instance) (slot : Tenant) (mets : List Meeting) → Completes i slot (turn_over_all i slot mets)
completes law i slot [] = record { state = refl; issued = refl; replies = refl }
completes law i slot (met ∷ more) =
    let t = turn_by_met i slot met in
    completes_on law i slot t (turn_over_all i t.slot more) (met_completes i slot met) (completes law i t.slot more)

-- by digests a slot is told as expected, in either variant
agrees : BasicIsExpected → OptIsExpected → (variant : Variant) (meaning : Meaning) (key barrier : List ℕ) (events : List Event)
    → (let i = instance_by variant meaning key barrier in
    IsClearRun i events → IsGenuineRun i events → AgreesThroughout i (outcome_by_lists i events) (outcome_by_digests i events))
agrees basic opt Basic meaning key barrier events clear genuine = basic meaning key events clear genuine
agrees basic opt Opt meaning key barrier events clear genuine = opt meaning key barrier events clear genuine

slot_runs : (runs : ExpectedRuns) (i : Instance) (it : SlotTurn) → Completes i (first_tenant i) it
    → AgreesThroughout i (outcome_by_lists i it.events) (outcome_by_digests i it.events) → SlotIsOneRun i it
slot_runs runs i it c a =
    let requests = requests_of (outcome_by_lists i it.events).state.batches in
    let told : it.replies ≡ (outcome_by_lists i it.events).replies = sym c.replies ∙ a.replies in
    record {
      requests = requests;
      runs = subst (λ rs. IsEventRun i.meaning [] it.events rs requests) (sym told) (runs i it.events);
      judged = told;
      count = ap (λ (d : Digests). d.count) (sym c.state) ∙ a.stands.count;
      shown = sym c.issued ∙ a.issued;
    }

pub slots_run : BasicIsExpected → OptIsExpected → ExpectedRuns → SchedulesGoOn → SlotsRun
slots_run basic opt runs law variant meaning key barrier mets = λ clear genuine.
    let i = instance_by variant meaning key barrier in
    let it = turn_over_all i (first_tenant i) mets in
    slot_runs runs i it (completes law i (first_tenant i) mets) (agrees basic opt variant meaning key barrier it.events clear genuine)

abbrev TellsReplies : SlotTurn → Type 0
TellsReplies it = flat_map call_replies_in it.said ≡ flat_map call_replies_of it.replies

acted_tells : (i : Instance) (slot : Tenant) (flight : Option Flight) (what : SlotAction) → TellsReplies (turn_in_flight i slot flight what)
acted_tells i slot None (action.Begin offer request) =
    begun_by TellsReplies i slot offer (One request) (offered_bytes slot.issued offer) refl refl
acted_tells i slot (Some flight) action.Step = stepped_by TellsReplies i slot flight refl refl
acted_tells i slot _ _ = refl

turned_tells : (i : Instance) (slot : Tenant) (met : Meeting) → TellsReplies (turn_by_met i slot met)
turned_tells i slot (Acts what) = acted_tells i slot slot.flight what
turned_tells i slot Loses = refl

both_tell : (first rest : SlotTurn) → TellsReplies first → TellsReplies rest → TellsReplies (followed_by first rest)
both_tell first rest one other =
    flat_map-append call_replies_in first.said rest.said ∙ ap₂ (λ (a b : List Reply). a ++ b) one other
    ∙ sym (flat_map-append call_replies_of first.replies rest.replies)

pub tells_replies : SlotsTellReplies
tells_replies i slot [] = refl
tells_replies i slot (met ∷ mets) =
    both_tell (turn_by_met i slot met) (turn_over_all i (turn_by_met i slot met).slot mets) (turned_tells i slot met)
    (tells_replies i (turn_by_met i slot met).slot mets)

-- The event of a line is in one of the slots.

same_number : (slots number found : ℕ) (past : Bool) → nat_le slots number ≡ past
    → (let x : Option ℕ = if past then None else Some number in x ≡ Some found) → found < slots
same_number slots number found true is h = cc
same_number slots number found false is h = let same : number ≡ found = cc in grind (arith, nat_tests)

index_inside : (slots : ℕ) (word : List ℕ) (found : ℕ) → index_at slots word ≡ Some found → found < slots
unfolding index_at
index_inside slots word found h =
    let n = bound (number_at word) _ found h in same_number slots n.0 found (nat_le slots n.0) refl n.2

word_inside : (slots : ℕ) (word : Option (List ℕ × List ℕ)) (event : SlotEvent)
    → (word >>= λ w. index_at slots w.0 >>= λ n. action_at w.1 >>= λ what. Some (At n what)) ≡ Some event → IsInside slots event
word_inside slots word event h =
    let w = bound word _ event h in
    let n = bound (index_at slots w.0.0) _ event w.2 in
    let what = bound (action_at w.0.1) _ event n.2 in
    let e : Some (At n.0 what.0) ≡ Some event = what.2 in
    let same : At n.0 what.0 ≡ event = cc in
    subst (λ (e : SlotEvent). IsInside slots e) same (index_inside slots w.0.0 n.0 n.1)

power_inside : (slots : ℕ) (word : Option (List ℕ × List ℕ)) (event : SlotEvent) (power : Bool)
    → (let x : Option SlotEvent = if power then Some Power
    else (word >>= λ w. index_at slots w.0 >>= λ n. action_at w.1 >>= λ what. Some (At n what)) in x ≡ Some event) → IsInside slots event
power_inside slots word event true h = let same : Power ≡ event = cc in subst (λ (e : SlotEvent). IsInside slots e) same tt
power_inside slots word event false h = word_inside slots word event h

pub event_inside : (slots : ℕ) (line : List ℕ) (event : SlotEvent) → event_at slots line ≡ Some event → IsInside slots event
unfolding event_at
event_inside slots line event h = power_inside slots (word_at line) event (bytes_eq line (codes "power")) h

-- What slots among their events keep: how many requests and snapshots they count. With it: what all
-- slots count together, and their last lines; all slots lose their power, one after another; up to
-- the first event at which a slot's calls give evidence they are one run.
use Rattle.std.specs.List.{All, sum_by}
use Rattle.std.specs.Prelude.{take, drop, ◌++◌}
use Rattle.std.proofs.lemmas.List.Elements.{All-cons, All-head, All-nil, All-set, All-tail, All-weaker}
use Rattle.std.proofs.lemmas.List.Sums.{sum_by-le, sum_by_more}
use Rattle.std.proofs.lemmas.Option.{get_or_from_slice_get, slice_get-get_or, slice_get-map}
use Rattle.mm_platform.specs.Standing.{PowerCycles}
use Rattle.mm_call.specs.CallOutcome.{reading_steps, moves_seen}
use Rattle.mm_call.specs.WalkLaws.{seen_none}
use Rattle.mm_schedule.specs.Events.{Power as PowerLoss}
use Rattle.mm_outcome.specs.Premises.{IsClearRun, IsGenuineRun}
use Rattle.mm_evidence.specs.Evidence.{HasEvidence}
use Rattle.mm_evidence.proofs.Above.{AreDecided, fronts_longest, MeetsPremises, none_is_one, runs_decided, runs_until}
use Rattle.mm_replay.proofs.Above.{promised_run}
use Rattle.mm_slots.specs.declared.event.SlotAction.TheVariants as action
use Rattle.mm_slots.specs.Laws.{HasSlotEvidence, MeetsSlotPremises, OneRunOfSlotUntilEvidence, slot_turn_in, SlotFrontsAreLongest}
use Rattle.mm_slots.specs.Stage.{committed_count_in, issued_count_in, IsRunOfSlot}
use Rattle.mm_slots.specs.Tenant.{FlightLacksMemory, StepLacksMemory, first_tenant, tenant_instance, tenant_turn}
use Rattle.mm_slots.proofs.Alone.{folded_more}
use Rattle.mm_slots.proofs.Below.{◌≡◌, ◌∙◌, ◌+◌, ◌^◌, ◌≤◌, ◌<◌, ◌==◌, inl, inr, ℕ, zero, suc, Bool, true, false, cond, List, [], ◌∷◌}
use Rattle.mm_slots.proofs.Below.{length, Option, None, Some, Result, Ok, Err, OnOk, OnErr, refl, sym, ap, subst, arith, slice_get}
use Rattle.mm_slots.proofs.Below.{slice_set, most_events, most_members, Batch, One, Quiet, Instance, digest_level, state_after_moves}
use Rattle.mm_slots.proofs.Below.{course_of, few_committed, issues_one, count_none, stop_behind, offered_bytes, is_long, Offer, Event, Ask}
use Rattle.mm_slots.proofs.Below.{Extend, Header, SlotEvent, Power, At, SlotAction, IsWithin, KeepsAll, Row, row_after, items_by_place}
use Rattle.mm_slots.proofs.Below.{first_row, first_rows, rows_after_event, event_meetings, is_cut_for_all, RowsLackMemory}
use Rattle.mm_slots.proofs.Below.{OneRowLacksMemory, Tenant, Flight, SlotTurn, Meeting, Acts, Loses, instance_of, ActionLacksMemory}
use Rattle.mm_slots.proofs.Below.{turn_in_flight, begin_turn, event_by, tenant_with_flight, flight_with_meddle, first_flight, turn_saying}
use Rattle.mm_slots.proofs.Below.{event_turn, event_so_far, Going, is_nothing, outcome_in, stop_at, turn_by_met, Begun, SlotCall, Asks}
use Rattle.mm_slots.proofs.Below.{Closes, ◌*◌, get_or, append-nil, append_assoc, length-take-le, take_more, slot_end_line, end_lines}
use Rattle.mm_slots.proofs.Below.{within_64, IsCounted, map, take_more_set, drop_more, drop-set-lt, map-append, option_map, Standing}
use Rattle.mm_slots.proofs.Below.{new_platform, standing_after_cycle, Slots, selected_standing, slots_after_cycle, meaning_of}
use Rattle.mm_slots.proofs.Below.{rising_bytes_from, turn_over_all, rows_after_all, slot_meetings}
use Rattle.mm_slots.proofs.Telling.{premises_give, RunsAreDecided}

-- what one thing that a slot meets adds to its counts
record Grows (old new : Tenant) : Type 0 where
  few : new.digests.count ≤ old.digests.count + most_members
  short : length new.issued ≤ length old.issued + 1

plays_grows : (i : Instance) (slot : Tenant) (event : Event) → Grows slot (event_turn i slot event).slot
plays_grows i slot event = record {
  few = few_committed i slot.digests slot.issued event;
  short = issues_one i slot.digests slot.issued event;
}

flying_grows : (slot : Tenant) (flight : Option Flight) → Grows slot (record slot { flight = flight })
flying_grows slot flight = record { few = omega arith; short = omega arith }

either_grows : (slot : Tenant) (b : Bool) (one other : SlotTurn) → Grows slot one.slot → Grows slot other.slot
    → Grows slot (cond b one other).slot
either_grows slot true one other g h = g
either_grows slot false one other g h = h

begun_grows : (i : Instance) (slot : Tenant) (offer : Offer) (batch : Batch) (found : Option (List ℕ))
    → Grows slot (begin_turn i slot offer batch found).slot
begun_grows i slot offer batch None = plays_grows i slot (Ask [] Quiet offer batch)
begun_grows i slot offer batch (Some bytes) =
    either_grows slot (is_long batch) (event_turn i slot (Ask [] Quiet offer batch))
    (turn_saying (tenant_with_flight slot (first_flight (Asks offer batch))) Begun)
    (plays_grows i slot (Ask [] Quiet offer batch)) (flying_grows slot (Some (first_flight (Asks offer batch))))

acted_grows : (i : Instance) (slot : Tenant) (flight : Option Flight) (what : SlotAction)
    → Grows slot (turn_in_flight i slot flight what).slot
acted_grows i slot None (action.Begin offer request) = begun_grows i slot offer (One request) (offered_bytes slot.issued offer)
acted_grows i slot None action.Close = flying_grows slot (Some (first_flight Closes))
acted_grows i slot None action.Step = flying_grows slot slot.flight
acted_grows i slot None (action.Break how) = flying_grows slot slot.flight
acted_grows i slot None (action.Extend value) = plays_grows i slot (Extend value.bytes)
acted_grows i slot (Some flight) (action.Begin offer request) = flying_grows slot slot.flight
acted_grows i slot (Some flight) action.Close = flying_grows slot slot.flight
acted_grows i slot (Some flight) action.Step =
    let on = record flight { next = flight.next + 1 } in
    either_grows slot (is_nothing (outcome_in i slot (event_so_far flight)).reply)
    (turn_saying (tenant_with_flight slot on) (Going (flight.next + 1)))
    (event_turn i slot (event_so_far flight)) (flying_grows slot (Some on)) (plays_grows i slot (event_so_far flight))
acted_grows i slot (Some flight) (action.Break how) =
    plays_grows i slot (event_by flight.call flight.meddles (stop_at how flight.next))
acted_grows i slot (Some flight) (action.Extend value) = flying_grows slot (Some (flight_with_meddle flight value.bytes))

turned_grows : (i : Instance) (slot : Tenant) (met : Meeting) → Grows slot (turn_by_met i slot met).slot
turned_grows i slot (Acts what) = acted_grows i slot slot.flight what
turned_grows i slot Loses = plays_grows i slot PowerLoss

-- where memory was wanting

step_wants : (i : Instance) (flight : Flight) (call : SlotCall) (old new : Tenant) → StepLacksMemory i flight call old new → Grows old new
step_wants i flight (Asks offer batch) old new w =
    let moves = moves_seen (course_of (stop_behind flight.next) flight.meddles).fates (reading_steps i.variant) 1 in
    let read : (state_after_moves (digest_level i) old.digests moves).count ≡ old.digests.count =
    count_none i moves old.digests
    (seen_none (course_of (stop_behind flight.next) flight.meddles).fates (reading_steps i.variant) 1) in
    subst (Grows old) (sym w) (record { few = omega (arith, read); short = omega arith })
step_wants i flight Closes old new w = absurd w

flight_wants : (i : Instance) (flight : Option Flight) (old new : Tenant) → FlightLacksMemory i flight old new → Grows old new
flight_wants i None old new w = absurd w
flight_wants i (Some flight) old new w = step_wants i flight flight.call old new w

wants_grows : (i : Instance) (what : SlotAction) (old new : Tenant) → ActionLacksMemory i what old new → Grows old new
wants_grows i (action.Begin offer request) old new w = subst (Grows old) (sym w) (flying_grows old old.flight)
wants_grows i (action.Extend value) old new w = subst (Grows old) (sym w) (flying_grows old old.flight)
wants_grows i action.Step old new w = flight_wants i old.flight old new w
wants_grows i action.Close old new w = absurd w
wants_grows i (action.Break how) old new w = absurd w

-- the counts of all slots, behind one more event

grows_within : (events : ℕ) (row : Row) (slot : Tenant) → IsWithin events row → Grows row.slot slot
    → IsWithin (events + 1) (record row { slot = slot })
grows_within events row slot w g = record { few = omega (arith, w.few, g.few); short = omega (arith, w.short, g.short) }

met_within : (events : ℕ) (row : Row) (mets : List Meeting) → length mets ≤ 1 → IsWithin events row
    → IsWithin (events + 1) (row_after row mets)
met_within events row [] few w = grows_within events row row.slot w (flying_grows row.slot row.slot.flight)
met_within events row (met ∷ []) few w =
    grows_within events row (turn_by_met (instance_of row) row.slot met).slot w (turned_grows (instance_of row) row.slot met)
met_within events row (met ∷ other ∷ more) few w = absurd (omega (arith, few))

all_within : (events : ℕ) (f : ℕ → List Meeting) → ((k : ℕ) → length (f k) ≤ 1) → (place : ℕ) (rows : List Row)
    → All (IsWithin events) rows → All (IsWithin (events + 1)) (items_by_place (λ k row. row_after row (f k)) place rows)
all_within events f few place [] all = All-nil (IsWithin (events + 1))
all_within events f few place (row ∷ rows) all =
    All-cons (IsWithin (events + 1)) (row_after row (f place)) (items_by_place (λ k row. row_after row (f k)) (place + 1) rows)
    (met_within events row (f place) (few place) (All-head (IsWithin events) row rows all))
    (all_within events f few (place + 1) rows (All-tail (IsWithin events) row rows all))

one_met : (what : SlotAction) (own cuts : Bool) → length (cond own (Acts what ∷ []) (cond cuts (Loses ∷ []) [])) ≤ 1
one_met what true cuts = omega arith
one_met what false true = omega arith
one_met what false false = omega arith

met_few : (rows : List Row) (event : SlotEvent) (k : ℕ) → length (event_meetings k rows event) ≤ 1
met_few rows Power k = omega arith
met_few rows (At other what) k = one_met what (k == other) (is_cut_for_all rows other what)

after_within : (events : ℕ) (rows : List Row) (event : SlotEvent) → All (IsWithin events) rows
    → All (IsWithin (events + 1)) (rows_after_event rows event)
after_within events rows event all = all_within events (λ k. event_meetings k rows event) (met_few rows event) 0 rows all

within_at : (events n : ℕ) (rows : List Row) (row : Row) → slice_get rows n ≡ Some row → All (IsWithin events) rows → IsWithin events row
within_at events n [] row is all = cc
within_at events zero (first ∷ rows) row is all =
    let same : first ≡ row = cc in subst (IsWithin events) same (All-head (IsWithin events) first rows all)
within_at events (suc n) (first ∷ rows) row is all =
    within_at events n rows row is (All-tail (IsWithin events) first rows all)

later : (events : ℕ) (row : Row) → IsWithin events row → IsWithin (events + 1) row
later events row w = record { few = omega (arith, w.few); short = omega (arith, w.short) }

wants_within : (events number : ℕ) (what : SlotAction) (rows rows' : List Row) → OneRowLacksMemory number what rows rows'
    → All (IsWithin events) rows
    → All (IsWithin (events + 1)) rows'
wants_within events number what rows rows' w all =
    let one = grows_within events w.row w.slot (within_at events number rows w.row w.was all)
    (wants_grows (instance_of w.row) what w.row.slot w.slot w.wants) in
    subst (All (IsWithin (events + 1))) (sym w.now)
    (All-set (IsWithin (events + 1)) rows number (record w.row { slot = w.slot }) one
    (All-weaker (IsWithin events) (IsWithin (events + 1)) (later events) rows all))

-- as many as before

by_place_length : (f : ℕ → Row → Row) (place : ℕ) (rows : List Row) → length (items_by_place f place rows) ≡ length rows
by_place_length f place [] = refl
by_place_length f place (row ∷ rows) = ap (λ (n : ℕ). suc n) (by_place_length f (place + 1) rows)

set_length : (rows : List Row) (n : ℕ) (row : Row) → length (slice_set rows n row) ≡ length rows
set_length [] n row = refl
set_length (first ∷ rows) zero row = refl
set_length (first ∷ rows) (suc n) row = ap (λ (k : ℕ). suc k) (set_length rows n row)

pub keeps_on : (rows rows' : List Row) (events : ℕ) → KeepsAll rows events → events < most_events → length rows' ≡ length rows
    → All (IsWithin (events + 1)) rows' → KeepsAll rows' (events + 1)
keeps_on rows rows' events k few same all = record {
  within = all;
  some = omega (arith, k.some, same);
  most = omega (arith, k.most, same);
  few = omega (arith, few);
}

-- an event was followed, or memory was wanting

pub keeps_after : (rows rows' : List Row) (events : ℕ) (event : SlotEvent) → KeepsAll rows events → events < most_events
    → rows' ≡ rows_after_event rows event → KeepsAll rows' (events + 1)
keeps_after rows rows' events event k few is =
    keeps_on rows rows' events k few
    (ap (λ (x : List Row). length x) is ∙ by_place_length (λ number row. row_after row (event_meetings number rows event)) 0 rows)
    (subst (All (IsWithin (events + 1))) (sym is) (after_within events rows event k.within))

keeps_wanting : (rows rows' : List Row) (events : ℕ) (event : SlotEvent) → KeepsAll rows events → events < most_events
    → RowsLackMemory event rows rows' → KeepsAll rows' (events + 1)
keeps_wanting rows rows' events Power k few w = keeps_after rows rows' events Power k few w
keeps_wanting rows rows' events (At number what) k few (inl w) =
    keeps_on rows rows' events k few
    (ap (λ (x : List Row). length x) w.now ∙ set_length rows number (record w.row { slot = w.slot }))
    (wants_within events number what rows rows' w k.within)
keeps_wanting rows rows' events (At number what) k few (inr is) = keeps_after rows rows' events (At number what) k few is

-- what is written back through a slice of all slots
pub put_back : (n : ℕ) (rows rows' : List Row) → length rows ≡ length rows' → n ≡ length rows
    → take n (rows ++ drop (length rows) rows') ≡ rows
put_back zero [] [] e is = refl
put_back (suc n) (row ∷ rows) (row' ∷ rows') e is =
    ap (λ (l : List Row). row ∷ l) (put_back n rows rows' (omega (arith, e)) (omega (arith, is)))
put_back n rows rows' e is = absurd (cc)

pub keeps_following : {T E : Type 0} (result : Result T E) (rows rows' : List Row) (events : ℕ) (event : SlotEvent) → KeepsAll rows events
    → events < most_events → OnOk result (rows' ≡ rows_after_event rows event) → OnErr result (RowsLackMemory event rows rows')
    → KeepsAll rows' (events + 1)
keeps_following (Ok x) rows rows' events event k few is w = keeps_after rows rows' events event k few is
keeps_following (Err x) rows rows' events event k few is w = keeps_wanting rows rows' events event k few w

pub can_count : (rows : List Row) (events : ℕ) → KeepsAll rows events → All (λ (row : Row). row.slot.digests.count < 2 ^ 63) rows
can_count rows events k =
    let most = k.few in
    All-weaker (IsWithin events) (λ row. row.slot.digests.count < 2 ^ 63) (λ row w. let few = w.few in omega (arith, few, most)) rows
    k.within

-- all that they come to, within the limit
pub all_most : (rows : List Row) (events : ℕ) → KeepsAll rows events → All (IsWithin most_events) rows
all_most rows events k =
    let most = k.few in
    All-weaker (IsWithin events) (IsWithin most_events) (λ row w. let few = w.few in let short = w.short in record {
      few = omega (arith, few, most);
      short = omega (arith, short, most);
    }) rows k.within

-- slots at their first event

within_first : (place : ℕ) (headers : List Header) → All (IsWithin 0) (items_by_place first_row place headers)
within_first place [] = All-nil (IsWithin 0)
within_first place (header ∷ headers) =
    All-cons (IsWithin 0) (first_row place header) (items_by_place first_row (place + 1) headers)
    (record { few = omega arith; short = omega arith }) (within_first (place + 1) headers)

first_length : (place : ℕ) (headers : List Header) → length (items_by_place first_row place headers) ≡ length headers
first_length place [] = refl
first_length place (header ∷ headers) = ap (λ (n : ℕ). suc n) (first_length (place + 1) headers)

pub keeps_first : (headers : List Header) → 1 ≤ length headers → length headers ≤ 16 → KeepsAll (first_rows headers) 0
keeps_first headers some most = record {
  within = within_first 0 headers;
  some = omega (arith, some, first_length 0 headers);
  most = omega (arith, most, first_length 0 headers);
  few = omega arith;
}

-- What all slots count together, and their last lines.

pub requests_few : (rows : List Row) → All (IsWithin most_events) rows → committed_count_in rows
    ≤ length rows * (most_members * most_events)
requests_few rows all = sum_by-le (λ (row : Row). row.slot.digests.count) (most_members * most_events) rows
    (All-weaker (IsWithin most_events) (λ row. row.slot.digests.count ≤ most_members * most_events) (λ row w. w.few) rows all)

pub snapshots_few : (rows : List Row) → All (IsWithin most_events) rows → issued_count_in rows ≤ length rows * (most_events + 1)
snapshots_few rows all = sum_by-le (λ (row : Row). length row.slot.issued) (most_events + 1) rows
    (All-weaker (IsWithin most_events) (λ row. length row.slot.issued ≤ most_events + 1) (λ row w. w.short) rows all)

pub are_counted : (rows : List Row) → All (IsWithin most_events) rows → All IsCounted rows
are_counted rows all = All-weaker (IsWithin most_events) IsCounted (λ row w. let short = w.short in omega (arith, short)) rows all

-- the last lines

ends_more : (number : ℕ) (rows : List Row) (row : Row) → end_lines number (rows ++ row ∷ [])
    ≡ end_lines number rows ++ slot_end_line (number + length rows) row.slot.digests.count (length row.slot.issued)
ends_more number [] row =
    ap (λ (n : ℕ). slot_end_line n row.slot.digests.count (length row.slot.issued) ++ []) (omega arith) ∙ append-nil _
ends_more number (first ∷ rows) row =
    let line = slot_end_line number first.slot.digests.count (length first.slot.issued) in
    let last : ℕ → List ℕ = λ n. slot_end_line n row.slot.digests.count (length row.slot.issued) in
    let same : number + 1 + length rows ≡ number + length (first ∷ rows) = omega arith in
    ap (λ (rest : List ℕ). line ++ rest) (ends_more (number + 1) rows row)
    ∙ sym (append_assoc line (end_lines (number + 1) rows) (last (number + 1 + length rows)))
    ∙ ap (λ (n : ℕ). line ++ end_lines (number + 1) rows ++ last n) same

pub ends_on : (rows : List Row) (n number : ℕ) (d found : Row) (start before after : List ℕ) → n < length rows → number ≡ n
    → found ≡ get_or rows n d → before ≡ start ++ end_lines 0 (take n rows)
    → after ≡ before ++ slot_end_line number found.slot.digests.count (length found.slot.issued)
    → after ≡ start ++ end_lines 0 (take (n + 1) rows)
ends_on rows n number d found start before after few is here had ends =
    let row = get_or rows n d in
    let last : ℕ → List ℕ = λ k. slot_end_line k row.slot.digests.count (length row.slot.issued) in
    let e : after ≡ before ++ last number =
    ends ∙ ap (λ (r : Row). before ++ slot_end_line number r.slot.digests.count (length r.slot.issued)) here in
    let front = end_lines 0 (take n rows) in
    let size : 0 + length (take n rows) ≡ number = omega (arith, length-take-le n rows (omega (arith, few)), is) in
    e ∙ ap (λ (x : List ℕ). x ++ last number) had ∙ append_assoc start front (last number)
    ∙ ap (λ (x : List ℕ). start ++ x) (ap (λ (k : ℕ). front ++ last k) (sym size)
    ∙ sym (ends_more 0 (take n rows) row) ∙ ap (end_lines 0) (sym (take_more rows n d few)))

-- All slots lose their power, one after another.

-- so many slots have lost it, and the others are as they were
abbrev pub AreCycled : List Standing → List Standing → ℕ → Type 0
AreCycled before now i = (take i now ≡ map standing_after_cycle (take i before)) × (drop i now ≡ drop i before)

pub one_more : (before now : List Standing) (i : ℕ) (n x : Standing) → i < length now → i < length before
    → n ≡ standing_after_cycle (get_or now i x)
    → AreCycled before now i → AreCycled before (slice_set now i n) (i + 1)
one_more before now i n x few few' is are =
    let both : get_or now i x ∷ drop (i + 1) now ≡ get_or before i x ∷ drop (i + 1) before =
    sym (drop_more now i x few) ∙ are.1 ∙ drop_more before i x few' in
    let same : get_or now i x ≡ get_or before i x = cc in
    let rest : drop (i + 1) now ≡ drop (i + 1) before = cc in (
      take_more_set now i n few ∙ ap (λ (front : List Standing). front ++ n ∷ []) are.0
          ∙ ap (λ (y : Standing). map standing_after_cycle (take i before) ++ y ∷ []) (is ∙ ap standing_after_cycle same)
          ∙ sym (map-append standing_after_cycle (take i before) (get_or before i x ∷ [])) ∙ ap (map standing_after_cycle)
          (sym (take_more before i x few')),
      drop-set-lt (i + 1) now i n (omega arith) ∙ rest,
    )

-- the selected slot, once all have lost it
selected_cycled : (s : Slots) → s.selected < length s.slots → selected_standing (slots_after_cycle s) ≡ standing_after_cycle
    (selected_standing s)
selected_cycled s inside =
    let d : Standing = new_platform [] in
    get_or_from_slice_get (map standing_after_cycle s.slots) s.selected (standing_after_cycle (get_or s.slots s.selected d)) d
    (slice_get-map standing_after_cycle s.slots s.selected ∙ ap (λ found. option_map standing_after_cycle found)
    (slice_get-get_or s.slots s.selected d inside))

cycles : (old : Standing) → PowerCycles old (standing_after_cycle old) None
cycles old = record {
  is_emptied = true;
  cell = refl;
  items = refl;
  steps = refl;
  writes = refl;
  cycles = refl;
  room = omega arith;
  plan = refl;
  ends = (refl, refl, refl);
  told = λ _. refl;
}

pub cycles_selected : (old new : Slots) → new ≡ slots_after_cycle old → old.selected < length old.slots
    → PowerCycles (selected_standing old) (selected_standing new) None
cycles_selected old new is inside =
    subst (λ (s : Standing). PowerCycles (selected_standing old) s None) (sym (ap selected_standing is ∙ selected_cycled old inside))
    (cycles (selected_standing old))

-- Up to the first event at which a slot's calls give evidence they are one run.

meetings-append : (number : ℕ) (front later : List SlotEvent) (rows : List Row)
    → slot_meetings number rows (front ++ later) ≡ slot_meetings number rows front
    ++ slot_meetings number (rows_after_all rows front) later
meetings-append number [] later rows = refl
meetings-append number (event ∷ front) later rows =
    let here = event_meetings number rows event in
    ap (λ (mets : List Meeting). here ++ mets) (meetings-append number front later (rows_after_event rows event))
    ∙ sym (append_assoc here _ _)

module _ (headers : List Header) (number : ℕ) (header : Header) where
  abbrev i : Instance
  i = tenant_instance header number

  abbrev turn : List SlotEvent → SlotTurn
  turn events = slot_turn_in headers number header events

  -- what is over in the first events is over in all
  events-append : (front later : List SlotEvent)
      → (more : List Event) × ((turn (front ++ later)).events ≡ (turn front).events ++ more)
  events-append front later =
      let rows = first_rows headers in
      let first = slot_meetings number rows front in
      let rest = slot_meetings number (rows_after_all rows front) later in (
        (turn_over_all i (turn front).slot rest).events,
        ap (λ (mets : List Meeting). (tenant_turn header number mets).events) (meetings-append number front later rows)
            ∙ ap (λ (it : SlotTurn). it.events) (folded_more i (first_tenant i) first rest),
      )

  module _ (decided : RunsAreDecided) where
    known : AreDecided (HasSlotEvidence headers number header) (MeetsSlotPremises headers number header)
    known =
        let runs : AreDecided (HasEvidence i) (MeetsPremises i) =
        runs_decided i (decided header.variant (meaning_of header.«module») (rising_bytes_from number)
        (rising_bytes_from (128 + number))) in
        record { decided = λ events. runs.decided (turn events).events; apart = λ events. runs.apart (turn events).events }

    meets_front : ((j : Instance) (front later : List Event) → IsClearRun j (front ++ later) → IsClearRun j front)
        → ((j : Instance) (front later : List Event) → IsGenuineRun j (front ++ later) → IsGenuineRun j front)
        → (front later : List SlotEvent) → MeetsSlotPremises headers number header (front ++ later)
        → MeetsSlotPremises headers number header front
    meets_front clear genuine front later meets =
        let more = events-append front later in (
          clear i (turn front).events more.0 (subst (λ (es : List Event). IsClearRun i es) more.1 meets.0),
          genuine i (turn front).events more.0 (subst (λ (es : List Event). IsGenuineRun i es) more.1 meets.1),
        )

  -- where nothing was over yet
  none_over : IsRunOfSlot number header (turn [])
  none_over = promised_run header.variant header.«module» (rising_bytes_from number) (rising_bytes_from (128 + number)) [] _ (none_is_one i)

pub until_evidence : RunsAreDecided → OneRunOfSlotUntilEvidence
until_evidence decided headers events shown runs number header at =
    runs_until (HasSlotEvidence headers number header) (MeetsSlotPremises headers number header) (known headers number header decided)
    events (λ front. IsRunOfSlot number header (slot_turn_in headers number header front)) (none_over headers number header)
    (λ front later is meets. premises_give decided headers events shown runs front later is number header at meets.0 meets.1)

pub slot_fronts_longest : RunsAreDecided → ((j : Instance) (front later : List Event) → IsClearRun j (front ++ later) → IsClearRun j front)
    → ((j : Instance) (front later : List Event) → IsGenuineRun j (front ++ later) → IsGenuineRun j front) → SlotFrontsAreLongest
slot_fronts_longest decided clear genuine headers number header events front u =
    fronts_longest (HasSlotEvidence headers number header) (MeetsSlotPremises headers number header)
    (known headers number header decided) (meets_front headers number header decided clear genuine) events front u

-- Slots show of events what is told of whole slots.
use Rattle.mm_slots.proofs.Below.{◌≡◌, ◌∙◌, ◌≤◌, ◌<◌, ℕ, Bool, true, false, cond, ◌||◌, ◌==◌, List, [], ◌∷◌, ◌++◌, nat_lt, Option, None}
use Rattle.mm_slots.proofs.Below.{Some, refl, sym, ap, subst, arith, codes, slice_get, option_map, nat_tests, Header, rest_after_prefix}
use Rattle.mm_slots.proofs.Below.{number_at, rising_bytes_from, SlotEvent, end_lines, event_at, SlotsRun, slots_steps, kept_bytes_in, Row}
use Rattle.mm_slots.proofs.Below.{first_row, first_rows, answers, slot_meetings, rows_after_all, meaning_of}
use Rattle.mm_play.specs.Stage.{StageShows}
use Rattle.mm_replay.proofs.Above.{promised_run}
use Rattle.mm_slots.specs.Stage.{slot_count_at, AreSlotRuns, IsRunOfSlot, IsSlotRun, slots_player, first_slots_state, slots_heads}
use Rattle.mm_slots.specs.Stage.{slots_stage}
use Rattle.mm_call.specs.Standing.{instance_by}
use Rattle.mm_digest.specs.declared.variant.Variant.{Variant}
use Rattle.mm_evidence.specs.Laws.{IsDecidedRun}
use Rattle.mm_module.specs.Meaning.{Meaning}
use Rattle.mm_outcome.specs.Premises.{IsClearRun, IsGenuineRun}
use Rattle.mm_schedule.specs.Events.{Event}
use Rattle.std.proofs.Common.{append_assoc, inl, inr}
use Rattle.mm_slots.specs.Laws.{PremisesGiveSlotRuns, SlotsGoOn}
use Rattle.mm_slots.specs.Tenant.{tenant_turn, tenant_instance}
use Rattle.mm_slots.specs.Table.{rows_after_event, answers_to}
use Rattle.std.proofs.lemmas.List.{append-nil}
use Rattle.mm_slots.proofs.Below.{SlotAnswer, ◌+◌}
use Rattle.mm_slots.proofs.Alone.{alone, by_place_get, bound, length-items_by_place, takes, rows_behind, texts_behind}

-- each slot's row at first
first_at_place : (headers : List Header) (number : ℕ) (header : Header) → slice_get headers number ≡ Some header
    → slice_get (first_rows headers) number ≡ Some (first_row number header)
first_at_place headers number header is =
    by_place_get first_row 0 headers number number (omega arith) ∙ ap (λ (found : Option Header). option_map (first_row number) found) is

-- what is shown of events
abbrev pub shown_in : List Header → List SlotEvent → List SlotAnswer × List Row
shown_in headers events = (answers (first_rows headers) events, rows_after_all (first_rows headers) events)

-- each run meets the premises, or gives evidence
abbrev pub RunsAreDecided : Type 0
RunsAreDecided = (variant : Variant) (meaning : Meaning) (key barrier : List ℕ) (events : List Event)
    → IsDecidedRun (instance_by variant meaning key barrier) events

-- the calls of a slot that are over are one run, where the premises hold
slot_run : SlotsRun → (headers : List Header) (events : List SlotEvent) (number : ℕ) (header : Header)
    → (let it = tenant_turn header number (slot_meetings number (first_rows headers) events) in
    IsClearRun (tenant_instance header number) it.events → IsGenuineRun (tenant_instance header number) it.events
    → IsRunOfSlot number header it)
slot_run law headers events number header clear genuine =
    let key = rising_bytes_from number in
    let barrier = rising_bytes_from (128 + number) in
    let it = tenant_turn header number (slot_meetings number (first_rows headers) events) in
    promised_run header.variant header.«module» key barrier it.events
    (record { replies = it.replies; committed = it.slot.digests.count; issued = it.slot.issued })
    (law header.variant (meaning_of header.«module») key barrier (slot_meetings number (first_rows headers) events) clear genuine)

-- each slot's answers are its own, and its calls that are over are one run or give evidence
slot_told : SlotsRun → RunsAreDecided → (headers : List Header) (events : List SlotEvent) (number : ℕ) (header : Header)
    → slice_get headers number ≡ Some header
    → IsSlotRun number header (answers (first_rows headers) events)
    (tenant_turn header number (slot_meetings number (first_rows headers) events))
slot_told law decided headers events number header is = record {
  own = (alone (first_rows headers) events number (first_row number header) (first_at_place headers number header is)).said;
  unless_evidence =
      let it = tenant_turn header number (slot_meetings number (first_rows headers) events) in
      let d = decided header.variant (meaning_of header.«module») (rising_bytes_from number) (rising_bytes_from (128 + number)) it.events in
      elim d.decided [ inl p ↦ inl (slot_run law headers events number header p.0 p.1) | inr e ↦ inr e ];
}

-- the headline, of each slot and of each first part of the events
pub are_slot_runs : SlotsRun → RunsAreDecided → (headers : List Header) (events : List SlotEvent)
    → AreSlotRuns headers events (shown_in headers)
are_slot_runs law decided headers events front later split =
    (refl, λ number header is. slot_told law decided headers front number header is)

-- what follows of it

pub premises_give : RunsAreDecided → PremisesGiveSlotRuns
premises_give decided headers events shown runs front later is number header at clear genuine =
    let it = tenant_turn header number (slot_meetings number (first_rows headers) front) in
    let d = decided header.variant (meaning_of header.«module») (rising_bytes_from number) (rising_bytes_from (128 + number)) it.events in
    elim (((runs front later is).1 number header at).unless_evidence) [
      | inl run ↦ run
      | inr evidence ↦ absurd (d.apart clear genuine evidence)
    ]

answers-append : (front rest : List SlotEvent) (rows : List Row)
    → answers rows (front ++ rest) ≡ answers rows front ++ answers (rows_after_all rows front) rest
answers-append [] rest rows = refl
answers-append (event ∷ front) rest rows =
    ap (λ (said : List SlotAnswer). answers_to rows event ++ said) (answers-append front rest (rows_after_event rows event))
    ∙ sym (append_assoc (answers_to rows event) (answers (rows_after_event rows event) front) _)

after-append : (front rest : List SlotEvent) (rows : List Row)
    → rows_after_all rows (front ++ rest) ≡ rows_after_all (rows_after_all rows front) rest
after-append [] rest rows = refl
after-append (event ∷ front) rest rows = after-append front rest (rows_after_event rows event)

pub slots_go_on : SlotsGoOn
slots_go_on headers events shown runs front rest is =
    let rows = first_rows headers in
    let all = (runs events [] (sym (append-nil events))).0 in
    let first = (runs front rest is).0 in
    all ∙ ap (shown_in headers) is
    ∙ (λ j. (answers-append front rest rows j, after-append front rest rows j))
    ∙ ap (λ (it : List SlotAnswer × List Row). (it.0 ++ answers it.1 rest, rows_after_all it.1 rest)) (sym first)

pub shows : StageShows slots_player slots_heads slots_stage slots_steps first_slots_state shown_in
shows = record {
  takes = takes;
  leads = λ at line. refl;
  reads = λ headers. ap event_at (length-items_by_place first_row 0 headers);
  first = λ headers. refl;
  text = λ headers events. texts_behind events (first_slots_state headers);
  last = λ headers events. ap (λ (rows : List Row). end_lines 0 rows) (sym (rows_behind events (first_slots_state headers)));
  kept = λ headers events. ap kept_bytes_in (sym (rows_behind events (first_slots_state headers)));
}

-- the first line names 1 to 16 slots

counted_by_test : (number count : ℕ) (out : Bool) → (number == 0 || nat_lt 16 number) ≡ out
    → (let found : Option ℕ = cond out None (Some number) in found ≡ Some count) → (0 < count) × (count ≤ 16)
counted_by_test number count true is h = cc
counted_by_test number count false is h =
    let same : number ≡ count = cc in
    let both : (0 < number) × (number ≤ 16) = (grind (arith, nat_tests), grind (arith, nat_tests)) in
    subst (λ (n : ℕ). (0 < n) × (n ≤ 16)) same both

pub few_slots : (line : List ℕ) (count : ℕ) → slot_count_at line ≡ Some count → (0 < count) × (count ≤ 16)
unfolding slot_count_at
few_slots line count h =
    let word = bound (rest_after_prefix (codes "memoir slots 1 ") line) _ count h in
    let number = bound (number_at word.0) _ count word.2 in
    counted_by_test number.0 count (number.0 == 0 || nat_lt 16 number.0) refl number.2

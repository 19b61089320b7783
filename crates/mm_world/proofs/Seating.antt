-- What happens at a seat, by what its platform came to. With it: a checkpoint that a device's fault
-- broke off has closed its segment exactly where its third step was stopped, and had its effect.
use Rattle.std.specs.List.{sum_by}
use Rattle.std.specs.Result.{result_map_both}
use Rattle.std.proofs.lemmas.List.Sums.{sum_by-append}
use Rattle.mm_bytes.specs.Limits.{next_count}
use Rattle.mm_platform.specs.Standing.{Plan, Act, ReadRegister}
use Rattle.mm_machine.specs.OpSteps.{FindingEnds, breaks_off, goes_on, SightFinds, OpLooks, RoomIsMadeFor, OpWeighs}
use Rattle.mm_machine.specs.declared.call.OpResult.{OpResult}
use Rattle.mm_machine.specs.declared.call.OpResult.TheVariants.{Answered, Refused, Lacks, Broken}
use Rattle.mm_machine.specs.declared.operation.OpFinding.{OpFinding}
use Rattle.mm_machine.specs.declared.operation.OpFinding.TheVariants.{Repeat}
use Rattle.mm_machine.specs.declared.operation.Sight.{Sight}
use Rattle.mm_machine.specs.declared.operation.Sight.TheVariants as sight
use Rattle.mm_machine.specs.declared.reading.Halt.{Halt}
use Rattle.mm_machine.specs.declared.reading.Halt.TheVariants as halt
use Rattle.mm_call.specs.TellingLaws.{IsAt, then_at}
use Rattle.mm_opt.specs.Checkpoints.{closing_fault_of, closing_operation, result_of_end, sight_of, write_finding}
use Rattle.mm_opt.specs.declared.segment.Checkpointed.TheVariants.{NoSegment}
use Rattle.mm_opt.specs.declared.segment.CheckpointRefusal.TheVariants as refusal
use Rattle.mm_opt.specs.declared.segment.Segment.{Segment}
use Rattle.mm_opt.specs.declared.segment.Segment.TheVariants.{Open, Shut}
use Rattle.mm_schedule.specs.declared.event.Offer.{Offer}
use Rattle.mm_schedule.specs.declared.header.Header.{Header}
use Rattle.mm_flight.specs.Flight.{plan_by, standing_under, CallEndsUnder}
use Rattle.mm_outcome.specs.EventOffers.{offered_bytes}
use Rattle.mm_outcome.specs.Premises.{vain_event_outcome}
use Rattle.mm_world.specs.Calls.{has_closed_segment}
use Rattle.mm_world.specs.declared.call.CallReport.{CallReport}
use Rattle.mm_world.specs.declared.seat.Seat.{Seat}
use Rattle.mm_world.specs.Lengths.{length_if, within_64}
use Rattle.mm_world.specs.Seat.{IsOver, EndsCall, EventComesInVain, SeatStaysOn, SeatGoesOn, SeatLacksMemoryInVain, SeatTakesEvent}
use Rattle.mm_world.specs.Seat.{extended_standing, vain_event_refusal}
use Rattle.mm_world.specs.WorldStanding.{IsRead}
use Rattle.mm_world.proofs.Asking.{stands_read, stopped_at}
use Rattle.mm_world.proofs.Below.{◌≡◌, ℕ, ◌+◌, ◌-◌, ◌≤◌, ◌^◌, List, [], ◌∷◌, ◌++◌, length, Option, None, Some, Result, Ok, Err, refl, sym}
use Rattle.mm_world.proofs.Below.{ap, ◌∙◌, IfOk, subst, arith, append-nil, option_to_list, Memory, Batch, meaning_of, Meddle, Stop}
use Rattle.mm_world.proofs.Below.{Standing, Instance, Digests, digests_after, Foreign, Reply, Ask, Checkpoint, HasDigests, AsksPlanned}
use Rattle.mm_world.proofs.Below.{planned_ask, ChecksPlanned, refusal_of_fault, reads_beside, MatchResult, Variant, Meaning, Cell}
use Rattle.mm_world.proofs.Below.{CellFault, Refusal, CallComesInVain, read_only_outcome, quiet_call, digest_level, instance_by}
use Rattle.mm_world.proofs.Below.{vain_refusal, Event, Bool, true, false, ◌&&◌, ◌==◌, StepFault, StepGoes, ReadCell, fault_at, is_made_at}
use Rattle.mm_world.proofs.Below.{fault_by_plan, is_some, end_of, Said, CheckpointRefusal, stopped_step, takes_effect, checkpoint_reply}

-- the bytes that are kept, with one more snapshot

sum_more : (issued : List (List ℕ)) (snapshot : Option (List ℕ))
    → sum_by length (issued ++ option_to_list snapshot) ≡ sum_by length issued + length_if snapshot
sum_more issued None = sum_by-append length issued []
sum_more issued (Some bytes) =
    let one : sum_by length (bytes ∷ []) ≡ length bytes = omega arith in
    sum_by-append length issued (bytes ∷ []) ∙ ap (λ (n : ℕ). sum_by length issued + n) one

pub kept_more : (kept kept' : ℕ) (issued issued' : List (List ℕ)) (snapshot : Option (List ℕ)) → kept ≡ within_64 (sum_by length issued)
    → issued' ≡ issued ++ option_to_list snapshot → kept' ≡ within_64 (kept + length_if snapshot)
    → kept' ≡ within_64 (sum_by length issued')
kept_more kept kept' issued issued' snapshot is more e =
    subst (λ (x : List (List ℕ)). kept' ≡ within_64 (sum_by length x)) (sym more)
    (let sum = sum_more issued snapshot in omega (arith, is, e, sum))

-- a seat with its first cell and snapshot
pub over_same : (h : Header) (cell cell' snapshot snapshot' : List ℕ) (result : Result Seat Memory) → cell ≡ cell' → snapshot ≡ snapshot'
    → IfOk result (IsOver h cell snapshot) → IfOk result (IsOver h cell' snapshot')
over_same h cell cell' snapshot snapshot' result c s is =
    subst (λ (x : List ℕ). IfOk result (IsOver h cell' x)) s (subst (λ (x : List ℕ). IfOk result (IsOver h x snapshot)) c is)

-- a count that is kept in 64 bits
counted_same : (was count now : ℕ) → was ≤ 2 ^ 64 - 1 → count ≡ was → now ≡ was → now ≡ within_64 count
counted_same was count now fits same is = omega (arith, fits, same, is)

pub stands_extended : (i : Instance) (d : Digests) (value : List ℕ) (old : Standing) → HasDigests i old d
    → HasDigests i (extended_standing old value) (digests_after i d (Foreign value))
stands_extended i d value old s =
    stands_read i d old (extended_standing old value) _ s refl (reads_beside old.items (value ∷ []) d.register s.register)

-- a call that asks

module _ (meddles : List Meddle) (stop : Stop) (offer : Offer) (b : Batch) where
  -- where such an event doesn't go on with a cell, its call doesn't
  asks_vain : (h : Header) (read : Result Cell CellFault) (why : Refusal) → vain_event_refusal h (Ask meddles stop offer b) read ≡ Some why
      → vain_refusal h.variant (meaning_of h.«module»).id read ≡ Some why
  asks_vain h (Err fault) why e = e
  asks_vain h (Ok cell) why e = e

  abbrev Planned : Header → Standing → Standing → List (List ℕ) → Result CallReport Memory → Type 0
  Planned h old new lent result =
      AsksPlanned h.variant (meaning_of h.«module») old new lent (planned_ask meddles stop (offered_bytes lent offer) b) result

  -- a planned call in the words of the seat as it was before room was made
  planned_here : (old mid : Seat) (new new' : Standing) (lent : List (List ℕ)) (result : Result CallReport Memory)
      → SeatStaysOn old.platform old mid → lent ≡ mid.issued.items → new' ≡ new → Planned mid.header mid.platform new lent result
      → Planned old.header old.platform new' old.issued.items result
  planned_here old mid new new' lent result s same at asks =
      let issued = same ∙ s.issued in
      subst (λ (x : Header × Standing × Standing × List (List ℕ)). Planned x.0 x.1 x.2 x.3 result)
      (λ j. (s.header j, s.platform j, sym at j, issued j)) asks

  pub ask_comes : (old mid at new : Seat) (lent : List (List ℕ)) (it : CallReport) (said : Reply) → SeatStaysOn old.platform old mid
      → SeatStaysOn at.platform mid at → lent ≡ mid.issued.items → Planned mid.header mid.platform at.platform lent (Ok it)
      → EndsCall it at new said → SeatTakesEvent (Ask meddles stop offer b) old new (Ok said)
  ask_comes old mid at new lent it said s t same asks ends =
      let there = planned_here old mid at.platform new.platform lent (Ok it) s same ends.platform asks in
      let header = ends.header ∙ t.header ∙ s.header in
      let was = t.committed ∙ s.committed in
      let issued : new.issued.items ≡ old.issued.items ++ option_to_list it.snapshot =
      ends.issued ∙ ap (λ (x : List (List ℕ)). x ++ option_to_list it.snapshot) (t.issued ∙ s.issued) in
      record {
        header = header;
        own = λ key barrier d stands quiet count.
            let came = there.own key barrier d stands quiet in record {
              reply = ends.says ∙ came.reply;
              issued = issued ∙ came.issues;
              committed = ends.committed ∙ ap (λ (n : ℕ). within_64 (n + it.committed)) (was ∙ sym count) ∙ ap within_64 (sym came.counts);
              rises = (let more = came.counts in omega (arith, more, count));
              stands = came.stands;
              quiet = came.quiet;
              steps = came.steps;
              writes = came.writes;
            };
        closes = tt;
        vain = λ i d read why is vain.
            let came = there.vain i d read why is (asks_vain old.header read why vain) in record {
              reply = ends.says ∙ came.reply;
              issued = issued ∙ came.issues;
              committed = (let fits = old.fits in let none = came.committed in let now = ends.committed in
                  omega (arith, fits, none, now, was));
              cell = came.cell;
              register = came.register;
              quiet = came.quiet;
              steps = came.steps;
              writes = came.writes;
            };
      }

  stays_past : (old mid at : Seat) → SeatStaysOn old.platform old mid → SeatStaysOn at.platform mid at → SeatStaysOn at.platform old at
  stays_past old mid at s t = record {
    header = t.header ∙ s.header;
    platform = refl;
    issued = t.issued ∙ s.issued;
    kept = t.kept ∙ s.kept;
    committed = t.committed ∙ s.committed;
  }

  pub ask_lacks : (old mid at : Seat) (lent : List (List ℕ)) (memory : Memory) → SeatStaysOn old.platform old mid
      → SeatStaysOn at.platform mid at → lent ≡ mid.issued.items → Planned mid.header mid.platform at.platform lent (Err memory)
      → SeatTakesEvent (Ask meddles stop offer b) old at (Err memory)
  ask_lacks old mid at lent memory s t same asks =
      let there = planned_here old mid at.platform at.platform lent (Err memory) s same refl asks in
      let stays = stays_past old mid at s t in
      record {
        header = stays.header;
        own = λ key barrier d stands quiet count. (stays, there.own key barrier d stands quiet);
        closes = tt;
        vain = λ i d read why is vain. (stays, there.vain i d read why is (asks_vain old.header read why vain));
      }

-- a checkpoint

module _ (meddles : List Meddle) (stop : Stop) (old new : Seat) where
  abbrev event : Event
  event = Checkpoint meddles stop

  -- over the cell of any instance
  checks_on : (result : Result Reply Memory) (variant : Variant) (meaning : Meaning) (key barrier : List ℕ)
      → SeatStaysOn new.platform old new → ChecksPlanned old.platform new.platform old.issued.items meddles stop result
      → SeatGoesOn (instance_by variant meaning key barrier) event old new result
  checks_on (Ok said) variant meaning key barrier s planned = λ d stands quiet count.
      let fits = old.fits in
      let came = planned.own variant meaning key barrier d stands quiet in record {
        reply = came.reply;
        issued = s.issued;
        committed = counted_same old.committed _ new.committed fits (let same = came.counts in omega (arith, same, count)) s.committed;
        rises = (let same = came.counts in omega (arith, same, count));
        stands = came.stands;
        quiet = came.quiet;
        steps = came.steps;
        writes = came.writes;
      }
  checks_on (Err memory) variant meaning key barrier s planned =
      λ d stands quiet count. (s, planned.own variant meaning key barrier d stands quiet)

  -- over none
  checks_none : (result : Result Reply Memory) (i : Instance) (d : Digests) (read : Result Cell CellFault) (why : Refusal)
      → SeatStaysOn new.platform old new → ChecksPlanned old.platform new.platform old.issued.items meddles stop result
      → IsRead read d old.platform → vain_event_refusal old.header event read ≡ Some why
      → MatchResult result (EventComesInVain (vain_event_outcome (digest_level i) d old.issued.items why event) old new)
      (λ _. SeatStaysOn new.platform old new × SeatLacksMemoryInVain event old.platform new.platform)
  checks_none result i d (Ok cell) why s planned is vain = cc
  checks_none (Ok said) i d (Err fault) why s planned is vain =
      let known : refusal_of_fault fault ≡ why = cc in
      let came = subst (λ (w : Refusal). CallComesInVain (read_only_outcome (digest_level i) d old.issued.items meddles stop w)
      old.issued.items old.platform new.platform (quiet_call said)) known (planned.vain i d fault is) in record {
        reply = came.reply;
        issued = s.issued ∙ sym (append-nil old.issued.items) ∙ came.issues;
        committed = s.committed;
        cell = came.cell;
        register = came.register;
        quiet = came.quiet;
        steps = came.steps;
        writes = came.writes;
      }
  checks_none (Err memory) i d (Err fault) why s planned is vain = (s, planned.vain i d fault is)

  pub checks : (result : Result Reply Memory) → SeatStaysOn new.platform old new
      → ChecksPlanned old.platform new.platform old.issued.items meddles stop result → SeatTakesEvent event old new result
  checks result s planned = record {
    header = s.header;
    own = λ key barrier. checks_on result old.header.variant (meaning_of old.header.«module») key barrier s planned;
    closes = λ variant meaning key barrier. checks_on result variant meaning key barrier s planned;
    vain = λ i d read why is vain. checks_none result i d read why s planned is vain;
  }

-- A checkpoint that a device's fault broke off has closed its segment exactly where its third step was stopped, and had its effect.

-- whether the third step is stopped, and has its effect
abbrev pub closes_at : Stop → Bool
closes_at stop = (stopped_step stop == 3) && takes_effect stop

-- what is seen and found of a segment

seen_shut : (it : OpFinding Said) (segment : Result Segment CheckpointRefusal)
    → Ok (sight.Found it) ≡ result_map_both sight_of (λ why. why) segment → it ≡ Repeat NoSegment
seen_shut it (Ok Shut) e = cc
seen_shut it (Ok (Open cell)) e = absurd (cc)
seen_shut it (Err why) e = absurd (cc)

found_write : (it : OpFinding Said) (found : Result (List ℕ) CheckpointRefusal) → Ok it ≡ result_map_both write_finding (λ why. why) found
    → (next : List ℕ) × (it ≡ write_finding next)
found_write it (Ok next) e = (next, cc)
found_write it (Err why) e = absurd (cc)

module _ (stop : Stop) (meddles : List Meddle) where
  abbrev plan : Plan
  plan = plan_by stop meddles

  -- a step that fails is the one that is stopped
  stopped_number : (now next : Standing) (act : Act) (fault : StepFault) (made : ℕ) → IsAt now plan made
      → StepGoes act now next (Some fault)
      → stopped_step stop ≡ next_count made
  stopped_number now next act fault made is g =
      let n = next_count made in
      let at : Some fault ≡ fault_at stop n = (g.told (record plan { at = made }) is.planned).answers
      ∙ ap (λ on. fault_by_plan on (record plan { at = made })) is.is_on in
      (stopped_at stop n fault (is_made_at stop n) (ap (λ f. end_of f (is_made_at stop n)) (sym at))).number

  module _ (new : Standing) (fault : StepFault) (commits : Option ℕ) where
    abbrev Broke : Type 0
    Broke = is_some commits ≡ (stopped_step stop == 3)

    abbrev Ends : Result (OpFinding Said) (Halt CheckpointRefusal) → Standing → Type 0
    Ends found old = FindingEnds closing_operation found old new (Broken fault commits)

    by_halt : (found : Result (OpFinding Said) (Halt CheckpointRefusal)) (why : Halt CheckpointRefusal) (old : Standing) → found ≡ Err why
        → Ends found old → Ends (Err why) old
    by_halt found why old is e = subst (λ (x : Result (OpFinding Said) (Halt CheckpointRefusal)). Ends x old) is e

    -- it was broken off before its last step
    before : (it : StepFault) (old : Standing) (n : ℕ) → (n == 3) ≡ false → stopped_step stop ≡ n → Ends (Err (halt.Fault it)) old → Broke
    before it old n other at e =
        let none : commits ≡ None = cc in
        ap is_some none ∙ sym (ap (λ (k : ℕ). k == 3) at ∙ other)

    by_write : (next : List ℕ) (old : Standing) → IsAt old plan 2 → Ends (Ok (write_finding next)) old → Broke
    by_write next old is (goes_on middle g s) = let clash : Broken fault commits ≡ Answered _ = s.1 in absurd (cc)
    by_write next old is (breaks_off it g e) =
        let some : commits ≡ Some 0 = cc in
        ap is_some some ∙ sym (ap (λ (k : ℕ). k == 3) (stopped_number old new _ it 2 is g))

    by_weighed : (cell : Cell) (found given : Result (OpFinding Said) (Halt CheckpointRefusal)) (one two middle : Standing)
        → IsAt one plan 1
        → OpWeighs closing_operation cell one two found → RoomIsMadeFor found two middle given → Ends given middle → Broke
    by_weighed cell (Err (halt.Fault it)) given one two middle is w r e =
        before it middle 2 refl (stopped_number one two ReadRegister it 1 is w) (by_halt given (halt.Fault it) middle r.1 e)
    by_weighed cell (Err (halt.Refused why)) given one two middle is w r e =
        let f = by_halt given (halt.Refused why) middle r.1 e in absurd (cc)
    by_weighed cell (Err halt.Lacks) given one two middle is w r e = absurd w
    by_weighed cell (Ok it) given one two middle is w r e =
        let f = found_write it w.1.said.found w.1.said.gives in
        let room : RoomIsMadeFor (Ok (write_finding f.0)) two middle given =
        subst (λ (x : OpFinding Said). RoomIsMadeFor (Ok x) two middle given) f.1 r in
        by_write f.0 middle (subst (λ (s : Standing). IsAt s plan 2) (sym room.0) (then_at ReadRegister one two plan 1 is w.0))
        (subst (λ (x : Result (OpFinding Said) (Halt CheckpointRefusal)). Ends x middle) room.1 e)

    by_seen : (seen : Result (Sight Said) (Halt CheckpointRefusal)) (found : Result (OpFinding Said) (Halt CheckpointRefusal))
        (old one middle : Standing) → IsAt old plan 0 → OpLooks closing_operation old one seen
        → SightFinds closing_operation seen one middle found
        → Ends found middle → Broke
    by_seen (Err (halt.Fault it)) found old one middle is l on e =
        before it middle 1 refl (stopped_number old one ReadCell it 0 is l) (by_halt found (halt.Fault it) middle on.1 e)
    by_seen (Err (halt.Refused why)) found old one middle is l on e =
        let f = by_halt found (halt.Refused why) middle on.1 e in absurd (cc)
    by_seen (Err halt.Lacks) found old one middle is l on e = absurd l
    by_seen (Ok (sight.Found it)) found old one middle is l on e =
        let shut = seen_shut it l.1.said.found l.1.said.gives in
        let room : RoomIsMadeFor (Ok (Repeat NoSegment)) one middle found =
        subst (λ (x : OpFinding Said). RoomIsMadeFor (Ok x) one middle found) shut on in
        let f : Ends (Ok (Repeat NoSegment)) middle =
        subst (λ (x : Result (OpFinding Said) (Halt CheckpointRefusal)). Ends x middle) room.1 e in
        let clash : Broken fault commits ≡ Answered NoSegment = f.1 in absurd (cc)
    by_seen (Ok (sight.Cell cell)) found old one middle is l on e =
        by_weighed cell on.found found one on.middle middle (then_at ReadCell old one plan 0 is l.0) on.finds on.rooms e

-- what is told by how the machine ended is what is told by the stop

told_quiet : (stop : Stop) (why : CheckpointRefusal) → closing_fault_of why ≡ None → (one other : Bool)
    → checkpoint_reply stop one (Err why) ≡ checkpoint_reply stop other (Err why)
told_quiet stop (refusal.Device fault) quiet one other = let clash : Some fault ≡ None = quiet in absurd (cc)
told_quiet stop _ quiet one other = refl

told_answer : (stop : Stop) (it : Said) → checkpoint_reply stop false (Ok it) ≡ checkpoint_reply stop (closes_at stop) (Ok it)
told_answer stop NoSegment = refl
told_answer stop _ = refl

pub told_at : (stop : Stop) (meddles : List Meddle) (old new : Standing) (ended : OpResult Said CheckpointRefusal) → old.is_on ≡ true
    → ((why : CheckpointRefusal) → ended ≡ Refused why → closing_fault_of why ≡ None) → CallEndsUnder closing_operation old
    meddles stop new ended
    → checkpoint_reply stop (has_closed_segment stop ended) (result_of_end ended) ≡ checkpoint_reply stop (closes_at stop)
    (result_of_end ended)
told_at stop meddles old new (Answered it) on quiet f = told_answer stop it
told_at stop meddles old new (Refused why) on quiet f = told_quiet stop why (quiet why refl) false (closes_at stop)
told_at stop meddles old new Lacks on quiet f = refl
told_at stop meddles old new (Broken fault commits) on quiet f =
    let r = f.finds in
    let broke = by_seen stop meddles new fault commits r.seen f.found (standing_under (plan_by stop meddles) 0 old) r.middle f.middle
    (record { is_on = on; planned = refl }) r.looks r.on f.ends in
    ap (λ (x : Bool). checkpoint_reply stop (x && takes_effect stop) (Err (refusal.Device fault))) broke

-- A checkpoint over a platform goes by digests and by lists: the course that it took, and the trail of its steps.
use Rattle.mm_opt.proofs.Below.{◌≡◌, ℕ, Bool, true, false, List, [], ◌∷◌, map, Option, None, Some, Result, Ok, Err, refl, sym, ap, ◌∙◌}
use Rattle.mm_opt.proofs.Below.{subst, arith, ◌≤◌, ◌&&◌, is_some, IsSome, bytes_eq, fold, Variant, Basic, Opt, zero_bytes}
use Rattle.mm_opt.proofs.Below.{extended_digest_of, length-anchored_digest_of, IsCell, cell_spelling, reads_cell-same, Cell, CellFault}
use Rattle.mm_opt.proofs.Below.{Item, Standing, StepFault, Act, StepGoes, ReadCell, ReadRegister, WriteCell, Meaning, Long, Instance}
use Rattle.mm_opt.proofs.Below.{opt_instance, Close, Foreign, Digests, digests_of, DeviceStep, Writes, checkpoint_steps, AskResult, Refused}
use Rattle.mm_opt.proofs.Below.{Course, StepFate, walk, has_close, PlatformStaysOn, CheckpointEnding, checkpoint_ending}
use Rattle.mm_opt.proofs.Below.{checkpoint_ending_by, checkpoint_outcome, CheckpointsAgree, basic_checkpoints_agree, opt_checkpoints_agree}
use Rattle.mm_opt.proofs.Below.{state_after_moves, digest_level, list_level, instance_by, cell_at, items_after_move, StandsAt, stands_at}
use Rattle.mm_opt.proofs.Below.{stands_for, agrees_is, is_agrees, with_register, IsWrite, IsTrail, leads, stepped, trail_on, trail_fails}
use Rattle.mm_opt.proofs.Below.{trail_last, told_by, begins_at, course_by, fate_of, Tale, tale_on, reading_tale, Checkpointed}
use Rattle.mm_opt.proofs.Below.{CheckpointRefusal, Segment, Open, Shut, closing_fault_of, closing_fault_in, segment_by, segment_in}
use Rattle.mm_opt.proofs.Below.{closed_cell, FindsSegment, LooksAtSegment, WeighsRegister, ClosesSegment, CheckpointGoesBy}
use Rattle.mm_opt.proofs.Below.{IsCheckpointOnCourse, checkpoint_result, opt_call}
use Rattle.mm_model.specs.History.{Reads}
use Rattle.mm_model.specs.declared.refusal.Refusal.TheVariants.{Device as Faulted}
use Rattle.mm_call.specs.CallOutcome.{state_seen}
use Rattle.mm_call.specs.Standing.{StepIsMade}
use Rattle.mm_call.specs.Checkpoints.{Closes}
use Rattle.mm_call.specs.CallKind.{end_by_fault, is_broken}
use Rattle.mm_call.specs.declared.ended.AskResult.TheVariants.{Broken}
use Rattle.mm_opt.specs.Checkpoints.{FindsClosing}
use Rattle.mm_opt.specs.declared.segment.Checkpointed.TheVariants.{NoSegment}
use Rattle.mm_opt.specs.declared.segment.CheckpointRefusal.TheVariants as refusal
use Rattle.mm_opt.proofs.Accepting.{read_is, two_brought, seen_is}
use Rattle.mm_opt.proofs.Going.{few_acts}
use Rattle.mm_opt.proofs.Checkpointing.{closed_or, closed_fault, ClosingIs, closing_is, Each, each_closing}

-- The course

-- as a call that ended so, for what its plan tells
abbrev ended_as : Option StepFault → AskResult
ended_as fault = end_by_fault fault Long

broken_if : (fault : Option StepFault) → is_broken (ended_as fault) ≡ is_some fault
broken_if None = refl
broken_if (Some fault) = refl

last_tale : (fault : Option StepFault) (at : ℕ) → at ≤ 50 → (act : Act) (old new : Standing) (g : StepGoes act old new fault)
    → Tale (fate_of act old new fault g ∷ []) at old new (ended_as fault)
last_tale None at few act old new g =
    reading_tale act old new new new at few refl opt_call (Err Long) (Refused Long) g few_acts (refl, refl)
last_tale (Some fault) at few act old new g =
    reading_tale act old new new new at few refl opt_call (Err (Faulted fault)) (Broken fault None) g few_acts (refl, refl)

-- By digests

-- whether power was lost, by what a checkpoint sees
abbrev lost_on : Instance → Digests → Course → Bool
lost_on i d c = (digest_level i).is_lost (state_seen i (digest_level i) d c)

abbrev GoesBy : Instance → Digests → Course → Standing → Standing → Result Checkpointed CheckpointRefusal → Type 0
GoesBy i d c old new result = CheckpointGoesBy i d (checkpoint_outcome i (digest_level i) d c) old new result

-- A checkpoint whose steps made this trail
concluded : (i : Instance) (d : Digests) (c : Course) (steps : List DeviceStep) (old new : Standing) (fault : Option StepFault)
    (result : Result Checkpointed CheckpointRefusal) → StandsAt i old d → checkpoint_steps i.variant d.flag (lost_on i d c) ≡ steps
    → IsTrail i d c.fates 1 steps old new fault
    → ((closed : Bool) → result ≡ checkpoint_result
    (checkpoint_ending_by fault closed (checkpoint_ending i.variant d.flag (lost_on i d c))))
    → GoesBy i d c old new result
concluded i d c steps old new fault result s e t is =
    let all : List DeviceStep = checkpoint_steps i.variant d.flag (lost_on i d c) in
    let closed : Bool = has_close (walk c.fates 1 all).moves in
    let l = leads i d c.fates 1 all old new fault s (subst (λ (st : List DeviceStep). IsTrail i d c.fates 1 st old new fault) (sym e) t) in
    record {
      gives = is closed
          ∙ ap (λ (f : Option StepFault). checkpoint_result
          (checkpoint_ending_by f closed (checkpoint_ending i.variant d.flag (lost_on i d c)))) (sym l.broken);
      stands = l.stands;
      items = l.items;
      steps = l.steps;
      writes = l.writes;
    }

-- A step that fails, or after which no steps are left, is the last.
abbrev IsOver : List DeviceStep → CheckpointEnding → Option StepFault → Result Checkpointed CheckpointRefusal → Type 0
IsOver steps said fault result =
    (fault ≡ None → steps ≡ []) × ((closed : Bool) → result ≡ checkpoint_result (checkpoint_ending_by fault closed said))

over_refused : (why : CheckpointRefusal) (steps : List DeviceStep) (said : CheckpointEnding)
    → (closing_fault_of why ≡ None → (steps ≡ []) × (Err why ≡ checkpoint_result said)) → IsOver steps said (closing_fault_of why) (Err why)
over_refused (refusal.Device fault) steps said h = (λ (none : Some fault ≡ None). absurd (cc), λ closed. refl)
over_refused _ steps said h = (λ _. (h refl).0, λ closed. (h refl).1)

trail_over : (fault : Option StepFault) (i : Instance) (d : Digests) (fates : ℕ → StepFate) (n : ℕ) (step : DeviceStep)
    (steps : List DeviceStep)
    (old new : Standing) → (fault ≡ None → steps ≡ []) → StepIsMade i d (fates n) step old new fault
    → IsTrail i d fates n (step ∷ steps) old new fault
trail_over None i d fates n step steps old new over s = rw (over refl) (trail_last i d fates n step old new None s)
trail_over (Some fault) i d fates n step steps old new over s = trail_fails i d fates n step steps old new fault s

-- the steps of a checkpoint begin with a read; where a segment is open, with two
abbrev closing_steps : Bool → List DeviceStep
closing_steps true = []
closing_steps false = Writes Close ∷ []

abbrev later_steps : Variant → Bool → Bool → List DeviceStep
later_steps Opt true lost = Reads ∷ closing_steps lost
later_steps _ flag lost = []

first_reads : (variant : Variant) (flag lost : Bool) → checkpoint_steps variant flag lost ≡ Reads ∷ later_steps variant flag lost
first_reads Opt true true = refl
first_reads Opt true false = refl
first_reads Opt false lost = refl
first_reads Basic flag lost = refl

open_steps : (flag lost : Bool) → flag ≡ true → checkpoint_steps Opt flag lost ≡ Reads ∷ Reads ∷ closing_steps lost
open_steps flag lost is_open = first_reads Opt flag lost ∙ ap (λ (f : Bool). Reads ∷ later_steps Opt f lost) is_open

-- where the first step is the last
first_goes : (i : Instance) (d : Digests) (fault : Option StepFault) (old one : Standing) (result : Result Checkpointed CheckpointRefusal)
    (g : StepGoes ReadCell old one fault) → StandsAt i old d
    → ((lost : Bool) → IsOver (later_steps i.variant d.flag lost) (checkpoint_ending i.variant d.flag lost) fault result)
    → GoesBy i d (course_by (fate_of ReadCell old one fault g ∷ []) old false) old one result
first_goes i d fault old one result g s over =
    let c : Course = course_by (fate_of ReadCell old one fault g ∷ []) old false in
    let later : List DeviceStep = later_steps i.variant d.flag (lost_on i d c) in
    let o = over (lost_on i d c) in
    concluded i d c (Reads ∷ later) old one fault result s (first_reads i.variant d.flag (lost_on i d c))
    (trail_over fault i d c.fates 1 Reads later old one o.0 (stepped i d ReadCell Reads old one fault g tt)) o.1

-- the segment that is found
abbrev SegmentIs : Variant → Bool → Cell → Result Segment CheckpointRefusal → Type 0
SegmentIs variant flag cell (Err why) = (variant ≡ Basic) × (why ≡ refusal.Kind)
SegmentIs variant flag cell (Ok Shut) = (variant ≡ Opt) × (flag ≡ false)
SegmentIs variant flag cell (Ok (Open seen)) = (variant ≡ Opt) × (flag ≡ true) × (seen ≡ cell)

segment_is : (variant : Variant) (flag : Bool) (cell : Cell) → SegmentIs variant flag cell (segment_by variant flag cell)
segment_is Basic flag cell = (refl, refl)
segment_is Opt false cell = (refl, refl)
segment_is Opt true cell = (refl, refl, refl)

seen_segment : (i : Instance) (d : Digests) (old : Standing) (found : Result Segment CheckpointRefusal) → FindsSegment old found
    → StandsAt i old d → SegmentIs i.variant d.flag (cell_at i d) found
seen_segment i d old found f s =
    let same : f.sees.read ≡ Ok (cell_at i d) =
    reads_cell-same f.bytes f.sees.read (Ok (cell_at i d)) f.sees.reads (s.spells, f.told (cell_spelling (cell_at i d)) s.cell) in
    subst (SegmentIs i.variant d.flag (cell_at i d))
    (sym (f.sees.found_is ∙ ap (λ (r : Result Cell CellFault). segment_in r) same)) (segment_is i.variant d.flag (cell_at i d))

shows_closed : (flag : Bool) (i : Instance) (items : List Item) → items_after_move Opt flag i Close items ≡ items
shows_closed true i items = refl
shows_closed false i items = refl

-- the write that closes a segment
write_closed : (meaning : Meaning) (key barrier : List ℕ) (d : Digests) (next : List ℕ)
    → IsCell (cell_at (opt_instance meaning key barrier) d)
    → next ≡ closed_cell (cell_at (opt_instance meaning key barrier) d) d.register → IsWrite (opt_instance meaning key barrier) d next Close
write_closed meaning key barrier d next spells next_is = record {
  spells = record { summary = length-anchored_digest_of d.digest d.register; key = spells.key; barrier = spells.barrier; variant = tt };
  cell = next_is;
  register = refl;
  shows = λ (items : List Item). shows_closed d.flag (opt_instance meaning key barrier) items;
}

closed_told : (fault : Option StepFault) (closed : Bool) → closed_or fault ≡ checkpoint_result (checkpoint_ending_by fault closed Closes)
closed_told None closed = refl
closed_told (Some fault) closed = refl

-- where a segment is open
module _ (meaning : Meaning) (key barrier : List ℕ) (d : Digests) (old one two : Standing) (cell : Cell)
    (s : StandsAt (opt_instance meaning key barrier) old d) (is_open : d.flag ≡ true) (l : LooksAtSegment old one (Ok (Open cell))) where
  abbrev I : Instance
  I = opt_instance meaning key barrier

  abbrev then : Digests
  then = state_after_moves (digest_level I) d (map Foreign l.goes.others)

  -- the register was read
  abbrev on : (fault : Option StepFault) → StepGoes ReadRegister one two fault → List StepFate → Course
  on fault g rest = course_by (fate_of ReadCell old one None l.goes ∷ fate_of ReadRegister one two fault g ∷ rest) old false

  abbrev value : List (List ℕ) → List ℕ
  value others = fold extended_digest_of (fold extended_digest_of d.register l.goes.others) others

  -- power was lost where it reads zero
  found_is : (fault : Option StepFault) (g : StepGoes ReadRegister one two fault) (rest : List StepFate)
      (found : Result (List ℕ) CheckpointRefusal)
      (f : FindsClosing cell two found) → ClosingIs (lost_on I d (on fault g rest)) cell f.register found
  found_is fault g rest found f =
      let lost : lost_on I d (on fault g rest) ≡ bytes_eq f.register zero_bytes =
      ap (λ (y : Digests). y.flag && bytes_eq y.register zero_bytes)
      (seen_is I d l.goes.others g.others ∙ two_brought I d l.goes.others g.others)
      ∙ rw (is_open, read_is meaning key barrier d old one two fault l.goes g f.register s f.told) refl in
      rw (lost, f.found_is) (closing_is (bytes_eq f.register zero_bytes) cell f.register)

  later_goes : (why : CheckpointRefusal) (w : WeighsRegister cell one two (Err why))
      → GoesBy I d (on (closing_fault_of why) w.goes []) old two (Err why)
  later_goes why w =
      let fault : Option StepFault = closing_fault_of why in
      let c : Course = on fault w.goes [] in
      let lost : Bool = lost_on I d c in
      let over = over_refused why (closing_steps lost) (checkpoint_ending Opt d.flag lost) (λ (quiet : closing_fault_of why ≡ None).
      let r = found_is fault w.goes [] (Err why) (w.finds quiet) in
      rw (r.0, is_open, r.1) (refl, refl)) in
      concluded I d c (Reads ∷ Reads ∷ closing_steps lost) old two fault (Err why) s (open_steps d.flag lost is_open)
      (trail_on I d c.fates 1 Reads (Reads ∷ closing_steps lost) old one two fault (stepped I d ReadCell Reads old one None l.goes tt)
      (trail_over fault I then c.fates 2 Reads (closing_steps lost) one two over.0
      (stepped I then ReadRegister Reads one two fault w.goes tt))) over.1

  closed_goes : (next : List ℕ) (w : WeighsRegister cell one two (Ok next)) → cell ≡ cell_at I d
      → (new : Standing) (fault : Option StepFault)
      (g : StepGoes (WriteCell next) two new fault)
      → GoesBy I d (on None w.goes (fate_of (WriteCell next) two new fault g ∷ [])) old new (closed_or fault)
  closed_goes next w mine new fault g =
      let c : Course = on None w.goes (fate_of (WriteCell next) two new fault g ∷ []) in
      let f = w.finds refl in
      let r = found_is None w.goes (fate_of (WriteCell next) two new fault g ∷ []) (Ok next) f in
      let both : Digests = state_after_moves (digest_level I) then (map Foreign w.goes.others) in
      let writes : IsWrite I both next Close = subst (λ (e : Digests). IsWrite I e next Close)
      (sym (two_brought I d l.goes.others w.goes.others))
      (write_closed meaning key barrier (with_register d (value w.goes.others)) next s.spells
      (r.1 ∙ (λ j. closed_cell (mine j) (read_is meaning key barrier d old one two None l.goes w.goes f.register s f.told j)))) in
      concluded I d c (Reads ∷ Reads ∷ Writes Close ∷ []) old new fault (closed_or fault) s
      (open_steps d.flag (lost_on I d c) is_open ∙ ap (λ (t : Bool). Reads ∷ Reads ∷ closing_steps t) r.0)
      (trail_on I d c.fates 1 Reads (Reads ∷ Writes Close ∷ []) old one new fault (stepped I d ReadCell Reads old one None l.goes tt)
      (trail_on I then c.fates 2 Reads (Writes Close ∷ []) one two new fault (stepped I then ReadRegister Reads one two None w.goes tt)
      (trail_last I both c.fates 3 (Writes Close) two new fault
      (stepped I both (WriteCell next) (Writes Close) two new fault g writes))))
      (λ closed. closed_told fault closed
      ∙ sym (λ j. checkpoint_result (checkpoint_ending_by fault closed (checkpoint_ending Opt (is_open j) (r.0 j)))))

-- In either variant, by digests and by lists

abbrev GoesOn : Standing → Standing → Result Checkpointed CheckpointRefusal → List StepFate → Type 0
GoesOn old new result fates =
    (variant : Variant) (meaning : Meaning) (key barrier : List ℕ) (d : Digests) → StandsAt (instance_by variant meaning key barrier) old d
    → GoesBy (instance_by variant meaning key barrier) d (course_by fates old false) old new result

-- only Opt has open segments
found_open : (old one new : Standing) (cell : Cell) (result : Result Checkpointed CheckpointRefusal) (fates : List StepFate)
    → LooksAtSegment old one (Ok (Open cell))
    → ((meaning : Meaning) (key barrier : List ℕ) (d : Digests) → StandsAt (opt_instance meaning key barrier) old d → d.flag ≡ true
    → cell ≡ cell_at (opt_instance meaning key barrier) d
    → GoesBy (opt_instance meaning key barrier) d (course_by fates old false) old new result) → GoesOn old new result fates
found_open old one new cell result fates l goes Basic meaning key barrier d s =
    let clash : Basic ≡ Opt = (seen_segment (instance_by Basic meaning key barrier) d old (Ok (Open cell)) (l.finds refl) s).0 in
    absurd (cc)
found_open old one new cell result fates l goes Opt meaning key barrier d s =
    let e = seen_segment (opt_instance meaning key barrier) d old (Ok (Open cell)) (l.finds refl) s in goes meaning key barrier d s e.1 e.2

agree : (variant : Variant) (meaning : Meaning) (key barrier : List ℕ) → CheckpointsAgree (instance_by variant meaning key barrier)
agree Basic meaning key barrier = basic_checkpoints_agree meaning key
agree Opt meaning key barrier = opt_checkpoints_agree meaning key barrier

checks_by : (old new : Standing) (fault : Option StepFault) (result : Result Checkpointed CheckpointRefusal) (fates : List StepFate)
    → closing_fault_in result ≡ fault → Tale fates 0 old new (ended_as fault) → GoesOn old new result fates
    → IsCheckpointOnCourse old new result
checks_by old new fault result fates e t goes = record {
  course = course_by fates old false;
  tells = told_by old fates (λ plan is_on known at. t.met_all plan (begins_at old plan is_on known at));
  goes = goes;
  continues = λ variant meaning key barrier y all others asked s a.
      let i : Instance = instance_by variant meaning key barrier in
      let c : Course = course_by fates old false in
      let d : Digests = digests_of i y in
      let same = agree variant meaning key barrier all others asked y d c (is_agrees i y d refl) a in
      let g = goes variant meaning key barrier d (stands_at i old y s) in
      record {
        gives = g.gives ∙ ap checkpoint_result same.ending;
        stands = stands_for i new (checkpoint_outcome i (list_level i) y c).state
            (subst (λ (x : Digests). StandsAt i new x)
            (agrees_is i (checkpoint_outcome i (list_level i) y c).state (checkpoint_outcome i (digest_level i) d c).state same.agrees)
            g.stands);
        within = same.within;
      };
  plans = λ plan is_on known at.
      subst (λ (b : Bool). PlatformStaysOn plan.stop b new × IsSome new.plan) (broken_if fault ∙ ap is_some (sym e))
      (t.stays plan (begins_at old plan is_on known at));
}

each_checks : (old : Standing) → Each old (IsCheckpointOnCourse old)
each_checks old = record {
  refuses = λ why one l.
      let fault : Option StepFault = closing_fault_of why in
      checks_by old one fault (Err why) (fate_of ReadCell old one fault l.goes ∷ []) refl
      (last_tale fault 0 (omega arith) ReadCell old one l.goes)
      (λ variant meaning key barrier d s.
      let i : Instance = instance_by variant meaning key barrier in
      first_goes i d fault old one (Err why) l.goes s (λ lost. over_refused why (later_steps i.variant d.flag lost)
      (checkpoint_ending i.variant d.flag lost) (λ quiet.
      let e = seen_segment i d old (Err why) (l.finds quiet) s in rw (e.0, e.1) (refl, refl))));
  shut = λ one l. checks_by old one None (Ok NoSegment) (fate_of ReadCell old one None l.goes ∷ []) refl
      (last_tale None 0 (omega arith) ReadCell old one l.goes)
      (λ variant meaning key barrier d s.
      let i : Instance = instance_by variant meaning key barrier in
      let e = seen_segment i d old (Ok Shut) (l.finds refl) s in
      first_goes i d None old one (Ok NoSegment) l.goes s (λ lost. rw (e.0, e.1) (λ _. refl, λ closed. refl)));
  later_refuses = λ why cell one two l w.
      let fault : Option StepFault = closing_fault_of why in
      let fates : List StepFate = fate_of ReadCell old one None l.goes ∷ fate_of ReadRegister one two fault w.goes ∷ [] in
      checks_by old two fault (Err why) fates refl
      (tale_on ReadCell old one one two (fate_of ReadRegister one two fault w.goes ∷ []) 0 (ended_as fault) (omega arith) l.goes refl
      (last_tale fault 1 (omega arith) ReadRegister one two w.goes))
      (found_open old one two cell (Err why) fates l
      (λ meaning key barrier d s e mine. later_goes meaning key barrier d old one two cell s e l why w));
  closes = λ fault cell next one two new l w g.
      let last : List StepFate = fate_of (WriteCell next) two new fault g ∷ [] in
      let later : List StepFate = fate_of ReadRegister one two None w.goes ∷ last in
      checks_by old new fault (closed_or fault) (fate_of ReadCell old one None l.goes ∷ later) (closed_fault fault)
      (tale_on ReadCell old one one new later 0 (ended_as fault) (omega arith) l.goes refl
      (tale_on ReadRegister one two two new last 1 (ended_as fault) (omega arith) w.goes refl
      (last_tale fault 2 (omega arith) (WriteCell next) two new g)))
      (found_open old one new cell (closed_or fault) (fate_of ReadCell old one None l.goes ∷ later) l
      (λ meaning key barrier d s e mine. closed_goes meaning key barrier d old one two cell s e l next w mine new fault g));
}

pub checks_on : (old new : Standing) (result : Result Checkpointed CheckpointRefusal) → ClosesSegment old new result
    → IsCheckpointOnCourse old new result
checks_on old = each_closing old (IsCheckpointOnCourse old) (each_checks old)

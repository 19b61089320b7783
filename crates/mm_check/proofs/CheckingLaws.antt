-- From a run over lines to what the whole recorded run is told. With it: lines compared one by one
-- tell the first difference of the whole lists.
use Rattle.std.specs.Io.KnownBytes.{Appends}
use Rattle.std.proofs.lemmas.Bool.{le-ltb, lt-ltb}
use Rattle.mm_base.specs.Input.{lines_of, tail_of}
use Rattle.mm_base.specs.declared.replay_fault.ReplayFault.{ReplayFault}
use Rattle.mm_base.specs.declared.replay_fault.ReplayFault.TheVariants.{Memory, ReadFault, WriteFault, BadLine, LineLong, TooMuch}
use Rattle.mm_schedule.specs.Events.{event_at}
use Rattle.mm_schedule.specs.Headers.{header_at}
use Rattle.mm_play.specs.Headline.{no_answer, stream_standing}
use Rattle.mm_play.specs.PlaysInput.{PlayOutcome, play_outcome, stopped_outcome, refusal_at, outcome_of_answer, outcome_at_end}
use Rattle.mm_play.specs.PlaysInput.{outcome_of_tail, outcome_then, outcome_of_lines, HoldsOfWhole, AnswerFits, PlaysInput, IsBlamed}
use Rattle.mm_play.specs.PlaysInput.{is_write_fault}
use Rattle.mm_play.specs.declared.player.LineRefusal.{LineRefusal}
use Rattle.mm_play.specs.declared.player.LineRefusal.TheVariants.{Bad}
use Rattle.mm_check.specs.Checks.{IsChecked, AreTested, check_of_lines, check_of_input, JudgeSettles, JudgePromise, ChecksRunBy, ChecksRun}
use Rattle.mm_check.specs.CheckStage.{answer_to_recorded_line}
use Rattle.mm_check.specs.CheckStageLaws.{compared, headed_by, reads}
use Rattle.mm_check.specs.declared.verdicts.Agreement.TheVariants.{Differ}
use Rattle.mm_check.proofs.Below.{◌≡◌, ◌∙◌, ℕ, zero, suc, ◌+◌, ◌<◌, ◌≤◌, Bool, true, false, cond, List, [], ◌∷◌, ◌++◌, length, map, drop}
use Rattle.mm_check.proofs.Below.{Option, None, Some, refl, sym, ap, subst, arith, fold, slice_get, bytes_eq, nat_tests, drop_all, Header}
use Rattle.mm_check.proofs.Below.{Event, world_of, DecidesPremise, expected_lines, ComparedRun, is_line, first_number_of}
use Rattle.mm_check.proofs.Below.{compared_run_after, difference_from, first_difference, is_found, end_difference, agreement_of}
use Rattle.mm_check.proofs.Below.{AreVerdicts, AreVerdictsOn, Verdicts, nat_lt, not, Result, Ok, Err, append_assoc, append-nil, inl, inr}
use Rattle.mm_check.proofs.Below.{longest_line, plays_ok, plays_err, not_ok, ok_same, outcome_of, RecordedRun, first_recorded_run}
use Rattle.mm_check.proofs.Below.{with_event, first_compared_run, CheckStage, AtHeader, InEvents, InReplies, answer_to_header}
use Rattle.mm_check.proofs.Below.{answer_to_line, check_answer, check_closing, for_whole, StageConcludes, run_lines}

-- Lines compared one by one tell the first difference of the whole lists.

abbrev pub with_end : List ℕ → List ℕ
with_end line = line ++ 10 ∷ []

-- the lines from one on, which may be missing
abbrev with_line : Option (List ℕ) → List (List ℕ) → List (List ℕ)
with_line None rest = []
with_line (Some line) rest = line ∷ rest

drop_at : (xs : List (List ℕ)) (k : ℕ) → drop k xs ≡ with_line (slice_get xs k) (drop (k + 1) xs)
drop_at [] zero = refl
drop_at [] (suc k) = refl
drop_at (x ∷ xs) zero = refl
drop_at (x ∷ xs) (suc k) =
    let next : suc (k + 1) ≡ suc k + 1 = omega arith in
    drop_at xs k ∙ ap (λ (n : ℕ). with_line (slice_get xs k) (drop n (x ∷ xs))) next

-- two lists, line by line

found_by : (found : Option (List ℕ)) (b : List ℕ) (t e : List (List ℕ)) (n : ℕ)
    → difference_from n (with_line found t) (b ∷ e) ≡ cond (is_found found b) (difference_from (n + 1) t e) (Some n)
found_by None b t e n = refl
found_by (Some line) b t e n = refl

differ_at : (t e : List (List ℕ)) (i n : ℕ) (b : List ℕ) → slice_get e i ≡ Some b → difference_from n (drop i t)
    (drop i e) ≡ cond (is_found (slice_get t i) b) (difference_from (n + 1) (drop (i + 1) t) (drop (i + 1) e)) (Some n)
differ_at t e i n b h =
    let here = drop_at e i ∙ ap (λ (o : Option (List ℕ)). with_line o (drop (i + 1) e)) h in
    (λ j. difference_from n (drop_at t i j) (here j)) ∙ found_by (slice_get t i) b (drop (i + 1) t) (drop (i + 1) e) n

pub next_line : (t e : List (List ℕ)) (i : ℕ) (b : List ℕ) (found : Bool)
    → first_difference t e ≡ difference_from (i + 1) (drop i t) (drop i e) → slice_get e i ≡ Some b → found ≡ is_found (slice_get t i) b
    → first_difference t e ≡ cond found (difference_from (i + 1 + 1) (drop (i + 1) t) (drop (i + 1) e)) (Some (i + 1))
next_line t e i b found h at f = h ∙ differ_at t e i (i + 1) b at
    ∙ ap (λ (c : Bool). cond c (difference_from (i + 1 + 1) (drop (i + 1) t) (drop (i + 1) e)) (Some (i + 1))) (sym f)

surplus_at : (t : List (List ℕ)) (k n : ℕ) → k < length t → difference_from n (drop k t) [] ≡ Some n
surplus_at [] k n h = absurd (omega arith)
surplus_at (y ∷ t) zero n h = refl
surplus_at (y ∷ t) (suc k) n h = surplus_at t k n (omega arith)

pub surplus : (t e : List (List ℕ)) (i : ℕ) → first_difference t e ≡ difference_from (i + 1) (drop i t) (drop i e) → length e ≤ i
    → i ≤ length e → length e < length t → Differ (length e + 1) ≡ agreement_of (first_difference t e)
surplus t e i h over within more =
    let same : i ≡ length e = omega arith in
    sym (ap agreement_of (h ∙ ap (difference_from (i + 1) (drop i t)) (drop_all i e over) ∙ surplus_at t i (i + 1) (omega arith)
    ∙ ap (λ (k : ℕ). Some (k + 1)) same))

-- recorded lines, as they come

-- the first difference found, or the one among what is left
abbrev settled : Option ℕ → Option ℕ → Option ℕ
settled (Some first) later = Some first
settled None later = later

lt_suc : (m n : ℕ) → nat_lt (suc m) (suc n) ≡ nat_lt m n
lt_suc m n = grind (arith, nat_tests)

end_at : (expected : List (List ℕ)) (count n : ℕ)
    → first_number_of None (nat_lt count (length expected)) n ≡ difference_from n [] (drop count expected)
end_at [] count n =
    rw (le-ltb count 0 (omega arith)) (sym (ap (difference_from n []) (drop_all count [] (omega arith))))
end_at (e ∷ expected) zero n = ap (λ (b : Bool). first_number_of None b n) (lt-ltb 0 (length (e ∷ expected)) (omega arith))
end_at (e ∷ expected) (suc count) n = ap (λ (b : Bool). first_number_of None b n) (lt_suc count (length expected)) ∙ end_at expected count n

same_step : (same : Bool) (n : ℕ) (later : Option ℕ) → settled (first_number_of None (not same) n) later ≡ cond same later (Some n)
same_step true n later = refl
same_step false n later = refl

line_by : (found : Option (List ℕ)) (line : List ℕ) (rest e : List (List ℕ)) (n : ℕ)
    → settled (first_number_of None (not (is_line line found)) n) (difference_from (n + 1) rest e)
    ≡ difference_from n (with_end line ∷ rest) (with_line found e)
line_by None line rest e n = refl
line_by (Some x) line rest e n = same_step (bytes_eq (with_end line) x) n (difference_from (n + 1) rest e)

abbrev at : Header → List Event → ℕ → Option ℕ → ComparedRun
at header events count differs = record { header = header; events = events; count = count; differs = differs }

compare_ends : (header : Header) (events : List Event) (lines : List (List ℕ)) (count : ℕ) (differs : Option ℕ)
    → end_difference (fold compared_run_after (at header events count differs) lines)
    ≡ settled differs (difference_from (count + 1) (map with_end lines) (drop count (expected_lines (world_of header) events)))
compare_ends header events [] count (Some first) = refl
compare_ends header events [] count None = end_at (expected_lines (world_of header) events) count (count + 1)
compare_ends header events (line ∷ lines) count (Some first) = compare_ends header events lines (count + 1) (Some first)
compare_ends header events (line ∷ lines) count None =
    let expected = expected_lines (world_of header) events in
    compare_ends header events lines (count + 1) (first_number_of None (not (is_line line (slice_get expected count))) (count + 1))
    ∙ line_by (slice_get expected count) line (map with_end lines) (drop (count + 1) expected) (count + 1)
    ∙ ap (difference_from (count + 1) (with_end line ∷ map with_end lines)) (sym (drop_at expected count))

-- the header and the events stay
compared_on : (lines : List (List ℕ)) (c : ComparedRun)
    → (let d : ComparedRun = fold compared_run_after c lines in (d.header ≡ c.header) × (d.events ≡ c.events))
compared_on [] c = (refl, refl)
compared_on (line ∷ lines) c = compared_on lines (compared_run_after c line)

-- the verdicts on recorded lines
pub verdicts_on : (header : Header) (events : List Event) (recorded : List (List ℕ)) (it : Verdicts)
    → AreVerdictsOn (fold compared_run_after (at header events 0 None) recorded) it → AreVerdicts header events (map with_end recorded) it
verdicts_on header events recorded it h =
    let on = compared_on recorded (at header events 0 None) in record {
      premise = subst (λ (es : List Event). DecidesPremise (world_of header) es it.premise) on.1
          (subst (λ (x : Header). DecidesPremise (world_of x) (fold compared_run_after (at header events 0 None) recorded).events
          it.premise)
          on.0 h.premise);
      agreement = h.agreement ∙ ap agreement_of (compare_ends header events recorded 0 None);
    }

-- From a run over lines to what the whole recorded run is told.

-- a line was answered, and the run goes on behind it
line_ran : (on : CheckStage → PlayOutcome CheckStage) (n : ℕ) (long : Bool) (r : Result (List ℕ × CheckStage) LineRefusal) (p : CheckStage)
    → (let t : PlayOutcome CheckStage = cond long (stopped_outcome (LineLong n)) (outcome_of_answer on n r) in t.outcome ≡ Ok p)
    → (answer : List ℕ × CheckStage) × (r ≡ Ok answer) × ((on answer.1).outcome ≡ Ok p)
line_ran on n true r p h = absurd (not_ok (LineLong n) p h)
line_ran on n false (Err why) p h = absurd (not_ok (refusal_at n why) p h)
line_ran on n false (Ok answer) p h = (answer, refl, h)

module _ (on : CheckStage → PlayOutcome CheckStage) (p : CheckStage) where
  abbrev Answers : List ℕ × CheckStage → Type 0
  Answers answer = (on answer.1).outcome ≡ Ok p

-- among the recorded lines
replies_ran : (heading : List ℕ → Option Header) (lines : List (List ℕ)) (n : ℕ) (c : ComparedRun) (p : CheckStage)
    → (outcome_of_lines (check_answer heading) n (InReplies c) lines).outcome ≡ Ok p → p ≡ InReplies (fold compared_run_after c lines)
replies_ran heading [] n c p h = sym (ok_same (InReplies c) p h)
replies_ran heading (line ∷ lines) n c p h =
    let on : CheckStage → PlayOutcome CheckStage = λ next. outcome_of_lines (check_answer heading) (n + 1) next lines in
    let a = line_ran on n (nat_lt longest_line (length line)) (answer_to_recorded_line c line) p h in
    let b = compared c line a.0 a.1 in
    replies_ran heading lines (n + 1) (compared_run_after c line) p (subst (Answers on p) (sym b.1) a.2)

-- among the events

-- The lines from some read ones on are events and perhaps recorded lines; and these are the verdicts at their end.
record GoesOn (r : RecordedRun) (lines : List (List ℕ)) (it : Verdicts) : Type 0 where
  others : List (List ℕ)
  section : List (List ℕ)
  events : List Event
  all : List Event
  tested : List (List ℕ)
  split : lines ≡ others ++ section
  read : map event_at others ≡ map Some events
  grown : all ≡ r.events ++ events
  tests : AreTested r.header all section tested
  verdicts : AreVerdicts r.header all tested it

ends_here : (r : RecordedRun) (section tested : List (List ℕ)) (it : Verdicts) → AreTested r.header r.events section tested
    → AreVerdicts r.header r.events tested it → GoesOn r section it
ends_here r section tested it tests verdicts = record {
  others = [];
  section = section;
  events = [];
  all = r.events;
  tested = tested;
  split = refl;
  read = refl;
  grown = sym (append-nil r.events);
  tests = tests;
  verdicts = verdicts;
}

event_first : (r : RecordedRun) (line : List ℕ) (lines : List (List ℕ)) (event : Event) (it : Verdicts) → event_at line ≡ Some event
    → GoesOn (with_event r line event) lines it → GoesOn r (line ∷ lines) it
event_first r line lines event it is b = record {
  others = line ∷ b.others;
  section = b.section;
  events = event ∷ b.events;
  all = b.all;
  tested = b.tested;
  split = ap (λ (l : List (List ℕ)). line ∷ l) b.split;
  read = λ j. is j ∷ b.read j;
  grown = b.grown ∙ append_assoc r.events (event ∷ []) b.events;
  tests = b.tests;
  verdicts = b.verdicts;
}

events_ran : (heading : List ℕ → Option Header) (lines : List (List ℕ)) (n : ℕ) (p : CheckStage) (r : RecordedRun) (it : Verdicts)
    → (outcome_of_lines (check_answer heading) n (InEvents r) lines).outcome ≡ Ok p → StageConcludes p it → GoesOn r lines it
events_ran heading [] n p r it h c =
    ends_here r [] (run_lines (world_of r.header) r.events) it (inl (refl, refl))
    (subst (λ (s : CheckStage). StageConcludes s it) (sym (ok_same (InEvents r) p h)) c)
events_ran heading (line ∷ lines) n p r it h c =
    let on : CheckStage → PlayOutcome CheckStage = λ next. outcome_of_lines (check_answer heading) (n + 1) next lines in
    let a = line_ran on n (nat_lt longest_line (length line)) (answer_to_line r line) p h in
    elim (reads r line a.0 a.1) [
      | inl s ↦
          let ends = replies_ran heading lines (n + 1) (first_compared_run r) p (subst (Answers on p) (sym s.1) a.2) in
          ends_here r (line ∷ lines) (map with_end lines) it (inr (lines, ap (λ (l : List ℕ). l ∷ lines) s.0, refl))
          (verdicts_on r.header r.events lines it (subst (λ (s : CheckStage). StageConcludes s it) ends c))
      | inr t ↦ event_first r line lines t.event it t.read
          (events_ran heading lines (n + 1) p (with_event r line t.event) it (subst (Answers on p) (sym t.said) a.2) c)
    ]

-- whole lines that were all answered, and the verdicts at their end

checked_by : (first : List ℕ) (lines : List (List ℕ)) (header : Header) (it : Verdicts) → header_at first ≡ Some header
    → GoesOn (first_recorded_run header) lines it → IsChecked (first ∷ lines) it
checked_by first lines header it headed b = record {
  first = first;
  others = b.others;
  section = b.section;
  header = header;
  events = b.all;
  tested = b.tested;
  split = ap (λ (l : List (List ℕ)). first ∷ l) b.split;
  headed = headed;
  read = b.read ∙ ap (map Some) (sym b.grown);
  tests = b.tests;
  verdicts = b.verdicts;
}

header_ran : (heading : List ℕ → Option Header) (first : List ℕ) (lines : List (List ℕ)) (p : CheckStage) (it : Verdicts)
    → (outcome_of_lines (check_answer heading) 1 AtHeader (first ∷ lines)).outcome ≡ Ok p → StageConcludes p it
    → (header : Header) × (heading first ≡ Some header) × GoesOn (first_recorded_run header) lines it
header_ran heading first lines p it h c =
    let on : CheckStage → PlayOutcome CheckStage = λ next. outcome_of_lines (check_answer heading) (1 + 1) next lines in
    let a = line_ran on 1 (nat_lt longest_line (length first)) (answer_to_header (heading first)) p h in
    let d = headed_by (heading first) a.0 a.1 in
    (d.0, d.1, events_ran heading lines (1 + 1) p (first_recorded_run d.0) it (subst (Answers on p) (sym d.2) a.2) c)

lines_checked : (lines : List (List ℕ)) (p : CheckStage) (it : Verdicts) → (check_of_lines lines).outcome ≡ Ok p → StageConcludes p it
    → IsChecked lines it
lines_checked [] p it h c = absurd (subst (λ (s : CheckStage). StageConcludes s it) (sym (ok_same AtHeader p h)) c)
lines_checked (first ∷ lines) p it h c =
    let d = header_ran header_at first lines p it h c in checked_by first lines d.0 it d.1 d.2

-- an input that was answered to its end

closed_ran : (n : ℕ) (q p : CheckStage) (last : Option (List ℕ)) → (outcome_at_end n q last).outcome ≡ Ok p → q ≡ p
closed_ran n q p None h = absurd (not_ok (BadLine n) p h)
closed_ran n q p (Some l) h = ok_same q p h

tail_ran : (n : ℕ) (tail : List ℕ) (q p : CheckStage) → (outcome_of_tail check_closing n tail q).outcome ≡ Ok p → q ≡ p
tail_ran n [] q p h = closed_ran n q p (check_closing q) h
tail_ran n (b ∷ tail) q p h =
    let a = line_ran (λ next. stopped_outcome TooMuch) n (nat_lt longest_line (length (b ∷ tail))) (Err Bad) p h in
    absurd (no_answer Bad a.0.0 a.0.1 a.1)

whole_ran : (n : ℕ) (tail written : List ℕ) (outcome : Result CheckStage ReplayFault) (p : CheckStage)
    → (outcome_then (outcome_of_tail check_closing n tail) written outcome).outcome ≡ Ok p → outcome ≡ Ok p
whole_ran n tail written (Err fault) p h = absurd (not_ok fault p h)
whole_ran n tail written (Ok q) p h = ap Ok (tail_ran n tail q p h)

-- what the loop over the lines did, as a judgement

stops_so : (left : Option (List ℕ)) (taken sent : List ℕ) (fault : ReplayFault)
    → HoldsOfWhole left taken (λ input. check_of_input input ≡ play_outcome sent (Err fault))
    → HoldsOfWhole left taken (λ input. (check_of_input input).outcome ≡ Err fault)
stops_so left taken sent fault h =
    for_whole left taken (λ input. check_of_input input ≡ play_outcome sent (Err fault)) (λ input. (check_of_input input).outcome
    ≡ Err fault)
    (λ input e. outcome_of e) h

judges_by : (next : CheckStage) (left : Option (List ℕ)) (taken sent : List ℕ) (fault : ReplayFault) → (fault ≡ WriteFault → ⊥)
    → (let r : Result (Unit {0}) ReplayFault = Err fault in AnswerFits check_of_lines check_of_input next left taken sent r)
    → JudgeSettles left taken (Err fault)
judges_by next left taken sent Memory wrote s = tt
judges_by next left taken sent ReadFault wrote s = (s.0, (s.1.0, outcome_of s.1.1))
judges_by next left taken sent WriteFault wrote s = absurd (wrote refl)
judges_by next left taken sent fault wrote s = stops_so left taken sent fault s

-- a sink whose count stays at 0 didn't fail
not_written : (result : Result (Unit {0}) ReplayFault) (fault : ReplayFault) → IsBlamed (is_write_fault result) 0 0 → result ≡ Err fault
    → fault ≡ WriteFault → ⊥
not_written result fault h is same =
    let rose = subst (λ (r : Result (Unit {0}) ReplayFault). IsBlamed (is_write_fault r) 0 0) (is ∙ ap Err same) h in
    absurd (omega (arith, rose))

module _ {first next : CheckStage} {left left' received received' : Option (List ℕ)} {result : Result (Unit {0}) ReplayFault}
    (begins : first ≡ AtHeader)
    (played : PlaysInput (check_answer header_at) check_closing first next (stream_standing left received)
    (stream_standing left' received') result) where
  pub judged_ok : (it : Verdicts) (done : Unit {0}) → result ≡ Ok done → StageConcludes next it → JudgePromise left left' (Ok it)
  judged_ok it done is c =
      let p = plays_ok begins played done is it in
      let answered = outcome_of p.settled.1 in
      let ran = check_of_lines (lines_of p.taken) in
      let lines = whole_ran (1 + length (lines_of p.taken)) (tail_of p.taken) ran.written ran.outcome next answered in
      record {
        taken = p.taken;
        consumed = p.consumed;
        settled =
            record { ended = p.settled.0; after = next; answered = answered; checked = lines_checked (lines_of p.taken) next it lines c };
      }

  pub judged_err : (fault : ReplayFault) → IsBlamed (is_write_fault result) 0 0 → result ≡ Err fault → JudgePromise left left' (Err fault)
  judged_err fault blamed is =
      let p = plays_err {R = Unit {0}} begins played fault is in
      record {
        taken = p.taken;
        consumed = p.consumed;
        settled = judges_by next left' p.taken p.sent fault (λ e. not_written result fault blamed is e) p.settled;
      }

-- nothing was written

appends_nothing : (received : Option (List ℕ)) → Appends received received []
appends_nothing None = tt
appends_nothing (Some bytes) = sym (append-nil bytes)

checks_by : (left : Option (List ℕ)) (taken : List ℕ) (fault : ReplayFault) → JudgeSettles left taken (Err fault)
    → ChecksRunBy left taken [] (Err fault)
checks_by left taken Memory s = refl
checks_by left taken WriteFault s = absurd s
checks_by left taken fault s = (refl, s)

pub checked_err : (left left' received : Option (List ℕ)) (fault : ReplayFault) → JudgePromise left left' (Err fault)
    → ChecksRun left left' received received (Err fault)
checked_err left left' received fault j = record {
  taken = j.taken;
  sent = [];
  consumed = j.consumed;
  appended = appends_nothing received;
  settled = checks_by left' j.taken fault j.settled;
}

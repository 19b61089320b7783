-- A recorded run ends: each answered line leaves fewer.
use Rattle.std.specs.Prelude.{◌≡◌, ◌⊎◌, ℕ, ◌<◌, ◌^◌, Bool, true, false, nat_le, List, [], Option, None, Some, Result, Ok, Err}
use Rattle.std.specs.Prelude.{if◌then◌else◌}
use Rattle.std.proofs.Common.{refl, subst, inl, inr, arith}
use Rattle.std.proofs.lemmas.Bool.Decides.{nat_tests}
use Rattle.std.proofs.lemmas.Slice.Eq.{bytes_eq-Decides}
use Rattle.std.specs.Str.{bytes_eq}
use Rattle.mm_check.specs.Below.{event_at, Event, Header, few_left, is_too_much, no_answer, replay_stage, play_state, same_answer}
use Rattle.mm_check.specs.Below.{replay_state_of, LineRefusal, Bad, Much}
use Rattle.mm_check.specs.CheckStage.{RecordedRun, first_recorded_run, with_event, ComparedRun, first_compared_run, compared_run_after}
use Rattle.mm_check.specs.CheckStage.{CheckStage, AtHeader, InEvents, InReplies, answer_to_header, answer_to_event, answer_to_line}
use Rattle.mm_check.specs.CheckStage.{answer_to_recorded_line, check_answer, remaining_check_lines, most_recorded, section_line}

few_recorded : (count : ℕ) → nat_le most_recorded count ≡ false → count < most_recorded
few_recorded count h = grind (arith, nat_tests)

-- where an answer is given unless there is too much, it is that answer
unless_much : (much : Bool) (said answer : List ℕ × CheckStage)
    → (let r : Result (List ℕ × CheckStage) LineRefusal = if much then Err Much else Ok said in
    r ≡ Ok answer) → (much ≡ false) × (said ≡ answer)
unless_much true said answer h = absurd (no_answer Much answer.0 answer.1 h)
unless_much false said answer h = (refl, same_answer said answer h)

-- a header line was answered
pub headed_by : (found : Option Header) (answer : List ℕ × CheckStage) → answer_to_header found ≡ Ok answer
    → (header : Header) × (found ≡ Some header) × (([], InEvents (first_recorded_run header)) ≡ answer)
headed_by None answer h = absurd (no_answer Bad answer.0 answer.1 h)
headed_by (Some header) answer h =
    (header, refl, same_answer ([], InEvents (first_recorded_run header)) answer h)

-- a recorded line was compared
pub compared : (c : ComparedRun) (line : List ℕ) (answer : List ℕ × CheckStage)
    → answer_to_recorded_line c line ≡ Ok answer
    → (nat_le most_recorded c.count ≡ false) × (([], InReplies (compared_run_after c line)) ≡ answer)
compared c line answer h =
    unless_much (nat_le most_recorded c.count) ([], InReplies (compared_run_after c line)) answer h

-- an event was read
pub record ReadsEvent (r : RecordedRun) (line : List ℕ) (answer : List ℕ × CheckStage) : Type 0 where
  pub event : Event
  pub read : event_at line ≡ Some event
  pub few : is_too_much r.running line ≡ false
  pub said : ([], InEvents (with_event r line event)) ≡ answer

event_read : (r : RecordedRun) (line : List ℕ) (answer : List ℕ × CheckStage) (found : Option Event)
    → event_at line ≡ found → answer_to_event r line found ≡ Ok answer → ReadsEvent r line answer
event_read r line answer None is h = absurd (no_answer Bad answer.0 answer.1 h)
event_read r line answer (Some event) is h =
    let m =
    unless_much (is_too_much r.running line) ([], InEvents (with_event r line event)) answer h in
    record { event = event; read = is; few = m.0; said = m.1 }

-- a line among the events began the section, or was an event
abbrev pub ReadsLine : RecordedRun → List ℕ → List ℕ × CheckStage → Type 0
ReadsLine r line answer = ((line ≡ section_line) × (([], InReplies (first_compared_run r)) ≡ answer))
    ⊎ ReadsEvent r line answer

reads_by : (r : RecordedRun) (line : List ℕ) (section : Bool) (answer : List ℕ × CheckStage)
    → bytes_eq line section_line ≡ section
    → (let a : Result (List ℕ × CheckStage) LineRefusal = if section
    then Ok ([], InReplies (first_compared_run r))
    else answer_to_event r line (event_at line) in a ≡ Ok answer) → ReadsLine r line answer
reads_by r line true answer is h = inl (
  (bytes_eq-Decides line section_line).0 is,
  same_answer ([], InReplies (first_compared_run r)) answer h,
)
reads_by r line false answer is h = inr (event_read r line answer (event_at line) refl h)

pub reads : (r : RecordedRun) (line : List ℕ) (answer : List ℕ × CheckStage)
    → answer_to_line r line ≡ Ok answer → ReadsLine r line answer
reads r line answer h = reads_by r line (bytes_eq line section_line) answer refl h

-- an answered line leaves fewer
pub check_counts_down : (heading : List ℕ → Option Header) (it next : CheckStage)
    (line reply : List ℕ)
    → check_answer heading it line ≡ Ok (reply, next) → remaining_check_lines next < remaining_check_lines it
check_counts_down heading AtHeader next line reply h =
    let d = headed_by (heading line) (reply, next) h in
    subst (λ (a : List ℕ × CheckStage). remaining_check_lines a.1 < remaining_check_lines AtHeader) d.2 (omega arith)
check_counts_down heading (InEvents r) next line reply h =
    let So : List ℕ × CheckStage → Type 0 = λ a. remaining_check_lines a.1 < remaining_check_lines (InEvents r) in
    let at = play_state (replay_state_of r.running) r.running.read in
    elim (reads r line (reply, next) h) [
      | inl section ↦ subst So section.1 (omega arith)
      | inr t ↦ subst So t.said (omega (arith, few_left replay_stage at line t.few))
    ]
check_counts_down heading (InReplies c) next line reply h =
    let a = compared c line (reply, next) h in
    subst (λ (a : List ℕ × CheckStage). remaining_check_lines a.1 < remaining_check_lines (InReplies c)) a.1
    (omega (arith, few_recorded c.count a.0))

-- and there are few at first
pub check_is_short : (it : CheckStage) → remaining_check_lines it < 2 ^ 31
check_is_short AtHeader = omega arith
check_is_short (InEvents r) = omega arith
check_is_short (InReplies c) = omega arith

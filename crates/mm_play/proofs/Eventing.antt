-- A run over lines of a heading and of events, by the events in them.
use Rattle.mm_play.proofs.Below.{◌≡◌, ◌∙◌, ◌+◌, ◌≤◌, ◌<◌, ◌||◌, ℕ, Bool, true, false, nat_le, nat_lt, List, [], ◌∷◌, ◌++◌, length, map}
use Rattle.mm_play.proofs.Below.{Result, Ok, Err, Option, None, Some, refl, sym, ap, subst, arith, inl, inr, ◌⊎◌, sum_by, nat_tests}
use Rattle.mm_play.proofs.Below.{most_events, LineRefusal, Bad, Much, play_outcome, outcome_of_lines, AllByRecursion, longest_line}
use Rattle.mm_play.specs.Headline.{same_answer, no_answer, most_kept_bytes}
use Rattle.mm_play.specs.Stage.{EventStage, EventSteps, HeadStage, PlayState, play_state, LineStage, InEvents, is_over, event_answer}
use Rattle.mm_play.specs.Stage.{line_answer, answer_by, state_behind_events, replies, TakesEvents}
use Rattle.mm_play.proofs.Runs.{first_answered, none_answered}
use Rattle.std.proofs.lemmas.List.Sums.{sum_by-append}

pub is_short : (n : ℕ) → nat_lt longest_line n ≡ false → n ≤ longest_line
is_short n h = grind (arith, nat_tests)

abbrev pub AreShort : List (List ℕ) → Type 0
AreShort lines = AllByRecursion (λ line. length line ≤ longest_line) lines

-- the bytes of one more line
sums_more : (line : List ℕ) (lines : List (List ℕ)) → sum_by length (line ∷ lines) ≡ length line + sum_by length lines
sums_more line lines =
    let one : sum_by length (line ∷ []) ≡ length line = omega arith in
    let both : sum_by length (line ∷ lines) ≡ sum_by length (line ∷ []) + sum_by length lines = sum_by-append length (line ∷ []) lines in
    omega (arith, one, both)

-- no line is behind the last
no_line : (before : List (List ℕ)) (line : List ℕ) (after : List (List ℕ)) → [] ≡ before ++ line ∷ after → ⊥
no_line [] line after h = cc
no_line (first ∷ before) line after h = cc

-- whether an event is one too many, in numbers
over_of : (done most size room : ℕ) → (nat_le most done || nat_lt room size) ≡ true → (most ≤ done) ⊎ (room < size)
over_of done most size room h = grind (arith, nat_tests)

not_over : (done most size room : ℕ) → (nat_le most done || nat_lt room size) ≡ false → (most ≤ done) ⊎ (room < size) → ⊥
not_over done most size room h over = grind (arith, nat_tests)

module _ {G E R : Type 0} (heads : HeadStage G R) (s : EventStage R) (steps : EventSteps E R) (takes : TakesEvents steps s) where
  abbrev P : Type 0
  P = LineStage G R

  -- behind these lines and their events, the line is one too many
  abbrev pub IsOverIn : PlayState R → List (List ℕ) → List E → List ℕ → Type 0
  IsOverIn r before events line = (most_events ≤ s.events r.stage + length before)
      ⊎ (most_kept_bytes < r.read + sum_by length before + length line + s.kept (state_behind_events steps r.stage events))

  -- The lines were answered, each an event.
  pub record AnsweredEvents (r : PlayState R) (lines : List (List ℕ)) (written : List ℕ) (next : P) : Type 0 where
    pub events : List E
    pub read : map (steps.event_in r.stage) lines ≡ map Some events
    pub sent : written ≡ replies steps r.stage events
    pub stands : next ≡ InEvents (play_state (state_behind_events steps r.stage events) (r.read + sum_by length lines))
    pub counted : s.events (state_behind_events steps r.stage events) ≡ s.events r.stage + length lines
    pub short : AreShort lines
    pub within : (before : List (List ℕ)) (line : List ℕ) (after : List (List ℕ)) (events : List E) → lines ≡ before ++ line ∷ after
        → map (steps.event_in r.stage) before ≡ map Some events → IsOverIn r before events line → ⊥

  -- what the answer to an event line was
  record TakenEvent (r : PlayState R) (line : List ℕ) (answer : List ℕ × P) : Type 0 where
    event : E
    read : steps.event_in r.stage line ≡ Some event
    few : is_over s r line ≡ false
    said : answer ≡ (steps.reply r.stage event, InEvents (play_state (steps.after r.stage event) (r.read + length line)))

  taken_event : (r : PlayState R) (line : List ℕ) (answer : List ℕ × P) → line_answer heads s (InEvents r) line ≡ Ok answer
      → TakenEvent r line answer
  taken_event r line answer h =
      by (steps.event_in r.stage line) refl (is_over s r line) refl
      (sym (ap (event_answer s r line) (takes.answers r.stage line)) ∙ h)
    where
      by : (found : Option E) → steps.event_in r.stage line ≡ found → (over : Bool) → is_over s r line ≡ over
          → event_answer s r line (answer_by steps r.stage found) ≡ Ok answer → TakenEvent r line answer
      by None is over full h = absurd (no_answer Bad answer.0 answer.1 h)
      by (Some event) is true full h = let g = rw full at h in absurd (no_answer Much answer.0 answer.1 g)
      by (Some event) is false full h =
          let g = rw full at h in record { event = event; read = is; few = full; said = sym (same_answer _ answer g) }

  within_on : (r : PlayState R) (line : List ℕ) (lines : List (List ℕ)) (event : E) → steps.event_in r.stage line ≡ Some event
      → is_over s r line ≡ false → (next : PlayState R) → next ≡ play_state (steps.after r.stage event) (r.read + length line)
      → ((before : List (List ℕ)) (l : List ℕ) (after : List (List ℕ)) (events : List E) → lines ≡ before ++ l ∷ after
      → map (steps.event_in next.stage) before ≡ map Some events → IsOverIn next before events l → ⊥)
      → (before : List (List ℕ)) (l : List ℕ) (after : List (List ℕ)) (events : List E) → line ∷ lines ≡ before ++ l ∷ after
      → map (steps.event_in r.stage) before ≡ map Some events → IsOverIn r before events l → ⊥
  within_on r line lines event is few next so on [] l after [] split read over =
      let same : l ≡ line = cc in
      not_over (s.events r.stage) most_events (r.read + length line + s.kept r.stage) most_kept_bytes few
      (rw same at (elim over as (λ _. (most_events ≤ s.events r.stage) ⊎ (most_kept_bytes < r.read + length l + s.kept r.stage)) [
        | inl h ↦ inl (omega (arith, h))
        | inr h ↦ inr (omega (arith, h))
      ]))
  within_on r line lines event is few next so on [] l after (e ∷ events) split read over = cc
  within_on r line lines event is few next so on (first ∷ before) l after [] split read over = cc
  within_on r line lines event is few next so on (first ∷ before) l after (e ∷ events) split read over =
      let head : line ≡ first = cc in
      let tail : lines ≡ before ++ l ∷ after = cc in
      let same : e ≡ event = cc in
      let reads : map (steps.event_in r.stage) before ≡ map Some events = cc in
      let stage : next.stage ≡ steps.after r.stage event = ap (λ (x : PlayState R). x.stage) so in
      let bytes : next.read ≡ r.read + length line = ap (λ (x : PlayState R). x.read) so in
      let stands : s.kept (state_behind_events steps (steps.after r.stage e) events)
      ≡ s.kept (state_behind_events steps next.stage events) = cc in
      let sums : sum_by length (first ∷ before) ≡ length line + sum_by length before = rw head (sums_more first before) in
      let counts : s.events next.stage ≡ s.events r.stage + 1 = ap s.events stage ∙ takes.counts r.stage event in
      let reading : steps.event_in next.stage ≡ steps.event_in r.stage = ap steps.event_in stage ∙ takes.reads r.stage event in
      on before l after events tail (rw reading reads) (elim over [
        | inl h ↦ inl (omega (arith, h, counts))
        | inr h ↦ inr (omega (arith, h, sums, stands, bytes))
      ])

  -- one more line was answered in front
  answered_more : (r : PlayState R) (line : List ℕ) (lines : List (List ℕ)) (event : E) (written : List ℕ) (last : P)
      → steps.event_in r.stage line ≡ Some event → is_over s r line ≡ false → nat_lt longest_line (length line) ≡ false
      → AnsweredEvents (play_state (steps.after r.stage event) (r.read + length line)) lines written last
      → AnsweredEvents r (line ∷ lines) (steps.reply r.stage event ++ written) last
  answered_more r line lines event written last is few short a =
      let counts : s.events (steps.after r.stage event) ≡ s.events r.stage + 1 = takes.counts r.stage event in
      let bytes : r.read + length line + sum_by length lines ≡ r.read + sum_by length (line ∷ lines) =
      omega (arith, sums_more line lines) in
      record {
        events = event ∷ a.events;
        read = ap (λ first. first ∷ map (steps.event_in r.stage) lines) is ∙ ap (λ others. Some event ∷ others)
            (ap (λ (f : List ℕ → Option E). map f lines) (sym (takes.reads r.stage event)) ∙ a.read);
        sent = ap (λ bytes. steps.reply r.stage event ++ bytes) a.sent;
        stands = a.stands ∙ ap (λ (n : ℕ). InEvents (play_state (state_behind_events steps (steps.after r.stage event) a.events) n)) bytes;
        counted = omega (arith, a.counted, counts);
        short = (is_short (length line) short, a.short);
        within = within_on r line lines event is few (play_state (steps.after r.stage event) (r.read + length line)) refl a.within;
      }

  pub answered_events : (lines : List (List ℕ)) (number : ℕ) (r : PlayState R) (written : List ℕ) (last : P)
      → outcome_of_lines (line_answer heads s) number (InEvents r) lines ≡ play_outcome written (Ok last)
      → AnsweredEvents r lines written last
  answered_events [] number r written last h =
      let none = none_answered (line_answer heads s) number (InEvents r) written last h in
      record {
        events = [];
        read = refl;
        sent = none.0;
        stands = none.1 ∙ ap (λ (n : ℕ). InEvents (play_state r.stage n)) (omega arith);
        counted = omega arith;
        short = tt;
        within = λ before line after events split read over. no_line before line after split;
      }
  answered_events (line ∷ lines) number r written last h =
      let f = first_answered (line_answer heads s) number (InEvents r) line lines written last h in
      let t = taken_event r line f.reply f.replied in
      let next = play_state (steps.after r.stage t.event) (r.read + length line) in
      let ran = ap (λ (reply : List ℕ × P). outcome_of_lines (line_answer heads s) (number + 1) reply.1 lines) (sym t.said) ∙ f.ran in
      subst (λ (w : List ℕ). AnsweredEvents r (line ∷ lines) w last)
      (sym (f.whole ∙ ap (λ (reply : List ℕ × P). reply.0 ++ f.more) t.said))
      (answered_more r line lines t.event f.more last t.read t.few f.short (answered_events lines (number + 1) next f.more last ran))

  -- A line that is refused as one too many is so in numbers; one that is refused as bad spells no event.
  pub much_over : (r : PlayState R) (lines : List (List ℕ)) (written : List ℕ) (last : P) (line : List ℕ)
      (a : AnsweredEvents r lines written last) → line_answer heads s last line ≡ Err Much → IsOverIn r lines a.events line
  much_over r lines written last line a h =
      let at = play_state (state_behind_events steps r.stage a.events) (r.read + sum_by length lines) in
      let full = is_full at (s.answer at.stage line) (is_over s at line) refl
      (ap (λ (x : P). line_answer heads s x line) (sym a.stands) ∙ h) in
      elim (over_of (s.events at.stage) most_events (at.read + length line + s.kept at.stage) most_kept_bytes full) [
        | inl many ↦ inl (omega (arith, many, a.counted))
        | inr large ↦ inr (omega (arith, large))
      ]
    where
      is_full : (at : PlayState R) (found : Option (List ℕ × R)) (over : Bool) → is_over s at line ≡ over
          → (let said : Result (List ℕ × P) LineRefusal = event_answer s at line found in said ≡ Err Much) → is_over s at line ≡ true
      is_full at None over is h = cc
      is_full at (Some found) true is h = is
      is_full at (Some found) false is h = let said = rw is at h in cc

  pub reads_behind : (r : R) (events : List E) → steps.event_in (state_behind_events steps r events) ≡ steps.event_in r
  reads_behind r [] = refl
  reads_behind r (event ∷ events) = reads_behind (steps.after r event) events ∙ takes.reads r event

  pub bad_none : (r : PlayState R) (lines : List (List ℕ)) (written : List ℕ) (last : P) (line : List ℕ)
      (a : AnsweredEvents r lines written last) → line_answer heads s last line ≡ Err Bad → steps.event_in r.stage line ≡ None
  bad_none r lines written last line a h =
      let at = play_state (state_behind_events steps r.stage a.events) (r.read + sum_by length lines) in
      ap (λ (f : List ℕ → Option E). f line) (sym (reads_behind r.stage a.events))
      ∙ is_none at (steps.event_in at.stage line) refl (is_over s at line) refl
      (sym (ap (event_answer s at line) (takes.answers at.stage line)) ∙ ap (λ (x : P). line_answer heads s x line) (sym a.stands) ∙ h)
    where
      is_none : (at : PlayState R) (found : Option E) → steps.event_in at.stage line ≡ found → (over : Bool) → is_over s at line ≡ over
          → (let said : Result (List ℕ × P) LineRefusal = event_answer s at line (answer_by steps at.stage found) in said ≡ Err Bad)
          → steps.event_in at.stage line ≡ None
      is_none at None is over full h = is
      is_none at (Some event) is true full h = let said = rw full at h in cc
      is_none at (Some event) is false full h = let said = rw full at h in cc

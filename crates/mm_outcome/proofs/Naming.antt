-- An event keeps what names a position of the history, whichever snapshot or ticket says it; and each snapshot that was issued
-- names one.
use Rattle.mm_outcome.proofs.Below.{ℕ, ◌≡◌, Bool, true, false, List, [], ◌∷◌, Option, None, Some, Result, Ok, Err, refl, sym, ap, ◌∙◌}
use Rattle.mm_outcome.proofs.Below.{AllByRecursion, Variant, Basic, Opt, Meaning, Batch, normal_batch, StepFault, Stop, Instance}
use Rattle.mm_outcome.proofs.Below.{basic_instance, opt_instance, History, Move, Foreign, Close, PowerMove, history_after, first_history}
use Rattle.mm_outcome.proofs.Below.{items_of_all, life_of, has_value, is_lost, IsSound, NamesPosition, content_issued, Content, DeviceStep}
use Rattle.mm_outcome.proofs.Below.{Reads, Writes, ask_steps, checkpoint_steps, Refusal, first_sound, sound_moved, basic_names}
use Rattle.mm_outcome.proofs.Below.{basic_issued, opt_names, opt_issued, list_level, state_after_moves, CallFinding, finding_at}
use Rattle.mm_outcome.proofs.Below.{finding_unless_wanting, is_fresh, StepFate, Course, StepsWalk, walk, has_close, CallOutcome, state_seen}
use Rattle.mm_outcome.proofs.Below.{call_ending_by, call_outcome, CheckpointOutcome, checkpoint_outcome, foreign_move_values, not_lost}
use Rattle.mm_outcome.proofs.Below.{live_found, foreign_fine, power_fine, ready_closing, before, sight, sight_is, Ready, walk_fine, asks}
use Rattle.mm_outcome.proofs.Below.{unlacked, opt_closes, closed_kept, AllMay, may_of, first_in, ask_may, each_self, each_append, Event}
use Rattle.mm_outcome.proofs.Below.{Outcome, course_of, snapshots_of, moves_after_call, outcome_by, moves_after_checkpoint, event_outcome}
use Rattle.mm_outcome.proofs.Below.{RunOutcome, outcome_of_events, first_snapshots, IsIssued, IssuedNamePositions, IsSoundIn, KeepsNames}
use Rattle.mm_outcome.proofs.Below.{EventsKeepNames, AreOwn, instance_by, zero_bytes}
use Rattle.mm_outcome.proofs.Following.{in_any_way, then_all, closing_all}

-- from one history to another, whichever snapshots were issued
pub record Lasts (i : Instance) (y z : History) : Type 0 where
  pub sound : IsSoundIn i.variant z
  pub names : (content : Content) → NamesPosition i y content → NamesPosition i z content

lasts_on : (i : Instance) (x y z : History) → Lasts i x y → Lasts i y z → Lasts i x z
lasts_on i x y z a b = record { sound = b.sound; names = λ content named. b.names content (a.names content named) }

-- Opt: moves may be made
abbrev pub MayIn : Variant → Instance → History → List Move → Type 0
MayIn Basic i y moves = Unit {0}
MayIn Opt i y moves = AllMay i y moves

none_may : (variant : Variant) (i : Instance) (y : History) → MayIn variant i y []
none_may Basic i y = tt
none_may Opt i y = tt

each_issued : (i : Instance) (y z : History) → ((content : Content) → NamesPosition i y content → NamesPosition i z content)
    → (xs : List (List ℕ))
    → AllByRecursion (IsIssued i y) xs → AllByRecursion (IsIssued i z) xs
each_issued i y z go [] h = tt
each_issued i y z go (x ∷ xs) h =
    (record { content = h.0.content; sealed = h.0.sealed; names = go h.0.content h.0.names }, each_issued i y z go xs h.1)

-- What one variant gives: moves that may be made keep what holds; those of events may be; what an answer's snapshot says names the
-- end, and what the first one says the start.
pub record Keeping (i : Instance) : Type 0 where
  pub made : (moves : List Move) (y : History) → IsSoundIn i.variant y → MayIn i.variant i y moves
      → Lasts i y (state_after_moves (list_level i) y moves)
  pub call_may : (y : History) (c : Course) (bytes : List ℕ) (b : Batch)
      → MayIn i.variant i y (call_outcome i (list_level i) y c bytes b).moves
  pub check_may : (y : History) (c : Course) → MayIn i.variant i y (checkpoint_outcome i (list_level i) y c).moves
  pub power_may : (y : History) → MayIn i.variant i y (PowerMove ∷ [])
  pub foreign_may : (y : History) (value : List ℕ) → MayIn i.variant i y (Foreign value ∷ [])
  pub answers : (y : History) (c : Course) (bytes : List ℕ) (b : Batch) → IsSoundIn i.variant y
      → (let o = call_outcome i (list_level i) y c bytes b in AllByRecursion (IsIssued i o.state) (snapshots_of o.ending))
  pub sound : IsSoundIn i.variant first_history
  pub named : NamesPosition i first_history (content_issued i first_history)

module _ (i : Instance) (v : Keeping i) where
  keeps_same : (y z : History) (xs : List (List ℕ)) → Lasts i y z → KeepsNames i y z xs xs
  keeps_same y z xs l = record { sound = l.sound; names = l.names; issued = λ h. each_issued i y z l.names xs h }

  -- a call, and what follows where it is broken off
  call_keeps : (y : History) (issued : List (List ℕ)) (stop : Stop) (c : Course) (bytes : List ℕ) (b : Batch) → IsSoundIn i.variant y
      → (let o : Outcome History = outcome_by (list_level i) stop issued (call_outcome i (list_level i) y c bytes b) in
      KeepsNames i y o.state issued o.issued)
  call_keeps y issued stop c bytes b sound =
      let o : CallOutcome History = call_outcome i (list_level i) y c bytes b in
      let rest : List Move = moves_after_call stop o.ending in
      let z : History = state_after_moves (list_level i) o.state rest in
      let a = v.made o.moves y sound (v.call_may y c bytes b) in
      let e = v.made rest o.state a.sound (then_all (MayIn i.variant i o.state) (none_may i.variant i o.state)
      (v.power_may o.state) stop o.ending) in
      let l = lasts_on i y o.state z a e in
      record {
        sound = l.sound;
        names = l.names;
        issued = λ h. each_append (IsIssued i z) issued (snapshots_of o.ending) (each_issued i y z l.names issued h)
            (each_issued i o.state z e.names (snapshots_of o.ending) (v.answers y c bytes b sound));
      }

  pub event_keeps : EventsKeepNames i
  event_keeps y issued event sound =
      let still : KeepsNames i y y issued issued = keeps_same y y issued (record { sound = sound; names = λ content named. named }) in
      in_any_way i (list_level i) y issued (λ o. KeepsNames i y o.state issued o.issued) (record {
        refused = λ why. still;
        call = λ stop meddles bytes b short. call_keeps y issued stop (course_of stop meddles) bytes (normal_batch b) sound;
        check = λ stop meddles.
            let c : Course = course_of stop meddles in let o : CheckpointOutcome History = checkpoint_outcome i (list_level i) y c in
            let a = v.made o.moves y sound (v.check_may y c) in
            keeps_same y _ issued (lasts_on i y o.state _ a (v.made (moves_after_checkpoint stop o.ending) o.state a.sound
            (closing_all (MayIn i.variant i o.state) (none_may i.variant i o.state) (v.power_may o.state) stop o.ending)));
        power = keeps_same y _ issued (v.made (PowerMove ∷ []) y sound (v.power_may y));
        extend = λ value. keeps_same y _ issued (v.made (Foreign value ∷ []) y sound (v.foreign_may y value));
      }) event

  follow_named : (events : List Event) (y : History) (issued : List (List ℕ)) → IsSoundIn i.variant y → AllByRecursion (IsIssued i y) issued
      → (let f : RunOutcome History = outcome_of_events i (list_level i) y issued events in AllByRecursion (IsIssued i f.state) f.issued)
  follow_named [] y issued sound h = h
  follow_named (event ∷ events) y issued sound h =
      let o : Outcome History = event_outcome i (list_level i) y issued event in
      let k = event_keeps y issued event sound in follow_named events o.state o.issued k.sound (k.issued h)

  issued_named : IssuedNamePositions i
  issued_named events = follow_named events first_history (first_snapshots i) v.sound
      (record { content = content_issued i first_history; sealed = refl; names = v.named }, tt)

-- an answer hands out a snapshot of the history at its end
ended_issues : (i : Instance) (seen end : History) (b : Batch) (moves : List Move) (broken : Option StepFault)
    (found : Result CallFinding Refusal) → ((f : CallFinding) → found ≡ Ok f → NamesPosition i end (content_issued i end))
    → AllByRecursion (IsIssued i end) (snapshots_of (call_ending_by (list_level i) seen end b found moves broken))
ended_issues i seen end b moves (Some fault) found named = tt
ended_issues i seen end b moves None (Err why) named = tt
ended_issues i seen end b moves None (Ok f) named = (record { content = content_issued i end; sealed = refl; names = named f refl }, tt)

-- Opt

-- the step behind the reading steps of a checkpoint
abbrev pub last_steps : Bool → List DeviceStep
last_steps true = []
last_steps false = Writes Close ∷ []

-- the moves of own steps that are ready may be made
walk_may : (meaning : Meaning) (key barrier : List ℕ) (fates : ℕ → StepFate) (steps : List DeviceStep) (y : History) → AreOwn steps
    → ((others : List (List ℕ)) → Ready [] others [] (opt_instance meaning key barrier) fates 1 steps y)
    → AllMay (opt_instance meaning key barrier) y (walk fates 1 steps).moves
walk_may meaning key barrier fates steps y own ready =
    let others : List (List ℕ) = foreign_move_values (walk fates 1 steps).moves in
    may_of [] others [] (opt_instance meaning key barrier) (walk fates 1 steps).moves y
    (walk_fine meaning key barrier [] others [] fates steps 1 y own (each_self [] others) (ready others))

-- those of a checkpoint
checkpoint_may : (meaning : Meaning) (key barrier : List ℕ) (y : History) (c : Course) (flag lost : Bool) → y.is_open ≡ flag
    → is_lost (life_of Opt (sight y c)) ≡ lost → AllMay (opt_instance meaning key barrier) y
    (walk c.fates 1 (checkpoint_steps Opt flag lost)).moves
checkpoint_may meaning key barrier y c false lost e is = walk_may meaning key barrier c.fates (Reads ∷ []) y tt (λ others o. tt)
checkpoint_may meaning key barrier y c true true e is = walk_may meaning key barrier c.fates (Reads ∷ Reads ∷ []) y tt (λ others o p. tt)
checkpoint_may meaning key barrier y c true false e is =
    walk_may meaning key barrier c.fates (Reads ∷ Reads ∷ Writes Close ∷ []) y (refl, tt)
    (λ others o p. ready_closing meaning key barrier [] others [] c.fates (sight y c) e (not_lost (sight y c) is e))

module _ (meaning : Meaning) (key barrier : List ℕ) where
  abbrev me : Instance
  me = opt_instance meaning key barrier

  pub opt_made : (moves : List Move) (y : History) → IsSound y → AllMay me y moves → Lasts me y (state_after_moves (list_level me) y moves)
  opt_made [] y sound may = record { sound = sound; names = λ content named. named }
  opt_made (m ∷ moves) y sound may =
      let r = opt_made moves (history_after me y m) (sound_moved meaning key barrier y m sound may.0) may.1 in
      record { sound = r.sound; names = λ content named. r.names content (opt_names meaning key barrier y m content sound may.0 named) }

  opt_answers : (y : History) (c : Course) (bytes : List ℕ) (b : Batch) → IsSound y
      → (let o = call_outcome me (list_level me) y c bytes b in AllByRecursion (IsIssued me o.state) (snapshots_of o.ending))
  opt_answers y c bytes b sound =
      let seen : History = state_after_moves (list_level me) y (before c) in
      let lists : Result CallFinding Refusal = finding_at me (list_level me) seen b bytes in
      let found : Result CallFinding Refusal = finding_unless_wanting lists c.lacks in
      let walked : StepsWalk = walk c.fates 1 (ask_steps Opt y.is_open (is_fresh found) b) in
      let end : History = state_after_moves (list_level me) y walked.moves in
      let shut = ap (λ (steps : List DeviceStep). has_close (walk c.fates 1 steps).moves) (asks y.is_open (is_fresh found) b)
      ∙ opt_closes c.fates y.is_open (is_fresh found) b in
      ended_issues me seen end b walked.moves walked.broken found
      (λ f is. opt_issued meaning key barrier end (opt_made walked.moves y sound (ask_may meaning key barrier y c bytes b)).sound
      (ap (λ x. has_value (items_of_all x)) (closed_kept me walked.moves y shut)
      ∙ ap (λ (z : History). has_value (items_of_all z.closed)) (sym (sight_is me y c))
      ∙ (live_found meaning key barrier seen b bytes f (unlacked lists c.lacks f is)).clean))

  opt_keeping : Keeping me
  opt_keeping = record {
    made = opt_made;
    call_may = ask_may meaning key barrier;
    check_may = λ y c. checkpoint_may meaning key barrier y c y.is_open
        (is_lost (life_of Opt (state_after_moves (list_level me) y (before c)))) refl
        (ap (λ x. is_lost (life_of Opt x)) (sym (sight_is me y c)));
    power_may = λ y. ((power_fine meaning key barrier [] [] [] y).may, tt);
    foreign_may = λ y value. ((foreign_fine meaning key barrier [] (value ∷ []) [] y value (first_in value [])).may, tt);
    answers = opt_answers;
    sound = first_sound;
    named = opt_issued meaning key barrier first_history first_sound refl;
  }

-- Basic: moves keep what a snapshot names, whichever they are

module _ (meaning : Meaning) (key : List ℕ) where
  abbrev it : Instance
  it = basic_instance meaning key

  basic_made : (moves : List Move) (y : History) → Unit {0} → Unit {0} → Lasts it y (state_after_moves (list_level it) y moves)
  basic_made [] y sound may = record { sound = tt; names = λ content named. named }
  basic_made (m ∷ moves) y sound may =
      let r = basic_made moves (history_after it y m) tt tt in
      record { sound = tt; names = λ content named. r.names content (basic_names meaning key y m content named) }

  basic_answers : (y : History) (c : Course) (bytes : List ℕ) (b : Batch) → Unit {0}
      → (let o = call_outcome it (list_level it) y c bytes b in AllByRecursion (IsIssued it o.state) (snapshots_of o.ending))
  basic_answers y c bytes b sound =
      let seen : History = state_seen it (list_level it) y c in
      let found : Result CallFinding Refusal = finding_unless_wanting (finding_at it (list_level it) seen b bytes) c.lacks in
      let walked : StepsWalk = walk c.fates 1 (ask_steps Basic y.is_open (is_fresh found) b) in
      let end : History = state_after_moves (list_level it) y walked.moves in
      ended_issues it seen end b walked.moves walked.broken found (λ f is. basic_issued meaning key end)

  basic_keeping : Keeping it
  basic_keeping = record {
    made = basic_made;
    call_may = λ y c bytes b. tt;
    check_may = λ y c. tt;
    power_may = λ y. tt;
    foreign_may = λ y value. tt;
    answers = basic_answers;
    sound = tt;
    named = basic_issued meaning key first_history;
  }

-- either variant

keeping : (variant : Variant) (meaning : Meaning) (key barrier : List ℕ) → Keeping (instance_by variant meaning key barrier)
keeping Basic meaning key barrier = basic_keeping meaning key
keeping Opt meaning key barrier = opt_keeping meaning key barrier

module _ (variant : Variant) (meaning : Meaning) (key barrier : List ℕ) where
  pub events_keep_names : EventsKeepNames (instance_by variant meaning key barrier)
  events_keep_names = event_keeps (instance_by variant meaning key barrier) (keeping variant meaning key barrier)

  pub issued_names : IssuedNamePositions (instance_by variant meaning key barrier)
  issued_names = issued_named (instance_by variant meaning key barrier) (keeping variant meaning key barrier)

module _ (meaning : Meaning) (key : List ℕ) where
  pub basic_events_keep_names : EventsKeepNames (basic_instance meaning key)
  basic_events_keep_names = events_keep_names Basic meaning key zero_bytes

  pub basic_issued_named : IssuedNamePositions (basic_instance meaning key)
  basic_issued_named = issued_names Basic meaning key zero_bytes

  module _ (barrier : List ℕ) where
    pub opt_events_keep_names : EventsKeepNames (opt_instance meaning key barrier)
    opt_events_keep_names = events_keep_names Opt meaning key barrier

    pub opt_issued_named : IssuedNamePositions (opt_instance meaning key barrier)
    opt_issued_named = issued_names Opt meaning key barrier

-- Moves that the core doesn't make: values of others, and losses of power. They change the register's items alone.
use Rattle.mm_sides.proofs.Below.{ℕ, ◌≡◌, ◌+◌, Bool, true, false, List, [], ◌∷◌, map, Option, None, Some, Result, Ok, Err, refl, ap, ◌∙◌}
use Rattle.mm_sides.proofs.Below.{◌++◌, sym, subst, if◌then◌else◌, ◌==◌, filter, AllByRecursion, Contains, append-nil, StepFault, Meddle}
use Rattle.mm_sides.proofs.Below.{Stop, Cut, Instance, History, Move, Foreign, PowerMove, history_after, Reads, each_append, each_left}
use Rattle.mm_sides.proofs.Below.{each_right, End, Done, Fails, StepFate, StepsWalk, walk, walk_from_step, has_commit, list_level}
use Rattle.mm_sides.proofs.Below.{state_after_moves, digest_level, moves_after_stop, course_of, Outcome, outcome_by, outcome_without_call}
use Rattle.mm_sides.proofs.Below.{read_only_outcome, vain_ask_outcome, vain_event_outcome, DenialCause, FoundMove, move_steps}
use Rattle.mm_sides.proofs.Below.{stopped_moves, state_after_steps, list_mover, Variant, Basic, Opt, Batch, One, Meaning, is_long}
use Rattle.mm_sides.proofs.Below.{AreMessagesIn, IsClear, messages_for_move, Digests, digests_after, Refusal, messages_of_moves}
use Rattle.mm_sides.proofs.Below.{call_outcome_by, instance_by, Event, Ask, Checkpoint, Power, Extend, offered_bytes, KeepsHistory}
use Rattle.mm_sides.proofs.Below.{EventsAgree, IsSoundIn, EventsKeepNames, event_foreign_values, AreApartIn, basic_events_agree}
use Rattle.mm_sides.proofs.Below.{opt_events_agree, basic_events_keep_names, opt_events_keep_names, read_moves, vain_ask_moves, vain_moves}
use Rattle.mm_platform.specs.Standing.{due_values}
use Rattle.mm_call.specs.CallOutcome.{position_if_committed}
use Rattle.mm_schedule.specs.Replies.{IsBatchStep, IsStepWithoutBatch, IsRunStep}
use Rattle.mm_schedule.specs.declared.reply.Way.{Way}
use Rattle.mm_outcome.proofs.Above.{broken_reply}
use Rattle.mm_sides.proofs.Below.{way_of}
use Rattle.mm_model.specs.Messages.{move_messages}

-- by what is known of the values
abbrev pub IsOuter : (List ℕ → Type 0) → Move → Type 0
IsOuter P (Foreign value) = P value
IsOuter P PowerMove = Unit {0}
IsOuter P move = ⊥

abbrev pub AreOuter : (List ℕ → Type 0) → List Move → Type 0
AreOuter P moves = AllByRecursion (IsOuter P) moves

module _ (P : List ℕ → Type 0) where
  pub foreign_outer : (values : List (List ℕ)) → AllByRecursion P values → AreOuter P (map Foreign values)
  foreign_outer [] h = tt
  foreign_outer (v ∷ values) h = (h.0, foreign_outer values h.1)

  step_outer : (values : List (List ℕ)) (ends : End) (rest : StepsWalk) → AllByRecursion P values → AreOuter P rest.moves
      → AreOuter P (walk_from_step Reads values ends rest).moves
  step_outer values Done rest h r = each_append (IsOuter P) (map Foreign values) rest.moves (foreign_outer values h) r
  step_outer values (Fails fault made) rest h r = foreign_outer values h

  pub read_outer : (fates : ℕ → StepFate) (n : ℕ) → ((m : ℕ) → AllByRecursion P (fates m).brings)
      → AreOuter P (walk fates n (Reads ∷ [])).moves
  read_outer fates n h = step_outer (fates n).brings (fates n).ends (walk fates (n + 1) []) (h n) tt

  pub reads_outer : (fates : ℕ → StepFate) → ((m : ℕ) → AllByRecursion P (fates m).brings)
      → AreOuter P (walk fates 1 (Reads ∷ Reads ∷ [])).moves
  reads_outer fates h = step_outer (fates 1).brings (fates 1).ends (walk fates 2 (Reads ∷ [])) (h 1) (read_outer fates 2 h)

  by_again : (fates : ℕ → StepFate) (again : Bool) → ((m : ℕ) → AllByRecursion P (fates m).brings)
      → AreOuter P (walk fates 1 (if again then Reads ∷ [] else Reads ∷ Reads ∷ [])).moves
  by_again fates true h = read_outer fates 1 h
  by_again fates false h = reads_outer fates h

  pub found_outer : (fates : ℕ → StepFate) (found : Result FoundMove DenialCause) → ((m : ℕ) → AllByRecursion P (fates m).brings)
      → AreOuter P (walk fates 1 (move_steps found)).moves
  found_outer fates (Ok found) h = by_again fates found.again h
  found_outer fates (Err cause) h = read_outer fates 1 h

  pub stop_outer : (stop : Stop) → AreOuter P (moves_after_stop stop)
  stop_outer (Cut n) = (tt, tt)
  stop_outer stop = tt

  pub stopped_outer : (stop : Stop) (broken : Option StepFault) → AreOuter P (stopped_moves stop broken)
  stopped_outer stop None = tt
  stopped_outer stop (Some fault) = stop_outer stop

  due_by : (b : Bool) (m : Meddle) (more : List Meddle) → P m.value.bytes → AllByRecursion P (map (λ (x : Meddle). x.value.bytes) more)
      → AllByRecursion P (map (λ (x : Meddle). x.value.bytes) (if b then m ∷ more else more))
  due_by true m more p h = (p, h)
  due_by false m more p h = h

  -- the values that are due before a step are values of the meddles
  pub due_among : (meddles : List Meddle) → AllByRecursion P (map (λ (x : Meddle). x.value.bytes) meddles) → (n : ℕ)
      → AllByRecursion P (due_values n meddles)
  due_among [] h n = tt
  due_among (m ∷ meddles) h n = due_by (m.step == n) m (filter (λ (x : Meddle). x.step == n) meddles) h.0 (due_among meddles h.1 n)

-- nothing known
pub any_value : (xs : List (List ℕ)) → AllByRecursion (λ (v : List ℕ). Unit {0}) xs
any_value [] = tt
any_value (x ∷ xs) = (tt, any_value xs)

-- all of a history but the register's items is as it was
pub record IsAlike (y z : History) : Type 0 where
  pub is : z ≡ record y { items = z.items }

pub outer_alike : (P : List ℕ → Type 0) (i : Instance) (moves : List Move) (y : History) → AreOuter P moves
    → IsAlike y (state_after_moves (list_level i) y moves)
outer_alike P i [] y h = record { is = refl }
outer_alike P i (Foreign v ∷ moves) y h = record { is = (outer_alike P i moves (history_after i y (Foreign v)) h.1).is }
outer_alike P i (PowerMove ∷ moves) y h = record { is = (outer_alike P i moves (history_after i y PowerMove) h.1).is }
outer_alike P i moves y h = absurd h.0

pub alike_on : (x y z : History) → IsAlike x y → IsAlike y z → IsAlike x z
alike_on x y z a b = record { is = b.is ∙ ap (λ (w : History). record w { items = z.items }) a.is }

pub same_batches : (y z : History) → IsAlike y z → z.batches ≡ y.batches
same_batches y z a = ap (λ (w : History). w.batches) a.is

pub same_open : (y z : History) → IsAlike y z → z.is_open ≡ y.is_open
same_open y z a = ap (λ (w : History). w.is_open) a.is

pub brought_alike : (i : Instance) (y : History) (meddles : List Meddle) (stop : Stop) (found : Result FoundMove DenialCause)
    → IsAlike y (state_after_steps list_mover i y meddles stop (move_steps found))
brought_alike i y meddles stop found =
    let P : List ℕ → Type 0 = λ v. Unit {0} in
    let fates : ℕ → StepFate = (course_of stop meddles).fates in
    let walked : StepsWalk = walk fates 1 (move_steps found) in
    let z : History = state_after_moves (list_level i) y walked.moves in
    alike_on y z (state_after_steps list_mover i y meddles stop (move_steps found))
    (outer_alike P i walked.moves y (found_outer P fates found (λ n. any_value (fates n).brings)))
    (outer_alike P i (stopped_moves stop walked.broken) z (stopped_outer P stop walked.broken))

-- what an event in vain leaves

record VainCall (i : Instance) (y : History) (issued' : List (List ℕ)) (o : Outcome History) : Type 0 where
  alike : IsAlike y o.state
  issued_is : o.issued ≡ issued'
  runs : (r : List (List ℕ)) (b : Batch) → IsBatchStep i.meaning r b o.reply r
  asks : (r : List (List ℕ)) → IsStepWithoutBatch r o.reply r

pub record InVain (i : Instance) (y : History) (issued' : List (List ℕ)) (event : Event) (o : Outcome History) : Type 0 where
  pub alike : IsAlike y o.state
  pub issued_is : o.issued ≡ issued'
  pub steps : (r : List (List ℕ)) → IsRunStep i.meaning r event o.reply r

commits_outer : (P : List ℕ → Type 0) (moves : List Move) → AreOuter P moves → has_commit moves ≡ false
commits_outer P [] h = refl
commits_outer P (Foreign v ∷ moves) h = commits_outer P moves h.1
commits_outer P (PowerMove ∷ moves) h = commits_outer P moves h.1
commits_outer P moves h = absurd h.0

module _ (i : Instance) (y : History) (snapshots : List (List ℕ)) (stop : Stop) (why : Refusal) where
  abbrev Any : List ℕ → Type 0
  Any v = Unit {0}

  kept_none : (how : Way) (commits : Bool) → commits ≡ false → (r : List (List ℕ)) (b : Batch)
      → IsBatchStep i.meaning r b (broken_reply how (position_if_committed commits 0)) r × IsStepWithoutBatch r
      (broken_reply how (position_if_committed commits 0)) r
  kept_none how true e r b = cc
  kept_none how false e r b = (refl, refl)

  left_by_walk : (w : StepsWalk) (broken : Option StepFault) → AreOuter Any w.moves → VainCall i y snapshots
      (outcome_by (list_level i) stop snapshots (call_outcome_by (list_level i) y y (One []) (Err why) (record w { broken = broken })))
  left_by_walk w None h = record {
    alike = outer_alike Any i w.moves y h;
    issued_is = append-nil snapshots;
    runs = λ r b. refl;
    asks = λ r. refl;
  }
  left_by_walk w (Some fault) h =
      let z : History = state_after_moves (list_level i) y w.moves in
      record {
        alike = alike_on y z (state_after_moves (list_level i) z (moves_after_stop stop)) (outer_alike Any i w.moves y h)
            (outer_alike Any i (moves_after_stop stop) z (stop_outer Any stop));
        issued_is = append-nil snapshots;
        runs = λ r b. (kept_none (way_of stop) (has_commit w.moves) (commits_outer Any w.moves h) r b).0;
        asks = λ r. (kept_none (way_of stop) (has_commit w.moves) (commits_outer Any w.moves h) r (One [])).1;
      }

  reads_leave : (meddles : List Meddle) → VainCall i y snapshots (read_only_outcome (list_level i) y snapshots meddles stop why)
  reads_leave meddles =
      let fates : ℕ → StepFate = (course_of stop meddles).fates in
      let w : StepsWalk = walk fates 1 (Reads ∷ []) in
      left_by_walk w w.broken (read_outer Any fates 1 (λ n. any_value (fates n).brings))

  if_left : (long : Bool) (a b : Outcome History) → VainCall i y snapshots a → VainCall i y snapshots b
      → VainCall i y snapshots (if long then a else b)
  if_left true a b p q = p
  if_left false a b p q = q

  asked_leaves : (meddles : List Meddle) (bytes : Option (List ℕ)) (b : Batch)
      → VainCall i y snapshots (vain_ask_outcome (list_level i) y snapshots meddles stop why bytes b)
  asked_leaves meddles None b = record { alike = record { is = refl }; issued_is = refl; runs = λ r b. refl; asks = λ r. refl }
  asked_leaves meddles (Some bytes) b = if_left (is_long b) _ _
      (record { alike = record { is = refl }; issued_is = refl; runs = λ r b. refl; asks = λ r. refl }) (reads_leave meddles)

pub in_vain : (i : Instance) (y : History) (snapshots : List (List ℕ)) (why : Refusal) (event : Event)
    → InVain i y snapshots event (vain_event_outcome (list_level i) y snapshots why event)
in_vain i y snapshots why (Ask meddles stop offer b) =
    let c = asked_leaves i y snapshots stop why meddles (offered_bytes snapshots offer) b in
    record { alike = c.alike; issued_is = c.issued_is; steps = λ r. c.runs r b }
in_vain i y snapshots why (Checkpoint meddles stop) =
    let c = reads_leave i y snapshots stop why meddles in record { alike = c.alike; issued_is = c.issued_is; steps = c.asks }
in_vain i y snapshots why event = record { alike = record { is = refl }; issued_is = refl; steps = λ r. refl }

-- What others and losses of power keep, by digests and by lists; and what a call in vain comes to.

pub events_agree : (variant : Variant) (meaning : Meaning) (key barrier : List ℕ) → EventsAgree (instance_by variant meaning key barrier)
events_agree Basic meaning key barrier = basic_events_agree meaning key
events_agree Opt meaning key barrier = opt_events_agree meaning key barrier

pub events_keep_names : (variant : Variant) (meaning : Meaning) (key barrier : List ℕ)
    → EventsKeepNames (instance_by variant meaning key barrier)
events_keep_names Basic meaning key barrier = basic_events_keep_names meaning key
events_keep_names Opt meaning key barrier = opt_events_keep_names meaning key barrier

power_by : (variant : Variant) (flag : Bool) (i : Instance) (y : History) → messages_for_move variant flag i y PowerMove ≡ []
power_by Opt true i y = refl
power_by _ flag i y = refl

-- a loss of power has no message
pub stop_listed : (i : Instance) (y : History) (all : List (List ℕ)) (stop : Stop)
    → AreMessagesIn (messages_of_moves i y (moves_after_stop stop)) all
stop_listed i y all (Cut n) = subst (λ m. AreMessagesIn (m ++ []) all) (sym (power_by i.variant y.is_open i y)) tt
stop_listed i y all stop = tt

-- a history stays sound
pub outer_sound : (i : Instance) → EventsKeepNames i → (P : List ℕ → Type 0) (moves : List Move) (y : History) → AreOuter P moves
    → IsSoundIn i.variant y → IsSoundIn i.variant (state_after_moves (list_level i) y moves)
outer_sound i keep P [] y h sound = sound
outer_sound i keep P (Foreign v ∷ moves) y h sound =
    outer_sound i keep P moves (history_after i y (Foreign v)) h.1 (keep y [] (Extend v) sound).sound
outer_sound i keep P (PowerMove ∷ moves) y h sound =
    outer_sound i keep P moves (history_after i y PowerMove) h.1 (keep y [] Power sound).sound
outer_sound i keep P moves y h sound = absurd h.0

module _ (all others : List (List ℕ)) (asked : List Batch) (i : Instance) (agree : EventsAgree i) (clear : IsClear all)
    (apart : AreApartIn i.variant i others asked) where
  one_keeps : (y : History) (d : Digests) (m : Move) → AreMessagesIn (move_messages i y m) all
      → AreMessagesIn (messages_of_moves i y (m ∷ [])) all
  one_keeps y d m h = each_append (Contains all) (move_messages i y m) [] h tt

  pub outer_keeps : (moves : List Move) (y : History) (d : Digests) → AreOuter (Contains others) moves
      → AreMessagesIn (messages_of_moves i y moves) all
      → KeepsHistory all others asked i y d → KeepsHistory all others asked i (state_after_moves (list_level i) y moves)
      (state_after_moves (digest_level i) d moves)
  outer_keeps [] y d h listed k = k
  outer_keeps (Foreign v ∷ moves) y d h listed k =
      let rest : List (List ℕ) = messages_of_moves i (history_after i y (Foreign v)) moves in
      let here = one_keeps y d (Foreign v) (each_left (Contains all) (move_messages i y (Foreign v)) rest listed) in
      let s = agree all others asked clear apart y d [] (Extend v) k
      (record { outside = (h.0, tt); batches = tt; listed = tt; genuine = tt; messages = here }) in
      outer_keeps moves (history_after i y (Foreign v)) (digests_after i d (Foreign v)) h.1
      (each_right (Contains all) (move_messages i y (Foreign v)) rest listed) s.keeps
  outer_keeps (PowerMove ∷ moves) y d h listed k =
      let rest : List (List ℕ) = messages_of_moves i (history_after i y PowerMove) moves in
      let here = one_keeps y d PowerMove (each_left (Contains all) (move_messages i y PowerMove) rest listed) in
      let s = agree all others asked clear apart y d [] Power k
      (record { outside = tt; batches = tt; listed = tt; genuine = tt; messages = here }) in
      outer_keeps moves (history_after i y PowerMove) (digests_after i d PowerMove) h.1
      (each_right (Contains all) (move_messages i y PowerMove) rest listed) s.keeps
  outer_keeps moves y d h listed k = absurd h.0

  -- What a call in vain comes to, by digests and by lists.
  pub record IsSameVain (lists : Outcome History) (digests : Outcome Digests) : Type 0 where
    pub reply : digests.reply ≡ lists.reply
    pub issued : digests.issued ≡ lists.issued
    pub keeps : KeepsHistory all others asked i lists.state digests.state

  vain_moved : (moves : List Move) (y : History) (d : Digests) (stop : Stop) → AreOuter (Contains others) moves
      → AreMessagesIn (messages_of_moves i y moves) all → KeepsHistory all others asked i y d
      → KeepsHistory all others asked i (state_after_moves (list_level i) (state_after_moves (list_level i) y moves)
      (moves_after_stop stop))
      (state_after_moves (digest_level i) (state_after_moves (digest_level i) d moves) (moves_after_stop stop))
  vain_moved moves y d stop h listed k =
      outer_keeps (moves_after_stop stop) (state_after_moves (list_level i) y moves) (state_after_moves (digest_level i) d moves)
      (stop_outer (Contains others) stop)
      (stop_listed i (state_after_moves (list_level i) y moves) all stop) (outer_keeps moves y d h listed k)

  vain_by : (y : History) (d : Digests) (issued : List (List ℕ)) (stop : Stop) (why : Refusal) (moves : List Move) (steps writes : ℕ)
      (broken : Option StepFault) → AreOuter (Contains others) moves → AreMessagesIn (messages_of_moves i y moves) all
      → KeepsHistory all others asked i y d
      → (let w : StepsWalk = record { moves = moves; steps = steps; writes = writes; broken = broken } in
      IsSameVain (outcome_by (list_level i) stop issued (call_outcome_by (list_level i) y y (One []) (Err why) w))
      (outcome_by (digest_level i) stop issued (call_outcome_by (digest_level i) d d (One []) (Err why) w)))
  vain_by y d issued stop why moves steps writes None h listed k =
      record { reply = refl; issued = refl; keeps = outer_keeps moves y d h listed k }
  vain_by y d issued stop why moves steps writes (Some fault) h listed k =
      record { reply = refl; issued = refl; keeps = vain_moved moves y d stop h listed k }

  reads_same : (y : History) (d : Digests) (issued : List (List ℕ)) (meddles : List Meddle) (stop : Stop) (why : Refusal)
      → AllByRecursion (Contains others) (map (λ (m : Meddle). m.value.bytes) meddles)
      → AreMessagesIn (messages_of_moves i y (read_moves meddles stop (Reads ∷ []))) all → KeepsHistory all others asked i y d
      → IsSameVain (read_only_outcome (list_level i) y issued meddles stop why)
      (read_only_outcome (digest_level i) d issued meddles stop why)
  reads_same y d issued meddles stop why outside listed k =
      let fates : ℕ → StepFate = (course_of stop meddles).fates in
      let w : StepsWalk = walk fates 1 (Reads ∷ []) in
      vain_by y d issued stop why w.moves w.steps w.writes w.broken
      (read_outer (Contains others) fates 1 (λ n. due_among (Contains others) meddles outside n)) listed k

  if_same : (y : History) (long : Bool) (a b : Outcome History) (x z : Outcome Digests) → IsSameVain a x
      → (long ≡ false → IsSameVain b z) → IsSameVain (if long then a else b) (if long then x else z)
  if_same y true a b x z p q = p
  if_same y false a b x z p q = q refl

  unless_long : (y : History) (long : Bool) (moves : List Move) → AreMessagesIn (messages_of_moves i y (if long then [] else moves)) all
      → long ≡ false → AreMessagesIn (messages_of_moves i y moves) all
  unless_long y true moves h e = cc
  unless_long y false moves h e = h

  uncalled_same : (y : History) (d : Digests) (issued : List (List ℕ)) (said : _) → KeepsHistory all others asked i y d
      → IsSameVain (outcome_without_call y issued said) (outcome_without_call d issued said)
  uncalled_same y d issued said k = record { reply = refl; issued = refl; keeps = k }

  asked_same : (y : History) (d : Digests) (issued : List (List ℕ)) (meddles : List Meddle) (stop : Stop) (why : Refusal)
      (bytes : Option (List ℕ)) (b : Batch) → AllByRecursion (Contains others) (map (λ (m : Meddle). m.value.bytes) meddles)
      → AreMessagesIn (messages_of_moves i y (vain_ask_moves meddles stop bytes b)) all → KeepsHistory all others asked i y d
      → IsSameVain (vain_ask_outcome (list_level i) y issued meddles stop why bytes b)
      (vain_ask_outcome (digest_level i) d issued meddles stop why bytes b)
  asked_same y d issued meddles stop why None b outside listed k = uncalled_same y d issued _ k
  asked_same y d issued meddles stop why (Some bytes) b outside listed k = if_same y (is_long b) _ _ _ _ (uncalled_same y d issued _ k)
      (λ short. reads_same y d issued meddles stop why outside
      (unless_long y (is_long b) (read_moves meddles stop (Reads ∷ [])) listed short) k)

  pub vain_same : (y : History) (d : Digests) (issued : List (List ℕ)) (why : Refusal) (event : Event)
      → AllByRecursion (Contains others) (event_foreign_values event)
      → AreMessagesIn (messages_of_moves i y (vain_moves issued event)) all → KeepsHistory all others asked i y d
      → IsSameVain (vain_event_outcome (list_level i) y issued why event) (vain_event_outcome (digest_level i) d issued why event)
  vain_same y d issued why (Ask meddles stop offer b) outside listed k =
      asked_same y d issued meddles stop why (offered_bytes issued offer) b outside listed k
  vain_same y d issued why (Checkpoint meddles stop) outside listed k = reads_same y d issued meddles stop why outside listed k
  vain_same y d issued why Power outside listed k = record {
    reply = refl;
    issued = refl;
    keeps = outer_keeps (PowerMove ∷ []) y d (tt, tt) listed k;
  }
  vain_same y d issued why (Extend v) outside listed k = record {
    reply = refl;
    issued = refl;
    keeps = outer_keeps (Foreign v ∷ []) y d (outside.0, tt) listed k;
  }

-- Opt: the moves of a walk may be made, where its steps are ready, as those of a call are; and the history at its end.
use Rattle.mm_call.proofs.Below.{ℕ, ◌≡◌, ◌+◌, Bool, true, false, List, [], ◌∷◌, ◌++◌, map, None, refl, ap, ◌∙◌, subst, AllByRecursion}
use Rattle.mm_call.proofs.Below.{Contains, Opt, Meaning, Batch, Instance, opt_instance, History, Move, Foreign, history_after}
use Rattle.mm_call.proofs.Below.{AreMessagesIn, move_messages, Digests, digests_after, DeviceStep, Reads, Changes, Writes, ask_steps}
use Rattle.mm_call.proofs.Below.{checkpoint_steps, each_left, each_right, list_level, digest_level, state_after_moves, End, Done, Fails}
use Rattle.mm_call.proofs.Below.{StepFate, StepsWalk, walk_from_step, walk, messages_of_moves, foreign_move_values, history_with_values}
use Rattle.mm_call.proofs.Below.{taking_is, foreign_made, foreign_move_values-first, foreign_move_values-append}
use Rattle.mm_call.proofs.Below.{foreign_move_values-foreign, append-nil, made-append, step_moves, EachMove, steps_of_change, asks, sym}
use Rattle.mm_call.proofs.Below.{guard, RegisterEntry, Own, Value, Commit, PlacedMove, Reset, Close, entries_with_last_batch, items_of_all}
use Rattle.mm_call.proofs.Below.{is_empty, has_value, batches_in, IsOpening, IsAllowed, values_in, renamed-push, batch_messages, not}
use Rattle.mm_call.proofs.Below.{zero_bytes, extended_digest_of, register_of, own_values, are_own, issued_place, register-push}
use Rattle.mm_call.proofs.Below.{own_values-append, values_of-own, reads_zero, DigestsAgree, place_after_batch, arith, extended_message}
use Rattle.mm_call.proofs.Below.{guard_message, MayMove, each_self, Course, finding_at, finding_unless_wanting, is_fresh, Result}
use Rattle.mm_call.proofs.Below.{CallFinding, Refusal, IsSound, NamesPosition, Content, sound_moved, opt_names}
use Rattle.mm_call.proofs.OptHolding.{Holds, IsFine, holds_moved, foreign_fine, reset_may}
use Rattle.mm_call.proofs.Finding.{IsLive, live_found, fresh_found}
use Rattle.mm_call.proofs.BasicLaw.{unlacked}

-- what holds of each of the moves, at the history from which it is made
abbrev pub Each : (History → Move → Type 0) → Instance → History → List Move → Type 0
Each P i y [] = Unit {0}
Each P i y (m ∷ moves) = P y m × Each P i (history_after i y m) moves

pub each-made : (P : History → Move → Type 0) (i : Instance) (xs ys : List Move) (y : History) → Each P i y xs
    → Each P i (state_after_moves (list_level i) y xs) ys → Each P i y (xs ++ ys)
each-made P i [] ys y a b = b
each-made P i (x ∷ xs) ys y a b = (a.0, each-made P i xs ys (history_after i y x) a.1 b)

-- each of the moves may be made, one after another
abbrev pub AllFine : List (List ℕ) → List (List ℕ) → List Batch → Instance → History → List Move → Type 0
AllFine all others asked i = Each (IsFine all others asked i) i

-- the history after a step that is done
abbrev pub stood : Instance → DeviceStep → List (List ℕ) → History → History
stood i Reads values y = history_with_values y values
stood i (Changes m) values y = history_after i (history_with_values y values) m
stood i (Writes m) values y = history_with_values (history_after i y m) values

stood_is : (i : Instance) (step : DeviceStep) (values : List (List ℕ)) (y : History)
    → state_after_moves (list_level i) y (step_moves step true values) ≡ stood i step values y
stood_is i Reads values y = taking_is i values y
stood_is i (Changes m) values y = foreign_made i values (m ∷ []) y
stood_is i (Writes m) values y = taking_is i values (history_after i y m)

-- it holds of the move of a step, with these values of others beside it
abbrev IsStepReady : (History → Move → Type 0) → DeviceStep → List (List ℕ) → History → Type 0
IsStepReady P Reads values y = Unit {0}
IsStepReady P (Changes m) values y = P (history_with_values y values) m
IsStepReady P (Writes m) values y = P y m

-- As far as a walk comes it holds of each move, where what others put in beside it is among `others`.
abbrev pub ReadyFor : (History → Move → Type 0) → List (List ℕ) → Instance → (ℕ → StepFate) → ℕ → List DeviceStep → History → Type 0
ReadyFor P others i fates n [] y = Unit {0}
ReadyFor P others i fates n (Reads ∷ steps) y =
    AllByRecursion (Contains others) (fates n).brings → ReadyFor P others i fates (n + 1) steps (history_with_values y (fates n).brings)
ReadyFor P others i fates n (step ∷ steps) y =
    AllByRecursion (Contains others) (fates n).brings → IsStepReady P step (fates n).brings y
    × ReadyFor P others i fates (n + 1) steps (stood i step (fates n).brings y)

-- The steps of a walk are ready from a history: as far as the walk comes each move may be made.
abbrev pub Ready : List (List ℕ) → List (List ℕ) → List Batch → Instance → (ℕ → StepFate) → ℕ → List DeviceStep → History → Type 0
Ready all others asked i = ReadyFor (IsFine all others asked i) others i

-- the history at the end of a call that isn't broken off
abbrev pub path_end : Instance → (ℕ → StepFate) → ℕ → List DeviceStep → History → History
path_end i fates n [] y = y
path_end i fates n (step ∷ steps) y = path_end i fates (n + 1) steps (stood i step (fates n).brings y)

path_step : (i : Instance) (step : DeviceStep) (values : List (List ℕ)) (ends : End) (rest : StepsWalk) (y end : History)
    → (rest.broken ≡ None → state_after_moves (list_level i) (stood i step values y) rest.moves ≡ end)
    → (let w : StepsWalk = walk_from_step step values ends rest in w.broken ≡ None → state_after_moves (list_level i) y w.moves ≡ end)
path_step i step values Done rest y end h e =
    made-append (list_level i) (step_moves step true values) rest.moves y
    ∙ ap (λ z. state_after_moves (list_level i) z rest.moves) (stood_is i step values y) ∙ h e
path_step i step values (Fails fault made) rest y end h e = cc

pub path_is : (i : Instance) (fates : ℕ → StepFate) (steps : List DeviceStep) (n : ℕ) (y : History) → (walk fates n steps).broken ≡ None
    → state_after_moves (list_level i) y (walk fates n steps).moves ≡ path_end i fates n steps y
path_is i fates [] n y e = refl
path_is i fates (step ∷ steps) n y e =
    path_step i step (fates n).brings (fates n).ends (walk fates (n + 1) steps) y _
    (path_is i fates steps (n + 1) (stood i step (fates n).brings y)) e

-- a step's own move is none of others'
abbrev pub AreOwn : List DeviceStep → Type 0
AreOwn steps = EachMove (λ moves. foreign_move_values moves ≡ []) steps

-- so what others put in among the moves of a step is what comes before it
pub step_brings : (step : DeviceStep) (made : Bool) (values : List (List ℕ)) → AreOwn (step ∷ [])
    → foreign_move_values (step_moves step made values) ≡ values
step_brings Reads made values own = foreign_move_values-foreign values
step_brings (Changes m) true values own = foreign_move_values-first values (m ∷ []) ∙ ap (λ w. values ++ w) own.0 ∙ append-nil values
step_brings (Changes m) false values own = foreign_move_values-first values [] ∙ append-nil values
step_brings (Writes m) true values own =
    foreign_move_values-append (m ∷ []) (map Foreign values) ∙ ap (λ w. w ++ foreign_move_values (map Foreign values)) own.0
    ∙ foreign_move_values-foreign values
step_brings (Writes m) false values own = foreign_move_values-foreign values

-- what others put in among moves is theirs
module _ (others : List (List ℕ)) where
  abbrev pub Outside : List Move → Type 0
  Outside moves = AllByRecursion (Contains others) (foreign_move_values moves)

  -- among first moves, and among those behind
  outside_parts : (xs ys : List Move) → Outside (xs ++ ys) → Outside xs × Outside ys
  outside_parts xs ys h =
      let w = subst (AllByRecursion (Contains others)) (foreign_move_values-append xs ys) h in (
        each_left (Contains others) (foreign_move_values xs) (foreign_move_values ys) w,
        each_right (Contains others)
            (foreign_move_values xs) (foreign_move_values ys) w,
      )

  pub front_outside : (values : List (List ℕ)) (moves : List Move) → Outside (map Foreign values ++ moves)
      → AllByRecursion (Contains others) values × Outside moves
  front_outside values moves h =
      let o = outside_parts (map Foreign values) moves h in
      (subst (AllByRecursion (Contains others)) (foreign_move_values-foreign values) o.0, o.1)

-- what holds of each move of a walk
module _ (P : History → Move → Type 0) (others : List (List ℕ)) (i : Instance)
    (foreign : (y : History) (v : List ℕ) → Contains others v → P y (Foreign v)) where
  each_foreign : (values : List (List ℕ)) (y : History) → AllByRecursion (Contains others) values → Each P i y (map Foreign values)
  each_foreign [] y h = tt
  each_foreign (v ∷ values) y h = (foreign y v h.0, each_foreign values (history_after i y (Foreign v)) h.1)

  each_then : (values : List (List ℕ)) (moves : List Move) (y : History) → AllByRecursion (Contains others) values
      → Each P i (history_with_values y values) moves → Each P i y (map Foreign values ++ moves)
  each_then values moves y outside each =
      each-made P i (map Foreign values) moves y (each_foreign values y outside)
      (rw (taking_is i values y) each)

  step_each : (step : DeviceStep) (made : Bool) (values : List (List ℕ)) (y : History) → AllByRecursion (Contains others) values
      → IsStepReady P step values y → Each P i y (step_moves step made values)
  step_each Reads made values y o f = each_foreign values y o
  step_each (Changes m) true values y o f = each_then values (m ∷ []) y o (f, tt)
  step_each (Changes m) false values y o f = each_then values [] y o tt
  step_each (Writes m) true values y o f = (f, each_foreign values (history_after i y m) o)
  step_each (Writes m) false values y o f = each_foreign values y o

  after_each : (step : DeviceStep) (values : List (List ℕ)) (ends : End) (rest : StepsWalk) (y : History) → AreOwn (step ∷ [])
      → Outside others (walk_from_step step values ends rest).moves → (AllByRecursion (Contains others) values
      → IsStepReady P step values y × (Outside others rest.moves → Each P i (stood i step values y) rest.moves))
      → Each P i y (walk_from_step step values ends rest).moves
  after_each step values Done rest y own outside h =
      let o = outside_parts others (step_moves step true values) rest.moves outside in
      let v = subst (AllByRecursion (Contains others)) (step_brings step true values own) o.0 in
      each-made P i (step_moves step true values) rest.moves y (step_each step true values y v (h v).0)
      (rw (stood_is i step values y) ((h v).1 o.1))
  after_each step values (Fails fault made) rest y own outside h =
      let v = subst (AllByRecursion (Contains others)) (step_brings step made values own) outside in
      step_each step made values y v (h v).0

  pub walk_each : (fates : ℕ → StepFate) (steps : List DeviceStep) (n : ℕ) (y : History) → AreOwn steps
      → Outside others (walk fates n steps).moves → ReadyFor P others i fates n steps y → Each P i y (walk fates n steps).moves
  walk_each fates [] n y own outside ready = tt
  walk_each fates (Reads ∷ steps) n y own outside ready =
      after_each Reads (fates n).brings (fates n).ends (walk fates (n + 1) steps) y tt outside
      (λ o. (tt, λ later. walk_each fates steps (n + 1) (history_with_values y (fates n).brings) own later (ready o)))
  walk_each fates (Changes m ∷ steps) n y own outside ready =
      after_each (Changes m) (fates n).brings (fates n).ends (walk fates (n + 1) steps) y (own.0, tt) outside
      (λ o. ((ready o).0, λ later. walk_each fates steps (n + 1) _ own.1 later (ready o).1))
  walk_each fates (Writes m ∷ steps) n y own outside ready =
      after_each (Writes m) (fates n).brings (fates n).ends (walk fates (n + 1) steps) y (own.0, tt) outside
      (λ o. ((ready o).0, λ later. walk_each fates steps (n + 1) _ own.1 later (ready o).1))

pub own_changing : (flag fresh : Bool) (b : Batch) → AreOwn (steps_of_change flag fresh b)
own_changing true true b = (refl, tt)
own_changing false true b = (refl, (refl, (refl, tt)))
own_changing _ false b = tt

pub own_asked : (flag fresh : Bool) (b : Batch) → AreOwn (ask_steps Opt flag fresh b)
own_asked flag fresh b = subst AreOwn (sym (asks flag fresh b)) (own_changing flag fresh b)

pub own_checked : (flag lost : Bool) → AreOwn (checkpoint_steps Opt flag lost)
own_checked true false = (refl, tt)
own_checked _ _ = tt

append_held : (xs ys : List RegisterEntry) → is_empty xs ≡ false → is_empty (xs ++ ys) ≡ false
append_held [] ys e = cc
append_held (x ∷ xs) ys e = refl

no_batches : (values : List (List ℕ)) → batches_in (map Value values) ≡ []
no_batches [] = refl
no_batches (v ∷ values) = no_batches values

values_then : (values : List (List ℕ)) (b : Batch) → values_in (map Value values ++ Own b ∷ []) ≡ values
values_then [] b = refl
values_then (v ∷ values) b = ap (λ x. v ∷ x) (values_then values b)

-- what a batch needs to be committed inside a segment, or to open one
pub record IsDue (all : List (List ℕ)) (asked : List Batch) (i : Instance) (y : History) (b : Batch) : Type 0 where
  pub commits : AreMessagesIn (batch_messages i y (Commit b)) all
  pub asked_for : Contains asked b

-- the moves that come before the last reading step
abbrev pub before : Course → List Move
before c = map Foreign (c.fates 1).brings ++ (map Foreign (c.fates 2).brings ++ [])

-- what is seen by lists
abbrev pub sight : History → Course → History
sight y c = history_with_values (history_with_values y (c.fates 1).brings) (c.fates 2).brings

pub sight_is : (i : Instance) (y : History) (c : Course) → state_after_moves (list_level i) y (before c) ≡ sight y c
sight_is i y c =
    foreign_made i (c.fates 1).brings (map Foreign (c.fates 2).brings ++ []) y
    ∙ foreign_made i (c.fates 2).brings [] (history_with_values y (c.fates 1).brings)

-- moves that may be made one after another
abbrev pub AllMay : Instance → History → List Move → Type 0
AllMay i = Each (MayMove i) i

pub may_of : (all others : List (List ℕ)) (asked : List Batch) (i : Instance) (moves : List Move) (y : History)
    → AllFine all others asked i y moves → AllMay i y moves
may_of all others asked i [] y fine = tt
may_of all others asked i (m ∷ moves) y fine = (fine.0.may, may_of all others asked i moves (history_after i y m) fine.1)

pub first_in : {A : Type 0} (x : A) (xs : List A) → Contains (x ∷ xs) x
first_in x xs = (0, omega arith, refl)

second_in : {A : Type 0} (x y : A) (xs : List A) → Contains (x ∷ y ∷ xs) y
second_in x y xs = (1, omega arith, refl)

module _ (meaning : Meaning) (key barrier : List ℕ) where
  abbrev I : Instance
  I = opt_instance meaning key barrier

  module _ (all others : List (List ℕ)) (asked : List Batch) where
    pub holds_made : (moves : List Move) (y : History) (d : Digests) → Holds all others asked I y d → AllFine all others asked I y moves
        → AreMessagesIn (messages_of_moves I y moves) all
        → Holds all others asked I (state_after_moves (list_level I) y moves) (state_after_moves (digest_level I) d moves)
    holds_made [] y d h fine messages = h
    holds_made (m ∷ moves) y d h fine messages =
        let front : List (List ℕ) = move_messages I y m in
        let back : List (List ℕ) = messages_of_moves I (history_after I y m) moves in
        holds_made moves (history_after I y m) (digests_after I d m)
        (holds_moved meaning key barrier all others asked y d m h fine.0 (each_left (Contains all) front back messages)) fine.1
        (each_right (Contains all) front back messages)

    pub foreign_all : (values : List (List ℕ)) (y : History) → AllByRecursion (Contains others) values
        → AllFine all others asked I y (map Foreign values)
    foreign_all = each_foreign (IsFine all others asked I) others I (foreign_fine meaning key barrier all others asked)

    pub walk_fine : (fates : ℕ → StepFate) (steps : List DeviceStep) (n : ℕ) (y : History) → AreOwn steps
        → AllByRecursion (Contains others) (foreign_move_values (walk fates n steps).moves) → Ready all others asked I fates n steps y
        → AllFine all others asked I y (walk fates n steps).moves
    walk_fine = walk_each (IsFine all others asked I) others I (foreign_fine meaning key barrier all others asked)

    -- inside a segment the third step commits the batch
    ready_inside : (fates : ℕ → StepFate) (y : History) (b : Batch) → y.is_open ≡ true → is_empty y.items ≡ false → IsDue all asked I y b
        → Ready all others asked I fates 3 (Changes (Commit b) ∷ []) y
    ready_inside fates y b is_open held is outside = (
      record {
        may = rw is_open (append_held y.items (map Value (fates 3).brings) held);
        brings = rw is_open tt;
        listed = is.commits;
        are_asked = (is.asked_for, tt);
      },
      tt,
    )

    -- after a reset the fourth step places the batch, and the fifth commits it
    pub ready_opening : (fates : ℕ → StepFate) (y : History) (b : Batch) → y.is_open ≡ false → y.items ≡ []
        → has_value (items_of_all y.closed) ≡ false → IsDue all asked I y b
        → Ready all others asked I fates 4 (Changes (PlacedMove b) ∷ Writes (Commit b) ∷ []) y
    ready_opening fates y b shut bare clean is outside =
        let last = history_after I (history_with_values y (fates 4).brings) (PlacedMove b) in
        let values = map Value (fates 4).brings in
        let items : last.items ≡ values ++ Value (guard barrier b) ∷ [] = ap (λ v. (v ++ values) ++ Value (guard barrier b) ∷ []) bare in
        let opening : IsOpening I last b = record { clean = clean; front = values; items = items; others = no_batches (fates 4).brings } in
        let named : values_in (entries_with_last_batch last.items b) ≡ (fates 4).brings =
        ap (λ v. values_in (entries_with_last_batch v b)) items ∙ ap values_in (renamed-push values (Value (guard barrier b)) b)
        ∙ values_then (fates 4).brings b in (
          record { may = rw shut tt; brings = tt; listed = tt; are_asked = tt },
          λ o. (
            record {
              may = subst (λ f. IsAllowed Opt f I last (Commit b)) (sym shut) opening;
              brings = rw (shut, named) outside;
              listed = is.commits;
              are_asked = (is.asked_for, tt);
            },
            tt,
          ),
        )

    -- the steps of a call behind its reading steps are ready
    pub ready_third : (fates : ℕ → StepFate) (y : History) (b : Batch) (flag fresh : Bool) → y.is_open ≡ flag
        → (fresh ≡ true → IsDue all asked I y b × IsLive y) → Ready all others asked I fates 3 (steps_of_change flag fresh b) y
    ready_third fates y b _ false e due = tt
    ready_third fates y b true true e due = ready_inside fates y b e ((due refl).1.held e) (due refl).0
    ready_third fates y b false true e due = λ outside.
        let third : History = history_with_values y (fates 3).brings in
        let is = (due refl).0 in (
          record { may = reset_may meaning key barrier third e; brings = tt; listed = tt; are_asked = tt },
          ready_opening fates (history_after I third Reset) b e refl (due refl).1.clean
              (record { commits = is.commits; asked_for = is.asked_for }),
        )

    -- a checkpoint's third step closes the segment
    pub ready_closing : (fates : ℕ → StepFate) (y : History) → y.is_open ≡ true → is_empty y.items ≡ false
        → Ready all others asked I fates 3 (Writes Close ∷ []) y
    ready_closing fates y is_open held = λ o. (record { may = rw is_open held; brings = tt; listed = tt; are_asked = tt }, tt)

  -- what a snapshot names is named after moves that may be made
  pub names_all : (moves : List Move) (y : History) (content : Content) → IsSound y → AllMay I y moves → NamesPosition I y content
      → NamesPosition I (state_after_moves (list_level I) y moves) content
  names_all [] y content sound may n = n
  names_all (m ∷ moves) y content sound may n =
      names_all moves (history_after I y m) content (sound_moved meaning key barrier y m sound may.0) may.1
      (opt_names meaning key barrier y m content sound may.0 n)

  pub names_foreign : (values : List (List ℕ)) (y : History) (content : Content) → IsSound y → NamesPosition I y content
      → NamesPosition I (state_after_moves (list_level I) y (map Foreign values)) content
  names_foreign values y content sound n =
      names_all (map Foreign values) y content sound (each_foreign (MayMove I) values I (λ z v c. tt) values y (each_self [] values)) n

  -- the place of an answer, at the end of a call that isn't broken off
  pub end_place : (fates : ℕ → StepFate) (seen : History) (d : Digests) (b : Batch) (flag again : Bool) → seen.is_open ≡ flag
      → (flag ≡ true → are_own seen.items seen.current ≡ true) → DigestsAgree I seen d
      → (let end : History = path_end I fates 3 (steps_of_change flag (not again) b) seen in
      place_after_batch Opt d.flag again I d b ≡ issued_place Opt end.is_open I end)
  end_place fates seen d b true true f own a =
      let register : d.register ≡ register_of (own_values barrier seen.current) =
      a.register ∙ ap register_of (values_of-own barrier seen.items seen.current (own refl)) in
      rw (a.flag ∙ f, a.digest, register, f) refl
  end_place fates seen d b false true f own a = rw (a.flag ∙ f, a.digest, f) refl
  end_place fates seen d b true false f own a =
      let register : extended_digest_of d.register (guard barrier b) ≡ register_of (own_values barrier (seen.current ++ b ∷ [])) =
      ap (λ r. extended_digest_of r (guard barrier b))
      (a.register ∙ ap register_of (values_of-own barrier seen.items seen.current (own refl)))
      ∙ sym (register-push (own_values barrier seen.current) (guard barrier b))
      ∙ ap register_of (sym (own_values-append barrier seen.current (b ∷ []))) in
      rw (a.flag ∙ f, a.digest, register, f) refl
  end_place fates seen d b false false f own a =
      let register : extended_digest_of zero_bytes (guard barrier b) ≡ register_of (own_values barrier (b ∷ [])) =
      ap (λ r. extended_digest_of r (guard barrier b)) (sym reads_zero) ∙ sym (register-push [] (guard barrier b)) in
      rw (a.flag ∙ f, a.digest, register, f) refl

  -- the moves of a call that asks for a batch may be made
  pub ask_may : (y : History) (c : Course) (bytes : List ℕ) (b : Batch)
      → (let found = finding_unless_wanting (finding_at I (list_level I) (state_after_moves (list_level I) y (before c)) b bytes) c.lacks in
      AllMay I y (walk c.fates 1 (ask_steps Opt y.is_open (is_fresh found) b)).moves)
  ask_may y c bytes b =
      let seen : History = state_after_moves (list_level I) y (before c) in
      let at : Result CallFinding Refusal = finding_at I (list_level I) seen b bytes in
      let found : Result CallFinding Refusal = finding_unless_wanting at c.lacks in
      let run : List ℕ = extended_message (register_of (own_values barrier y.current)) (guard barrier b) in
      let all : List (List ℕ) = guard_message barrier b ∷ run ∷ [] in
      let steps : List DeviceStep = Reads ∷ Reads ∷ steps_of_change y.is_open (is_fresh found) b in
      let others : List (List ℕ) = foreign_move_values (walk c.fates 1 steps).moves in
      rw (asks y.is_open (is_fresh found) b) (may_of all others (b ∷ []) I (walk c.fates 1 steps).moves y
      (walk_fine all others (b ∷ []) c.fates steps 1 y (own_changing y.is_open (is_fresh found) b) (each_self [] others)
      (λ o p. ready_third all others (b ∷ []) c.fates (sight y c) b y.is_open (is_fresh found) refl
      (λ fresh. let f = fresh_found found fresh in (
        record {
          commits = (first_in (guard_message barrier b) (run ∷ []), (second_in (guard_message barrier b) run [], tt));
          asked_for = first_in b [];
        },
        subst IsLive (sight_is I y c) (live_found meaning key barrier seen b bytes f.0 (unlacked at c.lacks f.0 f.1)),
      )))))

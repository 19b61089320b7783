-- The device steps that commit what a call found, one after another: their fates, and what is known of all of them.
use Rattle.mm_call.proofs.Below.{◌≡◌, ℕ, Bool, true, false, List, [], ◌∷◌, ◌++◌, map, Option, None, Some, Err, refl, sym, ap, ◌∙◌, IsSome}
use Rattle.mm_call.proofs.Below.{option_map, next_count, StepFault, Plan, Standing, plan_after, Act, StepGoes, is_on_at, is_on_by_plan}
use Rattle.mm_call.proofs.Below.{Move, Foreign, Refusal, Device, fault_of, has_commit, result_of, end_by_fault, end_of_refusal}
use Rattle.mm_call.proofs.Below.{PlatformStaysOn, IsAt, ◌+◌, suc, length, Result, Ok, subst, arith, ◌==◌, if◌then◌else◌, Instance, Commit}
use Rattle.mm_call.proofs.Below.{Digests, DeviceStep, Reads, Changes, Writes, BatchAnswer, AskResult, Answered, Refused, Broken, CallKind}
use Rattle.mm_call.proofs.Below.{committed_position, goes_on, breaks_off, AreStepsToEnd, EndsByFinding, position_if_committed, End, Done}
use Rattle.mm_call.proofs.Below.{Fails, StepFate, StepsWalk, walk, walk_from_step, step_moves, fate_by_plan, kept_position, is_broken}
use Rattle.mm_call.proofs.Below.{CountsHandedFault, blamed, blamed_later, state_after_moves, digest_level, fault_in, fates_before_plan}
use Rattle.mm_call.proofs.Below.{AreMet, met_at, then_at, room_at, stepped, trail_on, trail_fails, MakesStep, StepIsMade, RestFollows}
use Rattle.mm_call.proofs.Below.{IsTrail}
use Rattle.mm_platform.specs.declared.plan.Stop.{Stop}
use Rattle.mm_platform.specs.declared.plan.Stop.TheVariants.{Cut}
use Rattle.std.specs.Prelude.{◌≤◌}
use Rattle.std.proofs.Math.Nat.{min-eq_left}
use Rattle.std.proofs.lemmas.Bool.Decides.{nat_tests}
use Rattle.mm_call.specs.CallOutcome.{end_of}

-- a refusal gives itself
pub refused_result : (why : Refusal) → result_of (end_of_refusal why) ≡ Err why
refused_result (Device fault) = refl
refused_result _ = refl

-- values of others commit nothing
foreign_commits : (values : List (List ℕ)) → has_commit (map Foreign values) ≡ false
foreign_commits [] = refl
foreign_commits (v ∷ values) = foreign_commits values

commits_then : (values : List (List ℕ)) (moves : List Move) → has_commit (map Foreign values ++ moves) ≡ has_commit moves
commits_then [] moves = refl
commits_then (v ∷ values) moves = commits_then values moves

-- power after a call under a plan

stays_done : (stop : Stop) (new : Standing) → new.is_on ≡ true → PlatformStaysOn stop false new
stays_done (Cut step) new e = e
stays_done _ new e = e

stays_broken : (stop : Stop) (n : ℕ) (new : Standing) → new.is_on ≡ is_on_at stop n → PlatformStaysOn stop true new
stays_broken (Cut step) n new e = tt
stays_broken _ n new e = e

-- after a step that fails, with room made behind it: power is on as the plan says, and the plan goes on to be told
stays_failed : (act : Act) (old after new : Standing) (fault : StepFault) (plan : Plan) (at : ℕ) → IsAt old plan at
    → StepGoes act old after (Some fault) → new ≡ record after { spare = new.spare } → PlatformStaysOn plan.stop true new × IsSome new.plan
stays_failed act old after new fault plan at p g room =
    let told = g.told (record plan { at = at }) p.planned in (
      stays_broken plan.stop (next_count at) new
          (ap (λ (s : Standing). s.is_on) room ∙ told.power ∙ ap (λ (on : Bool). is_on_by_plan on (record plan { at = at })) p.is_on),
      rw (ap (λ (s : Standing). s.plan) room ∙ g.plan ∙ ap (λ (q : Option Plan). option_map plan_after q) p.planned) refl,
    )

-- The fates of steps

-- the fate that a device step met
abbrev pub fate_of : (act : Act) (old new : Standing) (fault : Option StepFault) → StepGoes act old new fault → StepFate
fate_of act old new fault g = record { brings = g.others; ends = end_of fault g.is_made }

abbrev pub steps_fates : (acts : List Act) (answer : BatchAnswer) (old new : Standing) (ended : AskResult)
    → AreStepsToEnd acts answer old new ended
    → List StepFate
steps_fates [] answer old new ended s = []
steps_fates (act ∷ acts) answer old new ended (goes_on middle g s) =
    fate_of act old middle None g ∷ steps_fates acts answer middle new ended s
steps_fates (act ∷ acts) answer old new ended (breaks_off fault g e) = fate_of act old new (Some fault) g ∷ []

abbrev pub ends_fates : {F : Type 0} → (c : CallKind F) (found : Result F Refusal) (old new : Standing) (ended : AskResult)
    → EndsByFinding c found old new ended → List StepFate
ends_fates c (Err why) old new ended e = []
ends_fates c (Ok found) old new ended e = steps_fates (c.acts found) (c.answer found) old new ended e

-- What is known of steps whatever the digests

-- These are the fates of steps that were made once so many steps of the plan were over: they met the plan, and power is on as it says.
pub record Tale (fates : List StepFate) (at : ℕ) (old new : Standing) (ended : AskResult) : Type 0 where
  pub met_all : (plan : Plan) → IsAt old plan at → AreMet fates (at + 1) plan
  pub stays : (plan : Plan) → IsAt old plan at → PlatformStaysOn plan.stop (is_broken ended) new × IsSome new.plan

-- the counts stay below their greatest value
counted_small : (n : ℕ) → n ≤ 100 → next_count n ≡ n + 1
counted_small n few = min-eq_left (omega (arith, few))

-- no step is left, and the call isn't broken off
tale_over : (at : ℕ) (old : Standing) (ended : AskResult) → is_broken ended ≡ false → Tale [] at old old ended
tale_over at old ended whole = record {
  met_all = λ (plan : Plan) (p : IsAt old plan at). tt;
  stays = λ (plan : Plan) (p : IsAt old plan at). (
    rw whole (stays_done plan.stop old p.is_on),
    rw p.planned refl,
  );
}

-- a step that is done, and room made after it
pub tale_on : (act : Act) (old after middle new : Standing) (fates : List StepFate) (at : ℕ) (ended : AskResult) → at ≤ 100
    → (g : StepGoes act old after None) → middle ≡ record after { spare = middle.spare } → Tale fates (at + 1) middle new ended
    → Tale (fate_of act old after None g ∷ fates) at old new ended
tale_on act old after middle new fates at ended few g room t =
    let next = λ (plan : Plan) (p : IsAt old plan at).
    room_at after middle plan (at + 1) room
    (subst (λ (n : ℕ). IsAt after plan n) (counted_small at few) (then_at act old after plan at p g)) in
    record {
      met_all = λ (plan : Plan) (p : IsAt old plan at). (
        met_at act old after None plan at p g ∙ ap (fate_by_plan plan) (counted_small at few),
        t.met_all plan (next plan p),
      );
      stays = λ (plan : Plan) (p : IsAt old plan at). t.stays plan (next plan p);
    }

-- a step that fails
pub tale_fails : (act : Act) (old after new : Standing) (fault : StepFault) (position : Option ℕ) (at : ℕ) → at ≤ 100
    → (g : StepGoes act old after (Some fault)) → new ≡ record after { spare = new.spare }
    → Tale (fate_of act old after (Some fault) g ∷ []) at old new (Broken fault position)
tale_fails act old after new fault position at few g room = record {
  met_all = λ (plan : Plan) (p : IsAt old plan at).
      (met_at act old after (Some fault) plan at p g ∙ ap (fate_by_plan plan) (counted_small at few), tt);
  stays = λ (plan : Plan) (p : IsAt old plan at). stays_failed act old after new fault plan at p g room;
}

pub steps_tale : (acts : List Act) (answer : BatchAnswer) (old new : Standing) (ended : AskResult) (at : ℕ) → at + length acts ≤ 100
    → (s : AreStepsToEnd acts answer old new ended) → Tale (steps_fates acts answer old new ended s) at old new ended
steps_tale [] answer old new ended at few s =
    rw (s.0, s.1) (tale_over at old (Answered answer) refl)
steps_tale (act ∷ acts) answer old new ended at few (goes_on middle g s) =
    tale_on act old middle middle new (steps_fates acts answer middle new ended s) at ended (omega (arith, few)) g refl
    (steps_tale acts answer middle new ended (at + 1) (omega (arith, few)) s)
steps_tale (act ∷ acts) answer old new ended at few (breaks_off fault g e) =
    rw e (tale_fails act old new new fault (committed_position acts answer) at (omega (arith, few)) g refl)

-- the last reading step, and the steps that commit what was found
module _ (act : Act) (old after middle new : Standing) (at : ℕ) (few : at ≤ 50) (room : middle ≡ record after { spare = middle.spare })
  where
    refused_tale : (fault : Option StepFault) (why : Refusal) (ended : AskResult) → fault_of why ≡ fault
        → (g : StepGoes act old after fault)
        → (new ≡ middle) × (ended ≡ end_by_fault fault why) → Tale (fate_of act old after fault g ∷ []) at old new ended
    refused_tale None why ended quiet g e =
        tale_on act old after middle new [] at ended (omega (arith, few)) g room
        (rw (e.0, e.1) (tale_over (at + 1) middle (Refused why) refl))
    refused_tale (Some fault) why ended loud g e =
        rw (e.0, e.1) (tale_fails act old after middle fault None at (omega (arith, few)) g room)

    pub reading_tale : {F : Type 0} → (c : CallKind F) (found : Result F Refusal) (ended : AskResult)
        → (g : StepGoes act old after (fault_in found))
        → ((it : F) → length (c.acts it) ≤ 49) → (e : EndsByFinding c found middle new ended)
        → Tale (fate_of act old after (fault_in found) g ∷ ends_fates c found middle new ended e) at old new ended
    reading_tale c (Err why) ended g short e = refused_tale (fault_of why) why ended refl g e
    reading_tale c (Ok found) ended g short e =
        tale_on act old after middle new (steps_fates (c.acts found) (c.answer found) middle new ended e) at ended (omega (arith, few))
        g room (steps_tale (c.acts found) (c.answer found) middle new ended (at + 1) (omega (arith, few, short found)) e)

-- Who is to blame

abbrev pub BlamesFor : Standing → Standing → AskResult → Type 0
BlamesFor old new ended = CountsHandedFault (fault_in (result_of ended)) old.faults new.faults

pub steps_blamed : (acts : List Act) (answer : BatchAnswer) (old new : Standing) (ended : AskResult)
    → AreStepsToEnd acts answer old new ended
    → BlamesFor old new ended
steps_blamed [] answer old new ended s = rw s.1 (ap (λ (x : Standing). x.faults) s.0)
steps_blamed (act ∷ acts) answer old new ended (goes_on middle g s) =
    blamed_later (fault_in (result_of ended)) old.faults middle.faults new.faults g.ends.faults
    (steps_blamed acts answer middle new ended s)
steps_blamed (act ∷ acts) answer old new ended (breaks_off fault g e) =
    rw e (blamed (Some fault) old new g.is_made g.ends)

-- what is left of a call behind the steps that read
pub ends_blamed : {F : Type 0} → (c : CallKind F) (found : Result F Refusal) (old middle new : Standing) (ended : AskResult)
    → CountsHandedFault (fault_in found) old.faults middle.faults → EndsByFinding c found middle new ended → BlamesFor old new ended
ends_blamed c (Err why) old middle new ended blames e = rw (e.0, e.1, refused_result why) blames
ends_blamed c (Ok found) old middle new ended blames e =
    blamed_later (fault_in (result_of ended)) old.faults middle.faults new.faults blames
    (steps_blamed (c.acts found) (c.answer found) middle new ended e)

-- What is known of steps by digests

-- the answer that was ready is given, unless a step failed
abbrev pub Given : BatchAnswer → AskResult → Type 0
Given answer (Answered it) = it ≡ answer
Given answer (Refused why) = ⊥
Given answer (Broken fault position) = Unit {0}

pub steps_give : (acts : List Act) (answer : BatchAnswer) (old new : Standing) (ended : AskResult) → AreStepsToEnd acts answer old new ended
    → Given answer ended
steps_give [] answer old new ended s = rw s.1 refl
steps_give (act ∷ acts) answer old new ended (goes_on middle g s) = steps_give acts answer middle new ended s
steps_give (act ∷ acts) answer old new ended (breaks_off fault g e) = rw e tt

-- the step of a walk commits a batch
abbrev pub is_committing : DeviceStep → Bool
is_committing Reads = false
is_committing (Changes m) = has_commit (m ∷ [])
is_committing (Writes m) = has_commit (m ∷ [])

commits_either : (xs ys : List Move) → has_commit (xs ++ ys) ≡ (if has_commit xs then true else has_commit ys)
commits_either [] ys = refl
commits_either (Commit b ∷ xs) ys = refl
commits_either (_ ∷ xs) ys = commits_either xs ys

commits_last : (m : Move) (values : List (List ℕ)) → has_commit (m ∷ map Foreign values) ≡ has_commit (m ∷ [])
commits_last (Commit b) values = refl
commits_last _ values = foreign_commits values

-- by whether its effect is made
step_commits : (step : DeviceStep) (is_made : Bool) (values : List (List ℕ))
    → has_commit (step_moves step is_made values) ≡ (if is_made then is_committing step else false)
step_commits (Changes m) true values = commits_then values (m ∷ [])
step_commits (Changes m) false values = commits_then values []
step_commits (Writes m) true values = commits_last m values
step_commits Reads true values = foreign_commits values
step_commits _ false values = foreign_commits values

rest_mapped : {A B : Type 0} → (C : Type 0) (answer : Option StepFault) → (A → B) → RestFollows answer A C → RestFollows answer B C
rest_mapped C None f r = f r
rest_mapped C (Some fault) f r = r

-- fates that are alike from the step of this number on
module _ (fates other : ℕ → StepFate) where
  abbrev Alike : ℕ → Type 0
  Alike n = (m : ℕ) → n ≤ m → fates m ≡ other m

  later_alike : (n : ℕ) → Alike n → Alike (n + 1)
  later_alike n h = λ (m : ℕ) (l : n + 1 ≤ m). h m (omega (arith, l))

  walk_alike : (n : ℕ) (steps : List DeviceStep) → Alike n → walk fates n steps ≡ walk other n steps
  walk_alike n [] h = refl
  walk_alike n (step ∷ steps) h =
      ap (λ (f : StepFate). walk_from_step step f.brings f.ends (walk fates (n + 1) steps)) (h n (omega arith))
      ∙ ap (λ (w : StepsWalk). walk_from_step step (other n).brings (other n).ends w) (walk_alike (n + 1) steps (later_alike n h))

  trail_alike : (i : Instance) (d : Digests) (n : ℕ) (steps : List DeviceStep) (old new : Standing) (fault : Option StepFault) → Alike n
      → IsTrail i d fates n steps old new fault → IsTrail i d other n steps old new fault
  trail_alike i d n [] old new fault h t = t
  trail_alike i d n (step ∷ steps) old new fault h t =
      let e : fates n ≡ other n = h n (omega arith) in (
        t.0,
        t.1,
        subst (λ (f : StepFate). StepIsMade i d f step old t.0 t.1) e t.2,
        rest_mapped ((new ≡ t.0) × (fault ≡ t.1)) t.1 (λ r. subst
            (λ (f : StepFate). IsTrail i (state_after_moves (digest_level i) d (step_moves step true f.brings)) other (n + 1)
            steps t.0 new fault) e
            (trail_alike i (state_after_moves (digest_level i) d (step_moves step true (fates n).brings)) (n + 1) steps t.0 new fault
            (later_alike n h) r)) t.3,
      )

same_number : (n : ℕ) → (n == n) ≡ true
same_number n = grind (arith, nat_tests)

other_number : (m n : ℕ) → n + 1 ≤ m → (m == n) ≡ false
other_number m n l = grind (arith, nat_tests)

-- the first of the fates that were met, and the others
met_first : (f : StepFate) (rest : List StepFate) (n : ℕ) (plan : Plan) → fates_before_plan (f ∷ rest) n plan n ≡ f
met_first f rest n plan = ap (λ (t : Bool). if t then f else fates_before_plan rest (n + 1) plan n) (same_number n)

met_later : (f : StepFate) (rest : List StepFate) (n : ℕ) (plan : Plan) → Alike (fates_before_plan rest (n + 1) plan)
    (fates_before_plan (f ∷ rest) n plan) (n + 1)
met_later f rest n plan = λ (m : ℕ) (l : n + 1 ≤ m).
    sym (ap (λ (t : Bool). if t then f else fates_before_plan rest (n + 1) plan m) (other_number m n l))

-- The walk broke off by this fault, and the position that its last step would commit is kept where that had its effect.
pub record BreaksOff (fates : ℕ → StepFate) (n : ℕ) (walked : StepsWalk) (fault : StepFault) (position : ℕ) (commits_to : Option ℕ) : Type 0
  where
    pub broken : walked.broken ≡ Some fault
    pub before : ℕ
    pub steps : walked.steps ≡ suc before
    pub kept : position_if_committed (has_commit walked.moves) position ≡ kept_position (fates (n + before)).ends commits_to

-- what is kept of a walk, by how its call ended
abbrev pub Keeps : (ℕ → StepFate) → ℕ → StepsWalk → ℕ → AskResult → Type 0
Keeps fates n walked position (Answered answer) = Unit {0}
Keeps fates n walked position (Refused why) = fault_of why ≡ None
Keeps fates n walked position (Broken fault commits_to) = BreaksOff fates n walked fault position commits_to

-- Device steps made these steps of a walk, from the one of this number on.
pub record Walks (i : Instance) (d : Digests) (fates : ℕ → StepFate) (n : ℕ) (steps : List DeviceStep) (old new : Standing)
    (ended : AskResult)
    (position : ℕ) : Type 0 where
  pub trail : IsTrail i d fates n steps old new (fault_in (result_of ended))
  pub keeps : Keeps fates n (walk fates n steps) position ended

-- a step that is done before the others
keeps_on : (ended : AskResult) (fates other : ℕ → StepFate) (n : ℕ) (step : DeviceStep) (steps : List DeviceStep) (position : ℕ)
    → Alike other fates (n + 1)
    → (fates n).ends ≡ Done → (is_broken ended ≡ true → is_committing step ≡ false)
    → Keeps other (n + 1) (walk other (n + 1) steps) position ended → Keeps fates n (walk fates n (step ∷ steps)) position ended
keeps_on (Answered answer) fates other n step steps position alike done plain k = tt
keeps_on (Refused why) fates other n step steps position alike done plain k = k
keeps_on (Broken fault commits_to) fates other n step steps position alike done plain k =
    let w : StepsWalk = walk other (n + 1) steps in
    let v : List (List ℕ) = (fates n).brings in
    rw done (subst (λ (x : StepsWalk). BreaksOff fates n (walk_from_step step v Done x) fault position commits_to)
    (walk_alike other fates (n + 1) steps alike) (record {
      broken = k.broken;
      before = suc k.before;
      steps = ap (λ (m : ℕ). suc m) k.steps;
      kept = rw (commits_either (step_moves step true v) w.moves, step_commits step true v, plain refl) (k.kept
          ∙ ap (λ (f : StepFate). kept_position f.ends commits_to) (alike (n + 1 + k.before) (omega arith)
          ∙ ap fates (let e : n + 1 + k.before ≡ n + suc k.before = omega arith in e)));
    }))

pub walks_on : (i : Instance) (d : Digests) (f : StepFate) (rest : List StepFate) (plan : Plan) (n : ℕ) (step : DeviceStep)
    (steps : List DeviceStep)
    (old middle new : Standing) (ended : AskResult) (position : ℕ) → StepIsMade i d f step old middle None
    → (is_broken ended ≡ true → is_committing step ≡ false)
    → Walks i (state_after_moves (digest_level i) d (step_moves step true f.brings)) (fates_before_plan rest (n + 1) plan) (n + 1) steps
    middle new ended position
    → Walks i d (fates_before_plan (f ∷ rest) n plan) n (step ∷ steps) old new ended position
walks_on i d f rest plan n step steps old middle new ended position s plain w =
    let fates : ℕ → StepFate = fates_before_plan (f ∷ rest) n plan in
    let fault : Option StepFault = fault_in (result_of ended) in
    let first : f ≡ fates n = sym (met_first f rest n plan) in
    record {
      trail = trail_on i d fates n step steps old middle new fault
          (subst (λ (x : StepFate). StepIsMade i d x step old middle None) first s)
          (subst (λ (x : StepFate). IsTrail i (state_after_moves (digest_level i) d (step_moves step true x.brings)) fates (n + 1) steps
          middle new fault)
          first
          (trail_alike (fates_before_plan rest (n + 1) plan) fates i (state_after_moves (digest_level i) d (step_moves step true f.brings))
          (n + 1) steps middle new
          fault (met_later f rest n plan) w.trail));
      keeps = keeps_on ended fates (fates_before_plan rest (n + 1) plan) n step steps position (met_later f rest n plan)
          (ap (λ (x : StepFate). x.ends) (sym first) ∙ s.ends) plain w.keeps;
    }

-- a step that fails
kept_if : (committing is_made : Bool) (fault : StepFault) (position : ℕ)
    → position_if_committed (if is_made then committing else false) position ≡ kept_position (Fails fault is_made)
    (if committing then Some position else None)
kept_if committing true fault position = refl
kept_if committing false fault position = refl

pub walks_fail : (i : Instance) (d : Digests) (f : StepFate) (plan : Plan) (n : ℕ) (step : DeviceStep) (steps : List DeviceStep)
    (old new : Standing)
    (fault : StepFault) (position : ℕ) → StepIsMade i d f step old new (Some fault)
    → Walks i d (fates_before_plan (f ∷ []) n plan) n (step ∷ steps) old new
    (Broken fault (if is_committing step then Some position else None)) position
walks_fail i d f plan n step steps old new fault position s =
    let fates : ℕ → StepFate = fates_before_plan (f ∷ []) n plan in
    let first : f ≡ fates n = sym (met_first f [] n plan) in
    let ends : (fates n).ends ≡ Fails fault s.goes.is_made = ap (λ (x : StepFate). x.ends) (sym first) ∙ s.ends in
    let commits_to : Option ℕ = if is_committing step then Some position else None in
    record {
      trail = trail_fails i d fates n step steps old new fault
          (subst (λ (x : StepFate). StepIsMade i d x step old new (Some fault)) first s);
      keeps = subst
          (λ (e : End). BreaksOff fates n (walk_from_step step (fates n).brings e (walk fates (n + 1) steps)) fault position commits_to)
          (sym ends) (record {
            broken = refl;
            before = 0;
            steps = refl;
            kept = ap (λ (t : Bool). position_if_committed t position) (step_commits step s.goes.is_made (fates n).brings)
                ∙ kept_if (is_committing step) s.goes.is_made fault position
                ∙ ap (λ (e : End). kept_position e commits_to) (sym ends)
                ∙ ap (λ (m : ℕ). kept_position (fates m).ends commits_to) (let e : n ≡ n + 0 = omega arith in e);
          });
    }

-- The device steps make these steps of a walk, whatever others put into the register between them; only the last commits.
abbrev pub is_none : List Act → Bool
is_none [] = true
is_none (act ∷ acts) = false

abbrev pub MakesAll : Instance → Digests → List Act → List DeviceStep → Type 0
MakesAll i d [] [] = Unit {0}
MakesAll i d (act ∷ acts) (step ∷ steps) =
    MakesStep i d act step × (is_committing step ≡ is_none acts)
    × ((values : List (List ℕ)) → MakesAll i (state_after_moves (digest_level i) d (step_moves step true values)) acts steps)
MakesAll i d _ _ = ⊥

committed_before : (acts : List Act) (answer : BatchAnswer) (t : Bool) → t ≡ is_none acts
    → (if t then Some answer.position else None) ≡ committed_position acts answer
committed_before [] answer t e = rw e refl
committed_before (act ∷ acts) answer t e = rw e refl

plain_before : (acts : List Act) (answer : BatchAnswer) (old new : Standing) (ended : AskResult) (t : Bool) → t ≡ is_none acts
    → AreStepsToEnd acts answer old new ended → is_broken ended ≡ true → t ≡ false
plain_before [] answer old new ended t e s broken = let clash : false ≡ true = ap is_broken (sym s.1) ∙ broken in absurd (cc)
plain_before (act ∷ acts) answer old new ended t e s broken = e

pub steps_walk : (acts : List Act) (answer : BatchAnswer) (old new : Standing) (ended : AskResult) (i : Instance) (d : Digests)
    (steps : List DeviceStep) (plan : Plan) (n : ℕ) → MakesAll i d acts steps → (s : AreStepsToEnd acts answer old new ended)
    → Walks i d (fates_before_plan (steps_fates acts answer old new ended s) n plan) n steps old new ended answer.position
steps_walk [] answer old new ended i d [] plan n m s =
    rw (s.0, s.1) (record { trail = (refl, refl); keeps = tt })
steps_walk [] answer old new ended i d (step ∷ steps) plan n m s = absurd m
steps_walk (act ∷ acts) answer old new ended i d [] plan n m s = absurd m
steps_walk (act ∷ acts) answer old new ended i d (step ∷ steps) plan n m (goes_on middle g s) =
    walks_on i d (fate_of act old middle None g) (steps_fates acts answer middle new ended s) plan n step steps old middle new ended
    answer.position (stepped i d act step old middle None g m.0)
    (plain_before acts answer middle new ended (is_committing step) m.1 s)
    (steps_walk acts answer middle new ended i (state_after_moves (digest_level i) d (step_moves step true g.others)) steps plan (n + 1)
    (m.2 g.others) s)
steps_walk (act ∷ acts) answer old new ended i d (step ∷ steps) plan n m (breaks_off fault g e) =
    let f : StepFate = fate_of act old new (Some fault) g in
    subst (λ (v : AskResult). Walks i d (fates_before_plan (f ∷ []) n plan) n (step ∷ steps) old new v answer.position)
    (ap (λ (p : Option ℕ). Broken fault p) (committed_before acts answer (is_committing step) m.1) ∙ sym e)
    (walks_fail i d f plan n step steps old new fault answer.position (stepped i d act step old new (Some fault) g m.0))

-- A device step leaves what it is told to leave. With it: letting in the values that are due at a
-- step, one by one.
use Rattle.std.specs.Option.{option_map}
use Rattle.std.proofs.lemmas.Bool.Decides.{nat_tests}
use Rattle.std.proofs.lemmas.List.Sums.{sum_by-le-sum_by}
use Rattle.mm_platform.specs.declared.fault.StepFault.{StepFault}
use Rattle.mm_platform.specs.declared.plan.Meddle.{Meddle}
use Rattle.mm_platform.specs.Memory.{count_ahead}
use Rattle.mm_platform.specs.Standing.{next_answer, is_next_made, spare_after, standing_after_step, outcome_of_acts, AreAlike, ActsAsTold}
use Rattle.mm_platform.specs.Standing.{due_values}
use Rattle.mm_platform.proofs.Below.{arith, ◌≡◌, Bool, Option, None, Some, List, [], ◌∷◌, refl, sym, ◌∙◌, ap, subst, is_none, if◌then◌else◌}
use Rattle.mm_platform.proofs.Below.{Plan, Standing, plan_after, Act, items_beside, cell_after, items_after, fault_by_plan, is_made_by_plan}
use Rattle.mm_platform.proofs.Below.{is_on_by_plan, values_by_plan, faults_after, StepGoes, known_plan, ℕ, ◌+◌, ◌≤◌, ◌++◌, take, drop, map}
use Rattle.mm_platform.proofs.Below.{cond, nat_lt, Item, foreign_item}

-- what a step does, by the plan that it was told
pub record IsAsTold (act : Act) (old new : Standing) (fault : Option StepFault) : Type 0 where
  pub answer : fault ≡ next_answer old
  pub stands : AreAlike new (standing_after_step act old)

pub as_told : (act : Act) (old new : Standing) (fault : Option StepFault) → StepGoes act old new fault
    → (plan : Plan) → old.plan ≡ Some plan → IsAsTold act old new fault
as_told act old new fault step plan known =
    let same = sym (known_plan old plan known) in
    let told = step.told plan known in
    let made = told.makes ∙ ap (is_made_by_plan old.is_on) same in
    let brings = told.brings ∙ ap (values_by_plan old.is_on) same in
    let answers = told.answers ∙ ap (fault_by_plan old.is_on) same in
    record {
      answer = answers;
      stands = record {
        spare = new.spare;
        same = λ j. record {
          cell = (step.cell ∙ ap (λ m. cell_after act m old.cell) made) j;
          items = (step.items ∙ ap (λ m. items_after act m (items_beside step.others old.items)) made
              ∙ ap (λ o. items_after act (is_next_made old) (items_beside o old.items)) brings) j;
          is_on = (told.power ∙ ap (is_on_by_plan old.is_on) same) j;
          steps = step.steps j;
          writes = step.writes j;
          cycles = step.cycles j;
          spare = new.spare;
          faults = (told.counts ∙ ap (λ f. faults_after f old.faults) answers) j;
          plan = step.plan j;
        };
      };
    }

-- Alike standings meet the same next step.
pub answer-alike : (one other : Standing) → AreAlike one other → next_answer one ≡ next_answer other
answer-alike one other a = ap next_answer a.same

pub stepped-alike : (act : Act) (one other : Standing) → AreAlike one other → AreAlike (standing_after_step act one)
    (standing_after_step act other)
stepped-alike act one other a =
    record { spare = spare_after act (is_next_made other) a.spare; same = ap (standing_after_step act) a.same }

pub alike-then : (one other last : Standing) → AreAlike one other → AreAlike other last → AreAlike one last
alike-then one other last a b =
    record { spare = a.spare; same = a.same ∙ ap (λ (x : Standing). record x { spare = a.spare }) b.same }

-- Several steps, of which none comes after one that fails.
abbrev pub ActsAlike : Standing × Option StepFault → Standing × Option StepFault → Type 0
ActsAlike one other = AreAlike one.0 other.0 × (one.1 ≡ other.1)

if-alike : (b c : Bool) (x y z w : Standing × Option StepFault) → b ≡ c → ActsAlike x z → ActsAlike y w
    → ActsAlike (if b then x else y) (if c then z else w)
if-alike b c x y z w e p q = grind (arith, e, p, q)

pub acted-alike : (acts : List Act) (one other : Standing) → AreAlike one other → ActsAlike (outcome_of_acts acts one)
    (outcome_of_acts acts other)
acted-alike [] one other a = (a, refl)
acted-alike (act ∷ acts) one other a =
    if-alike (is_none (next_answer one)) (is_none (next_answer other)) _ _ _ _ (ap is_none (answer-alike one other a))
    (acted-alike acts (standing_after_step act one) (standing_after_step act other) (stepped-alike act one other a))
    (stepped-alike act one other a, answer-alike one other a)

-- what comes of the first step, by its answer
first_acted : (act : Act) (acts : List Act) (old new : Standing) (fault answer : Option StepFault) → answer ≡ next_answer old
    → ActsAlike (new, fault) (if is_none answer then outcome_of_acts acts (standing_after_step act old)
    else (standing_after_step act old, next_answer old))
    → ActsAsTold (act ∷ acts) old new fault
first_acted act acts old new fault answer e alike =
    let all : ActsAlike (new, fault) (outcome_of_acts (act ∷ acts) old) =
    subst (λ (f : Option StepFault). ActsAlike (new, fault)
    (if is_none f then outcome_of_acts acts (standing_after_step act old) else (standing_after_step act old, next_answer old))) e alike in
    record { answer = all.1; stands = all.0 }

-- a step that fails is the last
pub told_failed : (act : Act) (acts : List Act) (old new : Standing) (fault : StepFault) → StepGoes act old new (Some fault)
    → (plan : Plan) → old.plan ≡ Some plan → ActsAsTold (act ∷ acts) old new (Some fault)
told_failed act acts old new fault step plan known =
    let told = as_told act old new (Some fault) step plan known in
    first_acted act acts old new (Some fault) (Some fault) told.answer (told.stands, told.answer)

-- a step that doesn't fail is followed by the next
pub told_then : (act : Act) (acts : List Act) (old mid new : Standing) (fault : Option StepFault) → StepGoes act old mid None
    → (plan : Plan) → old.plan ≡ Some plan → ActsAsTold acts mid new fault → ActsAsTold (act ∷ acts) old new fault
told_then act acts old mid new fault step plan known rest =
    let told = as_told act old mid None step plan known in
    let same = acted-alike acts mid (standing_after_step act old) told.stands in
    first_acted act acts old new fault None told.answer (
      alike-then new (outcome_of_acts acts mid).0 (outcome_of_acts acts (standing_after_step act old)).0 rest.stands same.0,
      rest.answer
          ∙ same.1,
    )

-- the last step, whatever it answers
pub told_last : (act : Act) (old new : Standing) (fault : Option StepFault) → StepGoes act old new fault
    → (plan : Plan) → old.plan ≡ Some plan → ActsAsTold (act ∷ []) old new fault
told_last act old new (Some fault) step plan known = told_failed act [] old new fault step plan known
told_last act old new None step plan known =
    told_then act [] old new new None step plan known (record { answer = refl; stands = record { spare = new.spare; same = refl } })

pub plan_then : (act : Act) (old new : Standing) (fault : Option StepFault) → StepGoes act old new fault
    → (plan : Plan) → old.plan ≡ Some plan → new.plan ≡ Some (plan_after plan)
plan_then act old new fault step plan known = step.plan ∙ ap (option_map plan_after) known

-- Letting in the values that are due at a step, one by one.

-- the items and the room once the first meddles were looked at
pub record LetsIn (items0 : List Item) (len0 capacity0 before step : ℕ) (meddles : List Meddle) (index : ℕ)
    (items : List Item) (len capacity : ℕ) : Type 0 where
  pub items_are : items ≡ items0 ++ map foreign_item (due_values step (take index meddles))
  pub room : len + (count_ahead step (take index meddles) + count_ahead before (drop index meddles)) ≤ len0 + count_ahead before meddles
  pub kept : capacity ≡ capacity0

-- whether a step is still to come, as a number
abbrev pub coming : ℕ → ℕ → ℕ
coming at step = cond (nat_lt at step) 1 0

coming-falls : (before step at : ℕ) → before ≤ step → coming step at ≤ coming before at
coming-falls before step at h = grind (arith, nat_tests)

-- at a later step no more meddles are ahead
pub ahead-falls : (before step : ℕ) (meddles : List Meddle) → before ≤ step → count_ahead step meddles ≤ count_ahead before meddles
ahead-falls before step meddles h =
    sum_by-le-sum_by (λ m. coming step m.step) (λ m. coming before m.step) meddles
    (λ m. coming-falls before step m.step h)

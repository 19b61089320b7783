-- How a trail is put together from its steps, and the course that a call took: the fates of the
-- steps that were made are read off them, and the others are the plan's. With it: what a whole call
-- leaves and counts.
use Rattle.std.specs.Option.{option_map}
use Rattle.std.specs.Prelude.{◌==◌, if◌then◌else◌}
use Rattle.std.specs.Result.{result_err}
use Rattle.std.proofs.Common.{◌+◌, refl, sym, ap, ◌∙◌, arith, ◌≡◌, ℕ, Bool, true, false, List, [], ◌∷◌, Option, None, Some, subst, Result}
use Rattle.std.proofs.Common.{Ok, Err}
use Rattle.std.proofs.lemmas.Bool.Decides.{nat_tests}
use Rattle.mm_call.specs.Below.{next_count, Plan, Standing, plan_after, due_values, known_plan, Act, StepGoes, fault_by_plan}
use Rattle.mm_call.specs.Below.{is_made_by_plan, values_by_plan, fault_at, is_made_at, next_plan, StepFault, Instance, Digests, DeviceStep}
use Rattle.mm_call.specs.Below.{beside-none, ReadCell, DeviceStepEnds, Failed, Answer, BatchAnswer}
use Rattle.mm_call.specs.CallFinding.{state_after_moves, digest_level, fault_in, result_with_fault, IsUntouched, CountsHandedFault}
use Rattle.mm_call.specs.CallFinding.{batch_answer_of}
use Rattle.mm_call.specs.CallOutcome.{StepFate, step_moves, fate_by_plan, AreTold, end_of}
use Rattle.mm_call.specs.Standing.{MakesStep, StepIsMade, IsTrail}

-- Trails

-- a device step as a step of a walk, with no room made behind it
pub stepped : (i : Instance) (d : Digests) (act : Act) (step : DeviceStep) (old new : Standing) (fault : Option StepFault)
    → (g : StepGoes act old new fault) → MakesStep i d act step
    → StepIsMade i d (record { brings = g.others; ends = end_of fault g.is_made }) step old new fault
stepped i d act step old new fault g makes = record {
  act = act;
  after = new;
  goes = g;
  makes = makes;
  brings = refl;
  ends = refl;
  room = refl;
}

pub trail_on : (i : Instance) (d : Digests) (fates : ℕ → StepFate) (n : ℕ) (step : DeviceStep) (steps : List DeviceStep)
    (old middle new : Standing)
    (fault : Option StepFault) → StepIsMade i d (fates n) step old middle None
    → IsTrail i (state_after_moves (digest_level i) d (step_moves step true (fates n).brings)) fates (n + 1) steps middle new fault
    → IsTrail i d fates n (step ∷ steps) old new fault
trail_on i d fates n step steps old middle new fault s t = (middle, None, s, t)

pub trail_fails : (i : Instance) (d : Digests) (fates : ℕ → StepFate) (n : ℕ) (step : DeviceStep) (steps : List DeviceStep)
    (old new : Standing)
    (fault : StepFault) → StepIsMade i d (fates n) step old new (Some fault) → IsTrail i d fates n (step ∷ steps) old new (Some fault)
trail_fails i d fates n step steps old new fault s = (new, Some fault, s, (refl, refl))

pub trail_last : (i : Instance) (d : Digests) (fates : ℕ → StepFate) (n : ℕ) (step : DeviceStep) (old new : Standing)
    (fault : Option StepFault)
    → StepIsMade i d (fates n) step old new fault → IsTrail i d fates n (step ∷ []) old new fault
trail_last i d fates n step old new None s = (new, None, s, (refl, refl))
trail_last i d fates n step old new (Some fault) s = (new, Some fault, s, (refl, refl))

-- Courses

-- the fates of some steps, from the step of this number on, and then those of a plan
abbrev pub fates_before_plan : List StepFate → ℕ → Plan → ℕ → StepFate
fates_before_plan [] k plan n = fate_by_plan plan n
fates_before_plan (fate ∷ fates) k plan n = if n == k then fate else fates_before_plan fates (k + 1) plan n

-- those fates are the plan's too
abbrev pub AreMet : List StepFate → ℕ → Plan → Type 0
AreMet [] k plan = Unit {0}
AreMet (fate ∷ fates) k plan = (fate ≡ fate_by_plan plan k) × AreMet fates (k + 1) plan

chosen : (here : Bool) (fate later : StepFate) (n k : ℕ) (plan : Plan) → (here ≡ true → n ≡ k) → fate ≡ fate_by_plan plan k
    → later ≡ fate_by_plan plan n
    → (if here then fate else later) ≡ fate_by_plan plan n
chosen true fate later n k plan h e l = e ∙ ap (λ (m : ℕ). fate_by_plan plan m) (sym (h refl))
chosen false fate later n k plan h e l = l

eq_tells : (n k : ℕ) → (n == k) ≡ true → n ≡ k
eq_tells n k e = grind (arith, nat_tests)

met_told : (fates : List StepFate) (k : ℕ) (plan : Plan) (n : ℕ) → AreMet fates k plan → fates_before_plan fates k plan n
    ≡ fate_by_plan plan n
met_told [] k plan n a = refl
met_told (fate ∷ fates) k plan n a =
    chosen (n == k) fate (fates_before_plan fates (k + 1) plan n) n k plan (eq_tells n k) a.0 (met_told fates (k + 1) plan n a.1)

-- the plan that a platform tells is the one that its course takes
pub told_by : (old : Standing) (fates : List StepFate)
    → ((plan : Plan) → old.is_on ≡ true → old.plan ≡ Some plan → plan.at ≡ 0 → AreMet fates 1 plan)
    → AreTold old (fates_before_plan fates 1 (next_plan old))
told_by old fates h = λ (plan : Plan) (on : old.is_on ≡ true) (known : old.plan ≡ Some plan) (at : plan.at ≡ 0) (n : ℕ).
    ap (λ (p : Plan). fates_before_plan fates 1 p n) (known_plan old plan known) ∙ met_told fates 1 plan n (h plan on known at)

-- The platform is on, and so many steps of its plan are over.
pub record IsAt (standing : Standing) (plan : Plan) (at : ℕ) : Type 0 where
  pub is_on : standing.is_on ≡ true
  pub planned : standing.plan ≡ Some (record plan { at = at })

pub begins_at : (old : Standing) (plan : Plan) → old.is_on ≡ true → old.plan ≡ Some plan → plan.at ≡ 0 → IsAt old plan 0
begins_at old plan on known at = record { is_on = on; planned = known ∙ ap (λ (n : ℕ). Some (record plan { at = n })) at }

-- a step goes as the plan says of its number
pub met_at : (act : Act) (old new : Standing) (fault : Option StepFault) (plan : Plan) (at : ℕ) → IsAt old plan at
    → (g : StepGoes act old new fault) → record { brings = g.others; ends = end_of fault g.is_made } ≡ fate_by_plan plan (next_count at)
met_at act old new fault plan at p g =
    let told = g.told (record plan { at = at }) p.planned in
    let answers : fault ≡ fault_at plan.stop (next_count at) = told.answers
    ∙ ap (λ (on : Bool). fault_by_plan on (record plan { at = at })) p.is_on in
    let is_made : g.is_made ≡ is_made_at plan.stop (next_count at) = told.makes
    ∙ ap (λ (on : Bool). is_made_by_plan on (record plan { at = at })) p.is_on in
    let brings : g.others ≡ due_values (next_count at) plan.meddles = told.brings
    ∙ ap (λ (on : Bool). values_by_plan on (record plan { at = at })) p.is_on in
    λ j. record { brings = brings j; ends = end_of (answers j) (is_made j) }

-- after a step that was done one more is over
pub then_at : (act : Act) (old new : Standing) (plan : Plan) (at : ℕ) → IsAt old plan at → StepGoes act old new None
    → IsAt new plan (next_count at)
then_at act old new plan at p g =
    record { is_on = g.ends.is_on; planned = g.plan ∙ ap (λ (q : Option Plan). option_map plan_after q) p.planned }

-- room changes nothing of this
pub room_at : (after new : Standing) (plan : Plan) (at : ℕ) → new ≡ record after { spare = new.spare } → IsAt after plan at
    → IsAt new plan at
room_at after new plan at e p =
    record { is_on = ap (λ (s : Standing). s.is_on) e ∙ p.is_on; planned = ap (λ (s : Standing). s.plan) e ∙ p.planned }

-- What a whole call leaves and counts.

pub same_untouched : (old : Standing) → IsUntouched old old
same_untouched old = record {
  others = [];
  cell = refl;
  items = sym (beside-none old.items);
  is_on = refl;
  writes = refl;
  room = omega arith;
  faults = refl;
}

pub read_untouched : (old new : Standing) → StepGoes ReadCell old new None → IsUntouched old new
read_untouched old new g = record {
  others = g.others;
  cell = g.cell;
  items = g.items;
  is_on = g.ends.is_on ∙ sym g.ends.was_on;
  writes = g.writes;
  room = omega (arith, g.room);
  faults = g.ends.faults;
}

pub blamed : (fault : Option StepFault) (old new : Standing) (made : Bool) → DeviceStepEnds fault old new made
    → CountsHandedFault fault old.faults new.faults
blamed (Some Failed) old new made e = e.faults
blamed _ old new made e = e.faults

pub blamed_later : (fault : Option StepFault) (first before now : ℕ) → before ≡ first → CountsHandedFault fault before now
    → CountsHandedFault fault first now
blamed_later fault first before now e b = subst (λ (n : ℕ). CountsHandedFault fault n now) e b

-- the answer to a batch of one is that to its request
pub wholly : (all : BatchAnswer) (answer : Answer) → answer.again ≡ all.again → answer.position ≡ all.position
    → all.outputs ≡ answer.output ∷ [] → answer.snapshot ≡ all.snapshot → all ≡ batch_answer_of answer
wholly all answer again position outputs snapshot =
    λ i. record { again = sym again i; position = sym position i; outputs = outputs i; snapshot = sym snapshot i }

-- A call in flight: some of its device steps were made, and whatever ends what is left of it makes
-- it a call in one go. With it: a call of the machine in flight.
use Rattle.std.specs.Prelude.{◌≡◌, ◌<◌, ◌≤◌, ℕ, true, List, Some, Bool, false, Option, None}
use Rattle.mm_platform.specs.Standing.{Plan, Standing, due_values, fault_at, is_made_at, is_on_at}
use Rattle.mm_platform.specs.declared.fault.StepFault.{StepFault}
use Rattle.mm_platform.specs.declared.plan.Meddle.{Meddle}
use Rattle.mm_platform.specs.declared.plan.Stop.{Stop}
use Rattle.mm_platform.specs.declared.plan.Stop.TheVariants.{Quiet}
use Rattle.mm_machine.specs.OpSteps.{OpMeaning, OpEnds}
use Rattle.mm_machine.specs.declared.call.OpResult.{OpResult}
use Rattle.mm_machine.specs.declared.call.OpResult.TheVariants.{Broken}
use Rattle.mm_machine.specs.declared.call.OpStage.{OpStage}
use Rattle.mm_machine.specs.declared.call.OpStage.TheVariants.{Begun}
use Rattle.mm_machine.specs.declared.call.StepResult.{StepResult}
use Rattle.mm_machine.specs.declared.call.StepResult.TheVariants.{Going, Over}

-- the plan of a call with these meddles, that is stopped so
abbrev pub plan_by : Stop → List Meddle → Plan
plan_by stop meddles = record { stop = stop; meddles = meddles; at = 0 }

-- a platform under another plan, of which so many steps are over
abbrev pub standing_under : Plan → ℕ → Standing → Standing
standing_under plan at standing = record standing { plan = Some (record plan { at = at }) }

-- Two plans say the same of the step with this number: the values that others bring before it, the
-- fault that it answers, whether its effect is made, and whether the platform is on afterwards.
pub record PlansAgreeAt (one other : Plan) (n : ℕ) : Type 0 where
  pub brings : due_values n one.meddles ≡ due_values n other.meddles
  pub answers : fault_at one.stop n ≡ fault_at other.stop n
  pub makes : is_made_at one.stop n ≡ is_made_at other.stop n
  pub stays : is_on_at one.stop n ≡ is_on_at other.stop n

-- the plan says of the steps that were made what was met there: these meddles, and nothing that
-- goes wrong
abbrev pub PlanAgreesWith : Plan → List Meddle → ℕ → Type 0
PlanAgreesWith plan meddles made = (n : ℕ) → n ≤ made → PlansAgreeAt plan (plan_by Quiet meddles) n

-- A call that began over a platform that stood as `old`, and of which so many steps were made;
-- these are the meddles so far. Whatever ends what is left of it makes it, under each plan that
-- says so of the steps made, the call in one go.
pub record IsCallInFlight {E : Type 0} (calls rest : Standing → Standing → E → Type 0)
    (old now : Standing)
    (meddles : List Meddle) (made : ℕ) : Type 0 where
  pub is_on : now.is_on ≡ true
  pub planned : now.plan ≡ Some (record (plan_by Quiet meddles) { at = made })
  -- it has committed nothing by the cell, and has closed no segment
  pub cell : now.cell ≡ old.cell
  pub few : made < 255
  pub joins : (plan : Plan) → PlanAgreesWith plan meddles made → (new : Standing) (ended : E)
      → rest (standing_under plan made now) new ended → calls (standing_under plan 0 old) new ended

-- A call of the machine in flight.

-- the fault that a call hands on, and whether one broke it off
abbrev pub fault_of_end : {A R : Type 0} → OpResult A R → Option StepFault
fault_of_end (Broken fault commits) = Some fault
fault_of_end _ = None

abbrev pub fault_of_step : {A R : Type 0} → StepResult A R → Option StepFault
fault_of_step (Going stage) = None
fault_of_step (Over ended) = fault_of_end ended

abbrev pub is_broken : {A R : Type 0} → OpResult A R → Bool
is_broken (Broken fault commits) = true
is_broken _ = false

module _ {A R : Type 0} (o : OpMeaning A R) where
  -- A call that began over a platform that stood so is in flight, and stands here.
  abbrev pub CallFlies : Standing → List Meddle → ℕ → OpStage A → Standing → Type 0
  CallFlies from meddles made stage now =
      IsCallInFlight (OpEnds o Begun) (OpEnds o stage) from now meddles made

  -- the whole call, which ended so under this stop
  abbrev pub CallEndsUnder : Standing → List Meddle → Stop → Standing → OpResult A R → Type 0
  CallEndsUnder from meddles stop new ended =
      OpEnds o Begun (standing_under (plan_by stop meddles) 0 from) new ended

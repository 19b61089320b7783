-- Where a call stands, and how it ended, by what the devices answered. With it: the steps that a
-- host makes, and what its devices answered; what a call tells, by the steps that were made; a
-- host's platform, and the steps that were made on it.
use Rattle.std.specs.Prelude.{◌≡◌, ℕ, List, Option, Some, Ok, ◌≢◌, ◌⊎◌, [], ◌∷◌, ◌++◌, length, None, Result, Err, Bool, true, false, suc}
use Rattle.std.specs.Result.{result_err}
use Rattle.mm_digest.specs.declared.digest.Digest.{Digest}
use Rattle.mm_seal.specs.declared.cell.Cell.{Cell}
use Rattle.mm_platform.specs.Standing.{Item, Standing, item_values, register_after, Act, StepGoes}
use Rattle.mm_platform.specs.Standing as act
use Rattle.mm_platform.specs.declared.fault.StepFault.{StepFault}
use Rattle.mm_platform.specs.declared.fault.StepFault.TheVariants.{Off}
use Rattle.mm_machine.specs.Acts.{act_in}
use Rattle.mm_machine.specs.OpSteps.{OpMeaning, step_of_finding, step_after_change}
use Rattle.mm_machine.specs.OpSteps as machine
use Rattle.mm_machine.specs.declared.call.OpResult.{OpResult}
use Rattle.mm_machine.specs.declared.call.OpResult.TheVariants.{Refused, Broken}
use Rattle.mm_machine.specs.declared.call.OpStage.{OpStage}
use Rattle.mm_machine.specs.declared.call.OpStage.TheVariants.{Begun, Seen, Changing}
use Rattle.mm_machine.specs.declared.call.StepResult.{StepResult}
use Rattle.mm_machine.specs.declared.call.StepResult.TheVariants.{Going, Over}
use Rattle.mm_machine.specs.declared.operation.OpFinding.{OpFinding}
use Rattle.mm_machine.specs.declared.operation.Sight.{Sight}
use Rattle.mm_machine.specs.declared.operation.Sight.TheVariants as sight
use Rattle.mm_told.specs.declared.outcome.StepsOutcome.{StepsOutcome}
use Rattle.mm_told.specs.declared.outcome.StepsOutcome.TheVariants as outcome
use Rattle.mm_told.specs.declared.step.HostStep.{HostStep}
use Rattle.mm_told.specs.declared.step.HostStep.TheVariants as step
use Rattle.mm_told.specs.declared.step.MadeStep.{MadeStep}
use Rattle.mm_told.specs.declared.step.MadeStep.TheVariants as made
use Rattle.mm_told.specs.declared.told.CallProgress.{CallProgress}
use Rattle.mm_told.specs.declared.told.CallProgress.TheVariants as came
use Rattle.mm_told.specs.declared.told.StepTarget.{StepTarget}
use Rattle.mm_told.specs.declared.told.StepTarget.TheVariants as turn

-- The steps that a host makes, and what its devices answered.

-- the device step
abbrev pub act_of : HostStep → Act
act_of step.ReadCell = act.ReadCell
act_of (step.WriteCell bytes) = act.WriteCell bytes
act_of step.ReadRegister = act.ReadRegister
act_of step.ResetRegister = act.ResetRegister
act_of (step.ExtendRegister value) = act.ExtendRegister value.bytes

-- the device step that was made, and the fault that was answered
abbrev pub made_act : MadeStep → Act
made_act (made.ReadCell answer) = act.ReadCell
made_act (made.WriteCell bytes answer) = act.WriteCell bytes
made_act (made.ReadRegister answer) = act.ReadRegister
made_act (made.ResetRegister answer) = act.ResetRegister
made_act (made.ExtendRegister value answer) = act.ExtendRegister value.bytes

abbrev pub fault_of_answer : MadeStep → Option StepFault
fault_of_answer (made.ReadCell answer) = result_err answer
fault_of_answer (made.WriteCell bytes answer) = result_err answer
fault_of_answer (made.ReadRegister answer) = result_err answer
fault_of_answer (made.ResetRegister answer) = result_err answer
fault_of_answer (made.ExtendRegister value answer) = result_err answer

-- what was read is what stands, where the platform tells that
abbrev pub ReadIsTrue : MadeStep → Standing → Standing → Type 0
ReadIsTrue (made.ReadCell (Ok bytes)) old new =
    (cell : List ℕ) → old.cell ≡ Some cell → bytes ≡ cell
ReadIsTrue (made.ReadRegister (Ok value)) old new =
    (items : List Item) → new.items ≡ Some items
    → value.bytes ≡ register_after (item_values items)
ReadIsTrue _ old new = Unit {0}

-- The step was made on a platform, and answered so.
pub record IsMade (it : MadeStep) (old new : Standing) : Type 0 where
  pub goes : StepGoes (made_act it) old new (fault_of_answer it)
  pub reads : ReadIsTrue it old new

-- Where a call stands, and how it ended, by what the devices answered.

-- where a call stands behind what was seen in the cell; and behind what was found in the register
abbrev pub step_by_sight : {A R : Type 0} → Result (Sight A) R → StepResult A R
step_by_sight (Ok (sight.Found found)) = step_of_finding (Ok found)
step_by_sight (Ok (sight.Cell cell)) = Going (Seen cell)
step_by_sight (Err why) = Over (Refused why)

abbrev pub step_by_finding : {A R : Type 0} → Result (OpFinding A) R → StepResult A R
step_by_finding (Ok found) = step_of_finding (Ok found)
step_by_finding (Err why) = Over (Refused why)

-- This is drawn from what was read, and leads there.
pub record StepIsDrawn {T A R : Type 0} (says : T → Type 0) (leads : T → StepResult A R)
    (step : StepResult A R)
    : Type 0 where
  pub drawn : T
  pub is_said : says drawn
  pub gives : step ≡ leads drawn

-- what the code calls where a step leads
abbrev pub target_of_step : {A R : Type 0} → StepResult A R → StepTarget A R
target_of_step (Going stage) = turn.To stage
target_of_step (Over end) = turn.End end

-- a call that ended, and these steps were made behind that
abbrev pub progress_at_end : {A R : Type 0} → List MadeStep → OpResult A R → CallProgress A R
progress_at_end [] end = came.Over end
progress_at_end (it ∷ more) end = came.Before end

module _ {A R : Type 0} (o : OpMeaning A R) where
  -- what the device's answer leads to: the cell's; the register's, 32 bytes
  abbrev pub CellStepLeads : MadeStep → StepResult A R → Type 0
  CellStepLeads (made.ReadCell (Ok bytes)) step = StepIsDrawn (o.sees bytes) step_by_sight step
  CellStepLeads (made.ReadCell (Err fault)) step = step ≡ Over (Broken fault None)
  CellStepLeads _ step = ⊥

  abbrev pub RegisterStepLeads : Cell → MadeStep → StepResult A R → Type 0
  RegisterStepLeads cell (made.ReadRegister (Ok value)) step =
      (length value.bytes ≡ 32) × StepIsDrawn (o.finds cell value.bytes) step_by_finding step
  RegisterStepLeads cell (made.ReadRegister (Err fault)) step = step ≡ Over (Broken fault None)
  RegisterStepLeads cell _ step = ⊥

  -- The step that was made is the one that a call makes which stands here, and its device's answer
  -- leads the call there, or to its end.
  abbrev pub MadeStepLeads : OpStage A → MadeStep → StepResult A R → Type 0
  MadeStepLeads Begun it step = CellStepLeads it step
  MadeStepLeads (Seen cell) it step = RegisterStepLeads cell it step
  MadeStepLeads (Changing ready) it step =
      (made_act it ≡ act_in ready.change) × (step ≡ step_after_change o ready (fault_of_answer it))

  -- The same, as the code tells it; or the step isn't that one.
  abbrev pub StepHasTarget : OpStage A → MadeStep → StepTarget A R → Type 0
  StepHasTarget stage it (turn.To next) = MadeStepLeads stage it (Going next)
  StepHasTarget stage it (turn.End end) = MadeStepLeads stage it (Over end)
  StepHasTarget stage it turn.Other = made_act it ≢ machine.act_of stage

  abbrev pub StepsWeighRegister : Cell → Digest → StepTarget A R → Type 0
  StepsWeighRegister cell value turn = StepHasTarget (Seen cell) (made.ReadRegister (Ok value)) turn

  -- These steps lead a call from here to there; and to this end, at the last of them.
  abbrev pub StepsReachStage : OpStage A → List MadeStep → OpStage A → Type 0
  StepsReachStage from [] stage = stage ≡ from
  StepsReachStage from (it ∷ more) stage =
      (next : OpStage A) × MadeStepLeads from it (Going next) × StepsReachStage next more stage

  abbrev pub StepsReachEnd : OpStage A → List MadeStep → OpResult A R → Type 0
  StepsReachEnd from [] end = ⊥
  StepsReachEnd from (it ∷ more) end =
      ((more ≡ []) × MadeStepLeads from it (Over end))
      ⊎ ((next : OpStage A) × MadeStepLeads from it (Going next) × StepsReachEnd next more end)

  -- the next device step behind these
  pub record IsNextStep (from : OpStage A) (steps : List MadeStep) (step : Act) : Type 0 where
    pub stage : OpStage A
    pub stands : StepsReachStage from steps stage
    pub next : step ≡ machine.act_of stage

  -- The call was over before the last of the steps that were made.
  pub record WasOver (from : OpStage A) (steps : List MadeStep) (end : OpResult A R) : Type 0 where
    pub front : List MadeStep
    pub it : MadeStep
    pub rest : List MadeStep
    pub are : steps ≡ front ++ it ∷ rest
    pub ends : StepsReachEnd from front end

  -- It makes another step than one that was made.
  pub record WasOther (from : OpStage A) (steps : List MadeStep) : Type 0 where
    pub front : List MadeStep
    pub it : MadeStep
    pub rest : List MadeStep
    pub are : steps ≡ front ++ it ∷ rest
    pub stage : OpStage A
    pub stands : StepsReachStage from front stage
    pub other : made_act it ≢ machine.act_of stage

  -- What the call comes to that stands here, with these steps made from here on.
  abbrev pub StepsComeTo : OpStage A → List MadeStep → CallProgress A R → Type 0
  StepsComeTo from steps (came.Next step) = IsNextStep from steps (act_of step)
  StepsComeTo from steps (came.Over end) = StepsReachEnd from steps end
  StepsComeTo from steps (came.Before end) = WasOver from steps end
  StepsComeTo from steps came.Elsewhere = WasOther from steps

-- What a call tells, by the steps that were made.

-- What a call makes next behind these steps, and what it gives where it ends with the last of them;
-- and whether that is want of memory.
pub record CallProtocol (E : Type 0) : Type 1 where
  pub next : List MadeStep → Act → Type 0
  pub gives : List MadeStep → E → Type 0
  pub lacks : E → Bool

module _ {E : Type 0} (course : CallProtocol E) where
  -- behind these it makes another step than this; or it is over with the last of them, for want of
  -- memory or not
  pub record MakesOther (front : List MadeStep) (it : MadeStep) : Type 0 where
    pub act : Act
    pub next : course.next front act
    pub other : made_act it ≢ act

  pub record HasEnded (lacking : Bool) (front : List MadeStep) : Type 0 where
    pub given : E
    pub gives : course.gives front given
    pub lacks : course.lacks given ≡ lacking

  -- The steps are other than the call's: behind the front ones it makes another than the one that
  -- was made, or it was over, and memory wasn't wanting.
  pub record StepsDiffer (steps : List MadeStep) : Type 0 where
    pub front : List MadeStep
    pub it : MadeStep
    pub rest : List MadeStep
    pub are : steps ≡ front ++ it ∷ rest
    pub other : MakesOther front it ⊎ HasEnded false front

  -- memory was wanting behind some of the steps
  pub record StepsLackMemory (steps : List MadeStep) : Type 0 where
    pub front : List MadeStep
    pub rest : List MadeStep
    pub are : steps ≡ front ++ rest
    pub over : HasEnded true front

  -- What the call tells; what it gives is told in this form.
  abbrev pub TellsOutcome : {G : Type 0} → (G → E) → List MadeStep → StepsOutcome G → Type 0
  TellsOutcome form steps (outcome.Ended given) = course.gives steps (form given)
  TellsOutcome form steps (outcome.Next step) = course.next steps (act_of step)
  TellsOutcome form steps outcome.Differs = StepsDiffer steps
  TellsOutcome form steps outcome.Memory = StepsLackMemory steps

  -- Each of the steps is the one that the call makes behind those before it: the one that it tells
  -- as Next there.
  abbrev pub AreAsTold : List MadeStep → Type 0
  AreAsTold steps =
      (front rest : List MadeStep) (it : MadeStep) → steps ≡ front ++ it ∷ rest
      → course.next front (made_act it)

-- A host's platform, and the steps that were made on it.

-- A host's platform: the steps that were made on it; where it stood, by how many of these were
-- still to be made; and where it stands if, with so many of them left, it makes another step, of
-- which no answer comes.
pub record Host : Type 0 where
  pub made : List MadeStep
  pub stood : ℕ → Standing
  pub missed : ℕ → Act → Standing
  pub misses : (left : ℕ) (act : Act) → StepGoes act (stood left) (missed left act) (Some Off)

-- The steps were made on the platform, one after another.
abbrev pub AreMade : (ℕ → Standing) → List MadeStep → Type 0
AreMade stood [] = Unit {0}
AreMade stood (it ∷ more) =
    IsMade it (stood (suc (length more))) (stood (length more)) × AreMade stood more

pub record IsHostOf (steps : List MadeStep) (host : Host) : Type 0 where
  pub made_are : host.made ≡ steps
  pub are_made : AreMade host.stood steps

-- What stands, as hardware shows it, which tells no plan and always has room for an extension.
abbrev pub bare_standing : Standing → Standing
bare_standing standing = record standing { spare = 1; plan = None }

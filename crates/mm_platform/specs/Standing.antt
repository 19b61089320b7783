-- What stands on a platform. With it: what each device step does to what stands on a platform; what
-- stands after each step, exactly, where a platform tells its plan; what a caller of several steps
-- knows afterwards.
use Rattle.std.specs.List.{fold}
use Rattle.std.specs.Option.{option_map, option_map_or}
use Rattle.std.specs.Prelude.{ℕ, Bool, true, false, List, Option, map, filter, ◌==◌, ◌≡◌, ◌+◌, ◌≤◌, not, [], ◌∷◌, ◌++◌, None, Some, IsSome}
use Rattle.std.specs.Prelude.{if◌then◌else◌, ◌-◌, is_none}
use Rattle.mm_bytes.specs.Limits.{next_count, CountRose}
use Rattle.mm_digest.specs.Messages.{zero_bytes, extended_digest_of}
use Rattle.mm_platform.specs.declared.fault.StepFault.{StepFault}
use Rattle.mm_platform.specs.declared.fault.StepFault.TheVariants.{Failed, Off}
use Rattle.mm_platform.specs.declared.plan.Meddle.{Meddle}
use Rattle.mm_platform.specs.declared.plan.Stop.{Stop}
use Rattle.mm_platform.specs.declared.plan.Stop.TheVariants.{Quiet, Cut, Drop, Fail}

-- one extension of the register: by the platform's own program, or by others; and its value of 32
-- bytes
pub record Item : Type 0 where
  pub own : Bool
  pub value : List ℕ

abbrev pub own_item : List ℕ → Item
own_item value = record { own = true; value = value }

abbrev pub foreign_item : List ℕ → Item
foreign_item value = record { own = false; value = value }

abbrev pub item_values : List Item → List (List ℕ)
item_values items = map (λ item. item.value) items

-- the register's value after extensions by these values, from zero
abbrev pub register_after : List (List ℕ) → List ℕ
register_after values = fold extended_digest_of zero_bytes values

-- what the coming steps will meet: a stop, the values by which others extend the register just
-- before certain steps, and the number of steps since the plan was made
pub record Plan : Type 0 where
  pub stop : Stop
  pub meddles : List Meddle
  pub at : ℕ

-- what stands on a platform; the cell, the register's items and the plan only where the platform
-- tells them
pub record Standing : Type 0 where
  pub cell : Option (List ℕ)
  pub items : Option (List Item)
  pub is_on : Bool
  -- the steps called, and those of them that were to write the cell
  pub steps : ℕ
  pub writes : ℕ
  -- the losses of power that were called for, whether they failed or not
  pub cycles : ℕ
  -- the own extensions that can still be recorded without memory
  pub spare : ℕ
  pub faults : ℕ
  pub plan : Option Plan

-- the number of the next step, counted from 1 since the plan was made
abbrev pub next_step : Plan → ℕ
next_step plan = next_count plan.at

-- the plan once the next step is over
abbrev pub plan_after : Plan → Plan
plan_after plan = record plan { at = next_step plan }

-- the values by which others extend the register just before this step, in order
abbrev pub due_values : ℕ → List Meddle → List (List ℕ)
due_values step meddles = map (λ m. m.value.bytes) (filter (λ m. m.step == step) meddles)

-- What each device step does to what stands on a platform.

-- the device steps
pub data Act : Type 0 where
  ReadCell : Act
  WriteCell : List ℕ → Act
  ReadRegister : Act
  ResetRegister : Act
  ExtendRegister : List ℕ → Act

-- the items, with those of others behind them
abbrev pub items_beside : List (List ℕ) → Option (List Item) → Option (List Item)
items_beside others items = option_map (λ xs. xs ++ map foreign_item others) items

-- the cell after a step whose effect is made, or isn't
abbrev pub cell_after : Act → Bool → Option (List ℕ) → Option (List ℕ)
cell_after (WriteCell bytes) true cell = option_map (λ _. bytes) cell
cell_after _ made cell = cell

-- the items after a step whose effect is made, or isn't
abbrev pub items_after : Act → Bool → Option (List Item) → Option (List Item)
items_after ResetRegister true items = option_map (λ _. []) items
items_after (ExtendRegister value) true items = option_map (λ xs. xs ++ own_item value ∷ []) items
items_after _ made items = items

-- the count of writes after a step is called
abbrev pub writes_after : Act → ℕ → ℕ
writes_after (WriteCell bytes) writes = next_count writes
writes_after _ writes = writes

-- the room that a step's effect takes: one for an own extension
abbrev pub taken_room : Act → Bool → ℕ
taken_room (ExtendRegister value) true = 1
taken_room _ made = 0

-- Ok: the effect is made and no fault is counted. A platform that is off never answers so.
pub record IsDone (old new : Standing) (is_made : Bool) : Type 0 where
  pub made : is_made ≡ true
  pub was_on : old.is_on ≡ true
  pub is_on : new.is_on ≡ true
  pub faults : new.faults ≡ old.faults

-- Failed: the effect is made or isn't, and the platform stays on
pub record HasFailed (old new : Standing) : Type 0 where
  pub was_on : old.is_on ≡ true
  pub is_on : new.is_on ≡ true
  pub faults : CountRose old.faults new.faults

-- Off: the effect is made or isn't, and the platform may be off. A platform that was off stays so,
-- and makes no effect.
pub record IsOff (old new : Standing) (is_made : Bool) : Type 0 where
  pub faults : CountRose old.faults new.faults
  pub still : old.is_on ≡ false → (is_made ≡ false) × (new.is_on ≡ false)

abbrev pub DeviceStepEnds : Option StepFault → Standing → Standing → Bool → Type 0
DeviceStepEnds None old new is_made = IsDone old new is_made
DeviceStepEnds (Some Failed) old new is_made = HasFailed old new
DeviceStepEnds (Some Off) old new is_made = IsOff old new is_made

-- What a plan says of the step with a number: the fault that it answers, whether its effect is
-- made, and whether the platform is on afterwards.
abbrev pub fault_at : Stop → ℕ → Option StepFault
fault_at Quiet step = None
fault_at (Cut at) step = if at == step then Some Off else None
fault_at (Drop at) step = if at == step then Some Off else None
fault_at (Fail at done) step = if at == step then Some Failed else None

abbrev pub is_made_at : Stop → ℕ → Bool
is_made_at (Fail at done) step = if at == step then done else true
is_made_at _ step = true

abbrev pub is_on_at : Stop → ℕ → Bool
is_on_at (Cut at) step = not (at == step)
is_on_at _ step = true

-- What the next step will do where the plan is told, on a platform that is on or off.
abbrev pub fault_by_plan : Bool → Plan → Option StepFault
fault_by_plan is_on plan = if is_on then fault_at plan.stop (next_step plan) else Some Off

abbrev pub is_made_by_plan : Bool → Plan → Bool
is_made_by_plan is_on plan = if is_on then is_made_at plan.stop (next_step plan) else false

abbrev pub is_on_by_plan : Bool → Plan → Bool
is_on_by_plan is_on plan = if is_on then is_on_at plan.stop (next_step plan) else false

abbrev pub values_by_plan : Bool → Plan → List (List ℕ)
values_by_plan is_on plan = if is_on then due_values (next_step plan) plan.meddles else []

-- the count of faults after a step that answers so, where the plan is told: one more for each fault
abbrev pub faults_after : Option StepFault → ℕ → ℕ
faults_after None faults = faults
faults_after (Some fault) faults = next_count faults

-- the step goes as the plan says
pub record StepGoesByPlan (plan : Plan) (old new : Standing) (is_made : Bool)
    (others : List (List ℕ))
    (fault : Option StepFault) : Type 0 where
  pub answers : fault ≡ fault_by_plan old.is_on plan
  pub makes : is_made ≡ is_made_by_plan old.is_on plan
  pub power : new.is_on ≡ is_on_by_plan old.is_on plan
  pub brings : others ≡ values_by_plan old.is_on plan
  pub counts : new.faults ≡ faults_after fault old.faults

-- A device step went from one standing to another, and answered this fault, or none for Ok. First
-- others extended the register by their values; then the step's effect was made, or wasn't; nothing
-- comes later.
pub record StepGoes (act : Act) (old new : Standing) (fault : Option StepFault) : Type 0 where
  pub is_made : Bool
  pub others : List (List ℕ)
  pub cell : new.cell ≡ cell_after act is_made old.cell
  pub items : new.items ≡ items_after act is_made (items_beside others old.items)
  pub steps : new.steps ≡ next_count old.steps
  pub writes : new.writes ≡ writes_after act old.writes
  pub cycles : new.cycles ≡ old.cycles
  pub room : old.spare ≤ new.spare + taken_room act is_made
  pub plan : new.plan ≡ option_map plan_after old.plan
  pub ends : DeviceStepEnds fault old new is_made
  pub told : (plan : Plan) → old.plan ≡ Some plan → StepGoesByPlan plan old new is_made others fault

-- room for an own extension was made: nothing else changed
pub record RoomGrows (old new : Standing) : Type 0 where
  pub room : 1 ≤ new.spare
  pub same : new ≡ record old { spare = new.spare }

-- Power was lost and came back. After Ok the register is empty and the platform on; after a fault
-- the register is empty or as before. It is counted once, failed or not. Where the platform tells
-- its plan, it never fails.
abbrev pub items_after_cycle : Bool → Option (List Item) → Option (List Item)
items_after_cycle true items = option_map (λ _. []) items
items_after_cycle false items = items

abbrev pub CycleEnds : Option StepFault → Standing → Standing → Bool → Type 0
CycleEnds None old new is_emptied =
    (is_emptied ≡ true) × (new.is_on ≡ true) × (new.faults ≡ old.faults)
CycleEnds (Some fault) old new is_emptied = CountRose old.faults new.faults

pub record PowerCycles (old new : Standing) (fault : Option StepFault) : Type 0 where
  pub is_emptied : Bool
  pub cell : new.cell ≡ old.cell
  pub items : new.items ≡ items_after_cycle is_emptied old.items
  pub steps : new.steps ≡ old.steps
  pub writes : new.writes ≡ old.writes
  pub cycles : new.cycles ≡ next_count old.cycles
  pub room : old.spare ≤ new.spare
  pub plan : new.plan ≡ old.plan
  pub ends : CycleEnds fault old new is_emptied
  pub told : IsSome old.plan → fault ≡ None

-- What stands after each step, exactly, where a platform tells its plan.

-- nothing goes wrong, and nobody else extends the register
abbrev pub quiet_plan : Plan
quiet_plan = record { stop = Quiet; meddles = []; at = 0 }

-- What the next step of a platform that tells its plan will do. The plan of one that tells none is
-- taken as quiet.
abbrev pub next_plan : Standing → Plan
next_plan old = option_map_or (λ plan. plan) old.plan quiet_plan

abbrev pub next_answer : Standing → Option StepFault
next_answer old = fault_by_plan old.is_on (next_plan old)

abbrev pub is_next_made : Standing → Bool
is_next_made old = is_made_by_plan old.is_on (next_plan old)

-- what stands once a step was called, before its effect
abbrev pub standing_in_step : Standing → Standing
standing_in_step old = record old {
  items = items_beside (values_by_plan old.is_on (next_plan old)) old.items;
  is_on = is_on_by_plan old.is_on (next_plan old);
  steps = next_count old.steps;
  faults = faults_after (next_answer old) old.faults;
  plan = option_map plan_after old.plan;
}

-- the room after a step whose effect is made, or isn't
abbrev pub spare_after : Act → Bool → ℕ → ℕ
spare_after (ExtendRegister value) true spare = spare - 1
spare_after _ made spare = spare

-- what stands after a step
abbrev pub standing_after_step : Act → Standing → Standing
standing_after_step act old = let now : Standing = standing_in_step old in record now {
  cell = cell_after act (is_next_made old) now.cell;
  items = items_after act (is_next_made old) now.items;
  writes = writes_after act now.writes;
  spare = spare_after act (is_next_made old) now.spare;
}

-- what stands after these steps, of which none comes after one that fails; and what the last of
-- them answers
abbrev pub outcome_of_acts : List Act → Standing → Standing × Option StepFault
outcome_of_acts [] old = (old, None)
outcome_of_acts (act ∷ acts) old =
    if is_none (next_answer old) then outcome_of_acts acts (standing_after_step act old)
    else (standing_after_step act old, next_answer old)

-- two standings that differ in their room at most
pub record AreAlike (one other : Standing) : Type 0 where
  pub spare : ℕ
  pub same : one ≡ record other { spare = spare }

-- What a caller of several steps knows afterwards. Its steps: a read of the cell, an extension by a
-- value, a write of the cell.

abbrev pub read_extend_write : List ℕ → List ℕ → List Act
read_extend_write value bytes = ReadCell ∷ ExtendRegister value ∷ WriteCell bytes ∷ []

-- where the plan is told: the answer, and what stands
pub record ActsAsTold (acts : List Act) (old new : Standing) (fault : Option StepFault) : Type 0
  where
    pub answer : fault ≡ (outcome_of_acts acts old).1
    pub stands : AreAlike new (outcome_of_acts acts old).0

-- where it isn't: the extension and the write were made, or weren't, and others extended the
-- register before and after the caller's own extension
pub record MayHaveActed (value bytes : List ℕ) (old new : Standing) : Type 0 where
  pub extended : Bool
  pub written : Bool
  pub before : List (List ℕ)
  pub after : List (List ℕ)
  pub cell : new.cell ≡ cell_after (WriteCell bytes) written old.cell
  pub items : new.items ≡ items_beside after
      (items_after (ExtendRegister value) extended (items_beside before old.items))

-- after Ok both were made, and no fault was counted
abbrev pub EndsCalls : Option StepFault → Standing → Standing → Bool → Bool → Type 0
EndsCalls None old new extended written =
    (extended ≡ true) × (written ≡ true) × (new.faults ≡ old.faults)
EndsCalls (Some fault) old new extended written = CountRose old.faults new.faults

pub record ActsUntold (value bytes : List ℕ) (old new : Standing)
    (fault : Option StepFault) : Type 0 where
  pub acts : MayHaveActed value bytes old new
  pub ends : EndsCalls fault old new acts.extended acts.written

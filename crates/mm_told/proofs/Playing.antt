-- The steps that were made on a host's platform are those of the machine. With it: where a call
-- stands by what the devices answered, step by step; a step that isn't answered, and steps as
-- hardware shows them; a host's platform, by where it stood.
use Rattle.std.specs.Option.{option_map}
use Rattle.std.specs.Prelude.{◌≢◌, Option, None, Some, Ok, Err, Result}
use Rattle.std.proofs.Common.{◌≡◌, ◌∙◌, ℕ, ◌≤◌, ◌-◌, List, [], ◌∷◌, length, take, drop, get_or, refl, ap, subst, inl, inr, arith, Bool}
use Rattle.std.proofs.Common.{false, sym, suc, true, zero}
use Rattle.std.proofs.lemmas.List.{take_all}
use Rattle.mm_bytes.specs.Limits.{next_count}
use Rattle.mm_seal.specs.declared.cell.Cell.{Cell}
use Rattle.mm_platform.specs.CallLaws.{beside-none}
use Rattle.mm_platform.specs.Standing.{Item, Plan, Standing, plan_after, Act, ReadCell, WriteCell, ReadRegister, ResetRegister}
use Rattle.mm_platform.specs.Standing.{ExtendRegister, DeviceStepEnds, StepGoes, cell_after, items_after, writes_after}
use Rattle.mm_platform.specs.declared.fault.StepFault.{StepFault}
use Rattle.mm_platform.specs.declared.fault.StepFault.TheVariants.{Failed, Off}
use Rattle.mm_machine.specs.OpSteps.{OpMeaning, OpEnds, RegisterSays, RoomIsMadeIf, has_extension, OpSteps, FirstStepGoes, act_of}
use Rattle.mm_machine.specs.OpSteps as machine
use Rattle.mm_machine.specs.declared.call.OpResult.{OpResult}
use Rattle.mm_machine.specs.declared.call.OpResult.TheVariants.{Broken}
use Rattle.mm_machine.specs.declared.call.OpStage.{OpStage}
use Rattle.mm_machine.specs.declared.call.OpStage.TheVariants.{Begun, Seen, Changing}
use Rattle.mm_machine.specs.declared.call.StepResult.{StepResult}
use Rattle.mm_machine.specs.declared.call.StepResult.TheVariants.{Going, Over}
use Rattle.mm_machine.specs.declared.operation.OpFinding.{OpFinding}
use Rattle.mm_machine.specs.declared.operation.Sight.{Sight}
use Rattle.mm_machine.specs.declared.operation.Sight.TheVariants as sight
use Rattle.mm_machine.specs.declared.reading.Halt.TheVariants as halt
use Rattle.mm_machine.proofs.Above.{joins}
use Rattle.mm_flight.proofs.Above.{commits_at, steps_fail}
use Rattle.mm_told.specs.CallPath.{StepsComeTo, MadeStepLeads, WasOther, StepHasTarget, progress_at_end, target_of_step, made_act}
use Rattle.mm_told.specs.CallPath.{fault_of_answer, ReadIsTrue, IsMade, bare_standing, StepsReachEnd, StepsReachStage, step_by_sight}
use Rattle.mm_told.specs.CallPath.{step_by_finding, AreMade, Host}
use Rattle.mm_told.specs.declared.step.MadeStep.{MadeStep}
use Rattle.mm_told.specs.declared.step.MadeStep.TheVariants as made
use Rattle.mm_told.specs.declared.told.CallProgress.{CallProgress}
use Rattle.mm_told.specs.declared.told.CallProgress.TheVariants as came

-- Where a call stands by what the devices answered, step by step.

module _ {A R : Type 0} (o : OpMeaning A R) where
  -- where a step leads
  pub turned : (stage : OpStage A) (it : MadeStep) (step : StepResult A R) → MadeStepLeads o stage it step
      → StepHasTarget o stage it (target_of_step step)
  turned stage it (Going next) l = l
  turned stage it (Over end) l = l

  -- one step, and then the others
  goes_on : (from next : OpStage A) (it : MadeStep) (more : List MadeStep) (told : CallProgress A R) → MadeStepLeads o from it (Going next)
      → StepsComeTo o next more told
      → StepsComeTo o from (it ∷ more) told
  goes_on from next it more (came.Next step) l c = record { stage = c.stage; stands = (next, l, c.stands); next = c.next }
  goes_on from next it more (came.Over end) l c = inr (next, l, c)
  goes_on from next it more (came.Before end) l c =
      record { front = it ∷ c.front; it = c.it; rest = c.rest; are = ap (◌∷◌ it) c.are; ends = inr (next, l, c.ends) }
  goes_on from next it more came.Elsewhere l c = record {
    front = it ∷ c.front;
    it = c.it;
    rest = c.rest;
    are = ap (◌∷◌ it) c.are;
    stage = c.stage;
    stands = (next, l, c.stands);
    other = c.other;
  }

  ends_here : (from : OpStage A) (it : MadeStep) (more : List MadeStep) (end : OpResult A R) → MadeStepLeads o from it (Over end)
      → StepsComeTo o from (it ∷ more) (progress_at_end more end)
  ends_here from it [] end l = inl (refl, l)
  ends_here from it (one ∷ more) end l = record { front = it ∷ []; it = one; rest = more; are = refl; ends = inl (refl, l) }

  other_here : (from : OpStage A) (it : MadeStep) (more : List MadeStep) → made_act it ≢ machine.act_of from → WasOther o from (it ∷ more)
  other_here from it more other =
      record { front = []; it = it; rest = more; are = refl; stage = from; stands = refl; other = other }

  -- the same, as a slice has the steps
  module _ (from : OpStage A) (default : MadeStep) where
    pub slice_on : (steps more : List MadeStep) (n : ℕ) (next : OpStage A) (told : CallProgress A R) → 1 ≤ length steps
        → n ≡ length steps - 1
        → more ≡ take n (drop 1 steps) → MadeStepLeads o from (get_or steps 0 default) (Going next) → StepsComeTo o next more told
        → StepsComeTo o from steps told
    slice_on [] more n next told some counts e l c = absurd (omega (arith, some))
    slice_on (it ∷ rest) more n next told some counts e l c =
        goes_on from next it rest told l
        (subst (λ (xs : List MadeStep). StepsComeTo o next xs told) (e ∙ take_all n rest (omega (arith, counts))) c)

    pub slice_ends : (steps more : List MadeStep) (n : ℕ) (end : OpResult A R) → 1 ≤ length steps → n ≡ length steps - 1
        → more ≡ take n (drop 1 steps) → MadeStepLeads o from (get_or steps 0 default) (Over end)
        → StepsComeTo o from steps (progress_at_end more end)
    slice_ends [] more n end some counts e l = absurd (omega (arith, some))
    slice_ends (it ∷ rest) more n end some counts e l =
        rw (e ∙ take_all n rest (omega (arith, counts))) (ends_here from it rest end l)

    pub slice_other : (steps : List MadeStep) → 1 ≤ length steps → made_act (get_or steps 0 default) ≢ machine.act_of from
        → WasOther o from steps
    slice_other [] some other = absurd (omega (arith, some))
    slice_other (it ∷ rest) some other = other_here from it rest other

-- A step that isn't answered, and steps as hardware shows them.

cell_unmade : (act : Act) (cell : Option (List ℕ)) → cell ≡ cell_after act false cell
cell_unmade ReadCell cell = refl
cell_unmade (WriteCell bytes) cell = refl
cell_unmade ReadRegister cell = refl
cell_unmade ResetRegister cell = refl
cell_unmade (ExtendRegister value) cell = refl

items_unmade : (act : Act) (items : Option (List Item)) → items ≡ items_after act false items
items_unmade ReadCell items = refl
items_unmade (WriteCell bytes) items = refl
items_unmade ReadRegister items = refl
items_unmade ResetRegister items = refl
items_unmade (ExtendRegister value) items = refl

plan_untold : (plan : Option Plan) → plan ≡ None → plan ≡ option_map plan_after plan
plan_untold None e = refl
plan_untold (Some plan) e = absurd (cc)

-- what a step leaves that has no effect and answers Off
abbrev pub after_unmade : Act → Standing → Standing
after_unmade act standing = record standing {
  steps = next_count standing.steps;
  writes = writes_after act standing.writes;
  faults = next_count standing.faults;
}

pub unmade : (act : Act) (standing : Standing) → standing.plan ≡ None → StepGoes act standing (after_unmade act standing) (Some Off)
unmade act standing untold = record {
  is_made = false;
  others = [];
  cell = cell_unmade act standing.cell;
  items = items_unmade act standing.items ∙ sym (ap (items_after act false) (beside-none standing.items));
  steps = refl;
  writes = refl;
  cycles = refl;
  room = omega arith;
  plan = plan_untold standing.plan untold;
  ends = record { faults = refl; still = λ off. (refl, off) };
  told = λ plan told. absurd (cc);
}

-- a step as hardware shows it
ends_bare : (fault : Option StepFault) (old new : Standing) (made : Bool) → DeviceStepEnds fault old new made
    → DeviceStepEnds fault (bare_standing old) (bare_standing new) made
ends_bare None old new made e = record { made = e.made; was_on = e.was_on; is_on = e.is_on; faults = e.faults }
ends_bare (Some Failed) old new made e = record { was_on = e.was_on; is_on = e.is_on; faults = e.faults }
ends_bare (Some Off) old new made e = record { faults = e.faults; still = e.still }

pub goes_bare : (act : Act) (old new : Standing) (fault : Option StepFault) → StepGoes act old new fault
    → StepGoes act (bare_standing old) (bare_standing new) fault
goes_bare act old new fault a = record {
  is_made = a.is_made;
  others = a.others;
  cell = a.cell;
  items = a.items;
  steps = a.steps;
  writes = a.writes;
  cycles = a.cycles;
  room = omega arith;
  plan = refl;
  ends = ends_bare fault old new a.is_made a.ends;
  told = λ plan told. absurd (cc);
}

reads_bare : (it : MadeStep) (old new : Standing) → ReadIsTrue it old new → ReadIsTrue it (bare_standing old) (bare_standing new)
reads_bare (made.ReadCell (Ok bytes)) old new r = r
reads_bare (made.ReadCell (Err fault)) old new r = tt
reads_bare (made.WriteCell bytes answer) old new r = tt
reads_bare (made.ReadRegister (Ok value)) old new r = r
reads_bare (made.ReadRegister (Err fault)) old new r = tt
reads_bare (made.ResetRegister answer) old new r = tt
reads_bare (made.ExtendRegister value answer) old new r = tt

pub made_bare : (it : MadeStep) (old new : Standing) → IsMade it old new → IsMade it (bare_standing old) (bare_standing new)
made_bare it old new m =
    record { goes = goes_bare (made_act it) old new (fault_of_answer it) m.goes; reads = reads_bare it old new m.reads }

-- The steps that were made on a host's platform are those of the machine.

module _ {A R : Type 0} (o : OpMeaning A R) where
  -- hardware always has room
  roomed : (needs : Bool) (found : OpFinding A) (at : Standing) → RoomIsMadeIf needs {A = A} {R = R} found (bare_standing at)
      (bare_standing at) (Ok found)
  roomed false found at = (refl, refl)
  roomed true found at = (record { room = omega arith; same = refl }, refl)

  seen_steps : (seen : Result (Sight A) R) (bytes : List ℕ) (old new : Standing) (step : StepResult A R) → o.sees bytes seen
      → StepGoes ReadCell (bare_standing old) (bare_standing new) None → ((cell : List ℕ) → old.cell ≡ Some cell → bytes ≡ cell)
      → step ≡ step_by_sight seen → FirstStepGoes o (bare_standing old) (bare_standing new) step
  seen_steps (Err why) bytes old new step s g told e = record {
    middle = bare_standing new;
    seen = Err (halt.Refused why);
    looks = (g, record { bytes = bytes; told = told; said = s });
    leads = (refl, e);
  }
  seen_steps (Ok (sight.Found found)) bytes old new step s g told e = record {
    middle = bare_standing new;
    seen = Ok (sight.Found found);
    looks = (g, record { bytes = bytes; told = told; said = s });
    leads = record { found = Ok found; finds = roomed (has_extension found) found new; gives = e };
  }
  seen_steps (Ok (sight.Cell cell)) bytes old new step s g told e = record {
    middle = bare_standing new;
    seen = Ok (sight.Cell cell);
    looks = (g, record { bytes = bytes; told = told; said = s });
    leads = (refl, e);
  }

  weighed_steps : (found : Result (OpFinding A) R) (cell : Cell) (old new : Standing) (step : StepResult A R)
      → StepGoes ReadRegister (bare_standing old) (bare_standing new) None
      → RegisterSays (bare_standing new) (λ register. o.finds cell register found)
      → step ≡ step_by_finding found → OpSteps o (Seen cell) (bare_standing old) (bare_standing new) step
  weighed_steps (Err why) cell old new step g s e = record {
    found = Err (halt.Refused why);
    finds = record { middle = bare_standing new; found = Err (halt.Refused why); finds = (g, s); rooms = (refl, refl) };
    gives = e;
  }
  weighed_steps (Ok found) cell old new step g s e = record {
    found = Ok found;
    finds = record { middle = bare_standing new; found = Ok found; finds = (g, s); rooms = roomed (has_extension found) found new };
    gives = e;
  }

  -- one step
  steps : (from : OpStage A) (it : MadeStep) (step : StepResult A R) (old new : Standing) → MadeStepLeads o from it step
      → IsMade it (bare_standing old) (bare_standing new)
      → OpSteps o from (bare_standing old) (bare_standing new) step
  steps Begun (made.ReadCell (Ok bytes)) step old new l m =
      seen_steps l.drawn bytes old new step l.is_said m.goes m.reads l.gives
  steps Begun (made.ReadCell (Err fault)) step old new l m =
      record { middle = bare_standing new; seen = Err (halt.Fault fault); looks = m.goes; leads = (refl, l) }
  steps Begun _ step old new l m = absurd l
  steps (Seen cell) (made.ReadRegister (Ok value)) step old new l m =
      weighed_steps l.1.drawn cell old new step m.goes
      (record { register = value.bytes; told = m.reads; size = l.0; said = l.1.is_said }) l.1.gives
  steps (Seen cell) (made.ReadRegister (Err fault)) step old new l m = record {
    found = Err (halt.Fault fault);
    finds = record { middle = bare_standing new; found = Err (halt.Fault fault); finds = m.goes; rooms = (refl, refl) };
    gives = l;
  }
  steps (Seen cell) _ step old new l m = absurd l
  steps (Changing ready) it step old new l m =
      record {
        fault = fault_of_answer it;
        goes =
            subst (λ (act : Act). StepGoes act (bare_standing old) (bare_standing new) (fault_of_answer it)) l.0 m.goes;
        gives = l.1;
      }

  module _ (stood : ℕ → Standing) where
    one_step : (from : OpStage A) (it : MadeStep) (more : List MadeStep) (step : StepResult A R) → MadeStepLeads o from it step
        → AreMade stood (it ∷ more)
        → OpSteps o from (bare_standing (stood (suc (length more)))) (bare_standing (stood (length more))) step
    one_step from it more step l m =
        steps from it step (stood (suc (length more))) (stood (length more)) l
        (made_bare it (stood (suc (length more))) (stood (length more)) m.0)

    -- the steps to an end
    pub finishes : (from : OpStage A) (made : List MadeStep) (end : OpResult A R) → StepsReachEnd o from made end → AreMade stood made
        → OpEnds o from (bare_standing (stood (length made))) (bare_standing (stood 0)) end
    finishes from [] end e m = absurd e
    finishes from (it ∷ more) end (inl e) m =
        let none : more ≡ [] = e.0 in
        joins o from (bare_standing (stood (suc (length more)))) (bare_standing (stood (length more)))
        (bare_standing (stood 0)) (Over end) end
        (one_step from it more (Over end) e.1 m) (rw none (refl, refl))
    finishes from (it ∷ more) end (inr e) m =
        joins o from (bare_standing (stood (suc (length more)))) (bare_standing (stood (length more)))
        (bare_standing (stood 0)) (Going e.0) end
        (one_step from it more (Going e.0) e.1 m) (finishes e.0 more end e.2 m.1)

    -- the steps to a stage, where the next isn't answered
    pub breaks : (from : OpStage A) (made : List MadeStep) (stage : OpStage A) (missed : Standing) → StepsReachStage o from made stage
        → AreMade stood made → StepGoes (act_of stage) (bare_standing (stood 0)) (bare_standing missed) (Some Off)
        → OpEnds o from (bare_standing (stood (length made))) (bare_standing missed) (Broken Off (commits_at o stage))
    breaks from [] stage missed s m g =
        subst (λ (x : OpStage A). OpEnds o x (bare_standing (stood 0)) (bare_standing missed) (Broken Off (commits_at o stage))) s
        (steps_fail o stage (bare_standing (stood 0)) (bare_standing missed) Off g)
    breaks from (it ∷ more) stage missed s m g =
        joins o from (bare_standing (stood (suc (length more)))) (bare_standing (stood (length more))) (bare_standing missed) (Going s.0)
        (Broken Off (commits_at o stage)) (one_step from it more (Going s.0) s.1 m) (breaks s.0 more stage missed s.2 m.1 g)

-- A host's platform, by where it stood.

-- a step that isn't answered has no effect
abbrev pub host_of : List MadeStep → (ℕ → Standing) → Host
host_of steps stood = record {
  made = steps;
  stood = λ left. bare_standing (stood left);
  missed = λ left act. after_unmade act (bare_standing (stood left));
  misses = λ left act. unmade act (bare_standing (stood left)) refl;
}

-- where it stands now, before what it stood at
abbrev pub now_at : Standing → (ℕ → Standing) → ℕ → Standing
now_at now before zero = now
now_at now before (suc left) = before left

-- A platform on which any steps may have been made.
use Rattle.std.proofs.Common.{◌≡◌, ◌-◌, ◌^◌, true, [], refl, arith}
use Rattle.std.specs.Prelude.{List, ◌∷◌, Option, None, Some, Ok, Err}
use Rattle.mm_platform.specs.declared.fault.StepFault.{StepFault}
use Rattle.mm_platform.specs.declared.fault.StepFault.TheVariants.{Failed, Off}
use Rattle.mm_platform.specs.Standing.{Standing, Act, ReadCell, WriteCell, ReadRegister, ResetRegister, ExtendRegister, DeviceStepEnds}
use Rattle.mm_platform.specs.Standing.{StepGoes, items_beside, cell_after, items_after, writes_after}
use Rattle.mm_told.specs.declared.step.MadeStep.{MadeStep}
use Rattle.mm_told.specs.declared.step.MadeStep.TheVariants as made
use Rattle.mm_told.specs.CallPath.{ReadIsTrue, made_act, fault_of_answer, Host, AreMade, IsHostOf}

-- no content is told, and the counts are at their greatest
abbrev pub worn_standing : Standing
worn_standing = record {
  cell = None;
  items = None;
  is_on = true;
  steps = 2 ^ 64 - 1;
  writes = 2 ^ 64 - 1;
  cycles = 0;
  spare = 1;
  faults = 2 ^ 64 - 1;
  plan = None;
}

cell_worn : (act : Act) → None ≡ cell_after act true None
cell_worn ReadCell = refl
cell_worn (WriteCell bytes) = refl
cell_worn ReadRegister = refl
cell_worn ResetRegister = refl
cell_worn (ExtendRegister value) = refl

items_worn : (act : Act) → None ≡ items_after act true (items_beside [] None)
items_worn ReadCell = refl
items_worn (WriteCell bytes) = refl
items_worn ReadRegister = refl
items_worn ResetRegister = refl
items_worn (ExtendRegister value) = refl

writes_worn : (act : Act) → 2 ^ 64 - 1 ≡ writes_after act (2 ^ 64 - 1)
writes_worn ReadCell = refl
writes_worn (WriteCell bytes) = refl
writes_worn ReadRegister = refl
writes_worn ResetRegister = refl
writes_worn (ExtendRegister value) = refl

ends_worn : (fault : Option StepFault) → DeviceStepEnds fault worn_standing worn_standing true
ends_worn None = record { made = refl; was_on = refl; is_on = refl; faults = refl }
ends_worn (Some Failed) = record { was_on = refl; is_on = refl; faults = refl }
ends_worn (Some Off) = record { faults = refl; still = λ off. absurd (cc) }

-- any step, with any answer
pub goes_worn : (act : Act) (fault : Option StepFault) → StepGoes act worn_standing worn_standing fault
goes_worn act fault = record {
  is_made = true;
  others = [];
  cell = cell_worn act;
  items = items_worn act;
  steps = refl;
  writes = writes_worn act;
  cycles = refl;
  room = omega arith;
  plan = refl;
  ends = ends_worn fault;
  told = λ plan told. absurd (cc);
}

pub worn_host : List MadeStep → Host
worn_host steps = record {
  made = steps;
  stood = λ left. worn_standing;
  missed = λ left act. worn_standing;
  misses = λ left act. goes_worn act (Some Off);
}

reads_worn : (it : MadeStep) → ReadIsTrue it worn_standing worn_standing
reads_worn (made.ReadCell (Ok bytes)) = λ cell told. absurd (cc)
reads_worn (made.ReadCell (Err fault)) = tt
reads_worn (made.WriteCell bytes answer) = tt
reads_worn (made.ReadRegister (Ok value)) = λ items told. absurd (cc)
reads_worn (made.ReadRegister (Err fault)) = tt
reads_worn (made.ResetRegister answer) = tt
reads_worn (made.ExtendRegister value answer) = tt

-- any steps
are_made : (steps : List MadeStep) → AreMade (λ left. worn_standing) steps
are_made [] = tt
are_made (it ∷ more) = (
  record { goes = goes_worn (made_act it) (fault_of_answer it); reads = reads_worn it },
  are_made more,
)

pub is_worn_host : (steps : List MadeStep) → IsHostOf steps (worn_host steps)
unfolding worn_host
is_worn_host steps = record { made_are = refl; are_made = are_made steps }

-- What a step of the register and a write of the memory do to what is told, where no content is.
use Rattle.std.proofs.Common.{◌≡◌, ℕ, List, true, [], refl, arith}
use Rattle.std.specs.Prelude.{None, Result, Ok, Err, IfErr}
use Rattle.std.specs.Result.{result_err}
use Rattle.mm_bytes.specs.Limits.{next_count, CountsFaults}
use Rattle.mm_platform.specs.declared.fault.StepFault.{StepFault}
use Rattle.mm_platform.specs.declared.fault.StepFault.TheVariants as step
use Rattle.mm_platform.specs.Memory.{WritesRaw}
use Rattle.mm_platform.specs.Standing.{Act, ReadCell, WriteCell, ReadRegister, ResetRegister, ExtendRegister, DeviceStepEnds, StepGoes}
use Rattle.mm_platform.specs.Standing.{items_beside, cell_after, items_after, writes_after}
use Rattle.mm_files.specs.UntoldDevices.{untold_standing}

abbrev IsFailed : {T : Type 0} → Result T StepFault → Type 0
IsFailed result = IfErr result (λ fault. fault ≡ step.Failed)

cell_untold : (act : Act) → None ≡ cell_after act true None
cell_untold ReadCell = refl
cell_untold (WriteCell bytes) = refl
cell_untold ReadRegister = refl
cell_untold ResetRegister = refl
cell_untold (ExtendRegister value) = refl

items_untold : (act : Act) → None ≡ items_after act true (items_beside [] None)
items_untold ReadCell = refl
items_untold (WriteCell bytes) = refl
items_untold ReadRegister = refl
items_untold ResetRegister = refl
items_untold (ExtendRegister value) = refl

ends_untold : {T : Type 0} (steps steps' cycles cycles' faults faults' : ℕ) (result : Result T StepFault)
    → CountsFaults faults faults' result → IsFailed result
    → DeviceStepEnds (result_err result) (untold_standing steps cycles faults) (untold_standing steps' cycles' faults') true
ends_untold steps steps' cycles cycles' faults faults' (Ok value) counts failed =
    record { made = refl; was_on = refl; is_on = refl; faults = counts.kept }
ends_untold steps steps' cycles cycles' faults faults' (Err step.Failed) counts failed =
    record { was_on = refl; is_on = refl; faults = counts.failed }
ends_untold steps steps' cycles cycles' faults faults' (Err step.Off) counts failed = cc

-- a step of the register
pub goes_untold : {T : Type 0} (act : Act) (steps steps' cycles cycles' faults faults' : ℕ) (result : Result T StepFault)
    → steps' ≡ next_count steps → cycles' ≡ cycles
    → 0 ≡ writes_after act 0
    → CountsFaults faults faults' result → IsFailed result
    → StepGoes act (untold_standing steps cycles faults) (untold_standing steps' cycles' faults') (result_err result)
goes_untold act steps steps' cycles cycles' faults faults' result one same writes counts failed = record {
  is_made = true;
  others = [];
  cell = cell_untold act;
  items = items_untold act;
  steps = one;
  writes = writes;
  cycles = same;
  room = omega arith;
  plan = refl;
  ends = ends_untold steps steps' cycles cycles' faults faults' result counts failed;
  told = λ plan told. absurd (cc);
}

-- a write of the memory
pub writes_untold : {T : Type 0} (at : ℕ) (bytes : List ℕ) (steps cycles faults faults' : ℕ) (result : Result T StepFault)
    → CountsFaults faults faults' result → IsFailed result
    → WritesRaw at bytes (untold_standing steps cycles faults) (untold_standing steps cycles faults') (result_err result)
writes_untold at bytes steps cycles faults faults' result counts failed = record {
  written = bytes;
  size = refl;
  cell = refl;
  whole = λ done. refl;
  still = λ off. refl;
  rest = record { others = []; items = refl; steps = refl; writes = refl; cycles = refl; room = omega arith; plan = refl };
  is_made = true;
  ends = ends_untold steps steps cycles cycles faults faults' result counts failed;
}

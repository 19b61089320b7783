-- A memory of 209 bytes, of which one call fails where it is told to. With it: two cells of 104
-- bytes and a selector, seen as one cell; what is told of a memory's bytes.
use Rattle.std.specs.Option.{option_map}
use Rattle.std.specs.Prelude.{◌≡◌, ℕ, ◌-◌, ◌==◌, Bool, true, List, [], length, take, replicate, Option, None, Some, if◌then◌else◌, ◌*◌, ◌%◌}
use Rattle.std.specs.Prelude.{drop, slice_index}
use Rattle.std.proofs.Common.{arith}
use Rattle.std.proofs.lemmas.Bool.Decides.{nat_tests}
use Rattle.mm_bytes.specs.Limits.{next_count, cell_length}
use Rattle.mm_platform.specs.Memory.{new_platform, bytes_with_part, LeavesRest}
use Rattle.mm_platform.specs.Standing.{Plan, Standing, Act, quiet_plan, standing_after_step, AreAlike, WriteCell, cell_after}
use Rattle.mm_platform.specs.Standing.{DeviceStepEnds}
use Rattle.mm_platform.specs.declared.fault.StepFault.{StepFault}

-- what stands on it, how many calls of the memory or of power there are up to the one that fails
-- (none at 0), and what that one leaves where it is a write
pub record TornMemory : Type 0 where
  pub standing : Standing
  pub ahead : ℕ
  pub leaves : List ℕ

-- a new one: on, all bytes zero, with an empty register, and no call is to fail
abbrev pub first_memory : TornMemory
first_memory = record {
  standing = record (new_platform (replicate 209 0)) { plan = None };
  ahead = 0;
  leaves = [];
}

-- bytes are told where there are 209, as there always are
abbrev pub whole_bytes : Option (List ℕ) → Option (List ℕ)
whole_bytes None = None
whole_bytes (Some bytes) = if length bytes == 209 then Some bytes else None

-- what it tells of itself; it tells no plan
abbrev pub told_standing : TornMemory → Standing
told_standing it = record it.standing { cell = whole_bytes it.standing.cell; plan = None }

-- it is on, and its bytes are 209
pub record IsUsable (it : TornMemory) : Type 0 where
  pub on : it.standing.is_on ≡ true
  pub bytes : List ℕ
  pub cell : it.standing.cell ≡ Some bytes
  pub size : length bytes ≡ 209

-- whether the next call of the memory or of power fails
abbrev pub will_fail : TornMemory → Bool
will_fail it = it.ahead == 1

-- what stands once such a call was made, before its effect
abbrev pub memory_after_call : TornMemory → TornMemory
memory_after_call it = record it {
  standing =
      record it.standing {
        faults = if will_fail it then next_count it.standing.faults
            else it.standing.faults;
      };
  ahead = it.ahead - 1;
}

-- what stands once a loss of power was called that fails
abbrev pub memory_after_cycle : TornMemory → TornMemory
memory_after_cycle it =
    let now : TornMemory = memory_after_call it
    in record now { standing = record now.standing { cycles = next_count it.standing.cycles } }

-- with these bytes in place of those from `at` on
abbrev pub memory_with_part : ℕ → List ℕ → TornMemory → TornMemory
memory_with_part at part it =
    record it {
      standing = record it.standing
          { cell = option_map (bytes_with_part at part) it.standing.cell };
    }

-- what stands after a write of these bytes: where it fails, what it leaves stands in front of the
-- range, as far as that goes
abbrev pub memory_after_write : ℕ → List ℕ → TornMemory → TornMemory
memory_after_write at bytes it =
    memory_with_part at (if will_fail it then take (length bytes) it.leaves else bytes)
    (memory_after_call it)

-- A step of the register is made: nobody else extends it, and what is to fail stays.
pub record StepsRegister (act : Act) (old new : TornMemory) : Type 0 where
  pub stands : AreAlike (told_standing new) (standing_after_step act (told_standing old))
  pub ahead : new.ahead ≡ old.ahead
  pub leaves : new.leaves ≡ old.leaves

-- the plan of the register is quiet, however many steps it has seen
abbrev pub plan_from_start : Plan → Plan
plan_from_start plan = record plan { at = 0 }

abbrev pub IsSteady : Standing → Type 0
IsSteady register =
    (register.is_on ≡ true) × (option_map plan_from_start register.plan ≡ Some quiet_plan)

-- Two cells of 104 bytes and a selector, seen as one cell.

-- the cell that the last of 209 bytes picks: the first one where it is even, the second where it is
-- odd
abbrev pub picked_cell : List ℕ → List ℕ
picked_cell bytes = take cell_length (drop (cell_length * (slice_index bytes 208 % 2)) bytes)

-- what stands on the platform, by what stands on that of its memory and its own counts of steps and
-- of writes
abbrev pub standing_as_one : Standing → ℕ → ℕ → Standing
standing_as_one raw steps writes =
    record raw {
      cell = option_map picked_cell raw.cell;
      steps = steps;
      writes = writes;
      plan =
          None;
    }

-- the other cell was written and then picked: the picked cell is the new one, or the old one
pub record WritesOtherCell (bytes : List ℕ) (old new : Standing) (fault : Option StepFault) : Type 0
  where
    pub is_made : Bool
    pub cell : option_map picked_cell new.cell ≡ cell_after (WriteCell bytes) is_made
        (option_map picked_cell old.cell)
    pub rest : LeavesRest old new
    pub ends : DeviceStepEnds fault old new is_made

-- What is told of a memory's bytes.

whole_size : (cell : Option (List ℕ)) (bytes : List ℕ) → whole_bytes cell ≡ Some bytes
    → length bytes ≡ 209
whole_size None bytes e = absurd (cc)
whole_size (Some all) bytes e = grind (arith, nat_tests, e)

pub told_size : (it : TornMemory) (bytes : List ℕ) → (told_standing it).cell ≡ Some bytes
    → length bytes ≡ 209
told_size it bytes e = whole_size it.standing.cell bytes e

-- A platform in memory. With it: the register's items, as a platform in memory keeps them; what a
-- read and a write of a part of non-volatile memory do, where a write may tear.
use Rattle.std.specs.Option.{option_map}
use Rattle.std.specs.Prelude.{ℕ, Bool, true, List, [], ◌∷◌, ◌++◌, Some, count_by, nat_lt, map, ◌≡◌, ◌+◌, ◌≤◌, false, length, take, drop}
use Rattle.std.specs.Prelude.{Option, None}
use Rattle.mm_bytes.specs.Limits.{next_count}
use Rattle.mm_digest.specs.declared.digest.Digest.{Digest}
use Rattle.mm_platform.specs.declared.extensions.Entry.{Entry}
use Rattle.mm_platform.specs.declared.fault.StepFault.{StepFault}
use Rattle.mm_platform.specs.declared.plan.Meddle.{Meddle}
use Rattle.mm_platform.specs.declared.plan.Stop.{Stop}
use Rattle.mm_platform.specs.declared.plan.Stop.TheVariants.{Fail}
use Rattle.mm_platform.specs.Standing.{Standing, Plan, next_step, quiet_plan, Item, items_beside, DeviceStepEnds}

-- a new platform with this cell
abbrev pub new_platform : List ℕ → Standing
new_platform cell = record {
  cell = Some cell;
  items = Some [];
  is_on = true;
  steps = 0;
  writes = 0;
  cycles = 0;
  spare = 0;
  faults = 0;
  plan = Some quiet_plan;
}

-- the meddles whose step is still to come
abbrev pub count_ahead : ℕ → List Meddle → ℕ
count_ahead at meddles = count_by (λ m. nat_lt at m.step) meddles

-- the plan with this stop in place of its own
abbrev pub plan_with_stop : Stop → Plan → Plan
plan_with_stop stop plan = record plan { stop = stop }

-- the plan where others besides bring this value just before its next step
abbrev pub plan_with_meddle : Digest → Plan → Plan
plan_with_meddle value plan =
    record plan { meddles = plan.meddles ++ record { step = next_step plan; value = value } ∷ [] }

-- the next step fails, and nothing else goes wrong
abbrev pub failing_plan : Bool → Plan
failing_plan done = record { stop = Fail 1 done; meddles = []; at = 0 }

-- what stands once power was lost and came back, which is counted
abbrev pub standing_after_cycle : Standing → Standing
standing_after_cycle old =
    record old {
      items = option_map (λ _. []) old.items;
      is_on = true;
      cycles =
          next_count old.cycles;
    }

-- The register's items, as a platform in memory keeps them.

abbrev pub item_of : Entry → Item
item_of entry = record { own = entry.own; value = entry.value.bytes }

abbrev pub items_of : List Entry → List Item
items_of entries = map item_of entries

abbrev pub is_own : Item → Bool
is_own item = item.own

-- What a read and a write of a part of non-volatile memory do, where a write may tear.

-- the bytes, with these in place of those from `at` on
abbrev pub bytes_with_part : ℕ → List ℕ → List ℕ → List ℕ
bytes_with_part at part bytes = take at bytes ++ part ++ drop (at + length part) bytes

-- the bytes of a range
abbrev pub range_of : ℕ → ℕ → List ℕ → List ℕ
range_of at size bytes = take size (drop at bytes)

-- what a call leaves but for the non-volatile bytes
pub record LeavesRest (old new : Standing) : Type 0 where
  pub others : List (List ℕ)
  pub items : new.items ≡ items_beside others old.items
  pub steps : new.steps ≡ old.steps
  pub writes : new.writes ≡ old.writes
  pub cycles : new.cycles ≡ old.cycles
  pub room : old.spare ≤ new.spare
  pub plan : new.plan ≡ old.plan

-- a read changes no byte
pub record ReadsRaw (old new : Standing) (fault : Option StepFault) : Type 0 where
  pub cell : new.cell ≡ old.cell
  pub rest : LeavesRest old new
  pub is_made : Bool
  pub ends : DeviceStepEnds fault old new is_made

-- a write leaves some bytes in its range: the given ones after Ok, and the old ones while the
-- platform is off
pub record WritesRaw (at : ℕ) (bytes : List ℕ) (old new : Standing)
    (fault : Option StepFault) : Type 0 where
  pub written : List ℕ
  pub size : length written ≡ length bytes
  pub cell : new.cell ≡ option_map (bytes_with_part at written) old.cell
  pub whole : fault ≡ None → written ≡ bytes
  pub still : old.is_on ≡ false → new.cell ≡ old.cell
  pub rest : LeavesRest old new
  pub is_made : Bool
  pub ends : DeviceStepEnds fault old new is_made

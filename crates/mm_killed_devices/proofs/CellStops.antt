-- The two cells, killed at a call of their memory, leave what their step may leave.
use Rattle.std.specs.Option.{option_map}
use Rattle.std.specs.Prelude.{true, false, IsSome}
use Rattle.std.proofs.Common.{◌≡◌, ◌∙◌, ◌+◌, ◌≤◌, ℕ, List, [], ◌++◌, Bool, Option, None, Some, Result, Err, length, take, drop, refl, sym, ap, arith}
use Rattle.std.proofs.Common.{append_assoc, length-append, length-drop}
use Rattle.std.proofs.lemmas.List.{take-append-drop, length-take-le}
use Rattle.std.proofs.Math.Seq.{drop-append-add}
use Rattle.mm_bytes.specs.Limits.{next_count}
use Rattle.mm_platform.specs.Memory.{LeavesRest, ReadsRaw, WritesRaw, bytes_with_part}
use Rattle.mm_platform.specs.Standing.{Plan, Standing, plan_after, Act, DeviceStepEnds, IsOff, PowerCycles, StepGoes, cell_after}
use Rattle.mm_platform.specs.Standing.{writes_after, ReadCell, WriteCell, ReadRegister, ResetRegister, ExtendRegister}
use Rattle.mm_platform.specs.declared.fault.StepFault.{StepFault}
use Rattle.mm_platform.specs.declared.fault.StepFault.TheVariants.{Failed, Off}
use Rattle.mm_killed.proofs.Above.{CallAnswers, CallFails, MayFail, cycle_fails, failed_standing, killed_stops, nothing_beside, step_fails}
use Rattle.mm_killed_devices.specs.PageCalls.{CyclesRaw, IsOfRegister, RawCall, RawGoes, RawMayLeave, ReadsRange, StepsRegister}
use Rattle.mm_killed_devices.specs.PageCalls.{WritesRange}
use Rattle.mm_killed_devices.specs.Devices.{CellCyclesStop, CellStepsStop, IsMemory}
use Rattle.mm_twocell.specs.TornMemory.{picked_cell, standing_as_one}

true_false : true ≡ false → ⊥
true_false e = cc

none_some : {A : Type 0} {x : A} → None ≡ Some x → ⊥
none_some e = cc

no_plan : (plan : Option Plan) → plan ≡ None → IsSome plan → ⊥
no_plan None none some = cc
no_plan (Some plan) none some = cc

-- two standings tell the same
pub record StandsSame (one other : Standing) : Type 0 where
  pub cell : one.cell ≡ other.cell
  pub items : one.items ≡ other.items
  pub is_on : one.is_on ≡ other.is_on

same_at : (at : Standing) → StandsSame at at
same_at at = record { cell = refl; items = refl; is_on = refl }

same_along : (one two three : Standing) → StandsSame one two → StandsSame two three → StandsSame one three
same_along one two three a b =
    record { cell = a.cell ∙ b.cell; items = a.items ∙ b.items; is_on = a.is_on ∙ b.is_on }

-- a call of the memory fails, and leaves the same
abbrev failed_call : Standing → Standing
failed_call old = record old { faults = next_count old.faults }

rests : (old : Standing) → LeavesRest old (failed_call old)
rests old = record {
  others = [];
  items = nothing_beside old.items;
  steps = refl;
  writes = refl;
  cycles = refl;
  room = omega arith;
  plan = refl;
}

off : (old : Standing) → IsOff old (failed_call old) false
off old = record { faults = refl; still = λ is. (refl, is) }

read_fails : (old : Standing) → ReadsRaw old (failed_call old) (Some Off)
read_fails old = record { cell = refl; rest = rests old; is_made = false; ends = off old }

-- bytes that are put where they were
drop_more : (at n : ℕ) (l : List ℕ) → at ≤ length l → drop (at + n) l ≡ drop n (drop at l)
drop_more at n l few =
    let front : length (take at l) ≡ at = length-take-le at l few in
    ap (λ (k : ℕ). drop (k + n) l) (sym front) ∙ ap (λ (xs : List ℕ). drop (length (take at l) + n) xs) (sym (take-append-drop at l))
    ∙ drop-append-add (take at l) (drop at l) n

put_same : (at n : ℕ) (l : List ℕ) → at + n ≤ length l → take at l ++ take n (drop at l) ++ drop (at + n) l ≡ l
put_same at n l few =
    let within : at ≤ length l = omega arith in
    append_assoc (take at l) (take n (drop at l)) (drop (at + n) l)
    ∙ ap (λ (xs : List ℕ). take at l ++ (take n (drop at l) ++ xs)) (drop_more at n l within)
    ∙ ap (λ (xs : List ℕ). take at l ++ xs) (take-append-drop n (drop at l))
    ∙ take-append-drop at l

part_size : (at n : ℕ) (l : List ℕ) → at + n ≤ length l → length (take n (drop at l)) ≡ n
part_size at n l few = let m : n ≤ length (drop at l) = omega (arith, length-drop at l) in length-take-le n (drop at l) m

pub record PutBack (at : ℕ) (bytes : List ℕ) (cell : Option (List ℕ)) : Type 0 where
  pub written : List ℕ
  pub size : length written ≡ length bytes
  pub same : cell ≡ option_map (bytes_with_part at written) cell

put_back : (at : ℕ) (bytes : List ℕ) (cell : Option (List ℕ)) → at + length bytes ≤ 209
    → ((all : List ℕ) → cell ≡ Some all → length all ≡ 209) → PutBack at bytes cell
put_back at bytes None within whole = record { written = bytes; size = refl; same = refl }
put_back at bytes (Some all) within whole =
    let size : length all ≡ 209 = whole all refl in
    let few : at + length bytes ≤ length all = omega arith in
    let part : length (take (length bytes) (drop at all)) ≡ length bytes = part_size at (length bytes) all few in
    record {
      written = take (length bytes) (drop at all);
      size = part;
      same = ap (λ (xs : List ℕ). Some xs) (sym (ap (λ (k : ℕ). take at all ++ take (length bytes) (drop at all) ++ drop (at + k) all) part
          ∙ put_same at (length bytes) all few));
    }

none_failed : {A : Type 0} (fault : StepFault) → Some fault ≡ None → A
none_failed fault e = absurd (cc)

write_fails : (at : ℕ) (bytes : List ℕ) (old : Standing) → at + length bytes ≤ 209 → IsMemory old
    → WritesRaw at bytes old (failed_call old) (Some Off)
write_fails at bytes old within memory =
    let b = put_back at bytes old.cell within memory.whole in
    record {
      written = b.written;
      size = b.size;
      cell = b.same;
      whole = λ e. none_failed Off e;
      still = λ is. refl;
      rest = rests old;
      is_made = false;
      ends = off old;
    }

-- what a call that fails leaves
abbrev Fails : RawCall → Standing → Type 0
Fails call at = CallFails RawGoes RawMayLeave IsMemory StandsSame call at

same_counts : (at : Standing) (steps writes cycles faults : ℕ)
    → StandsSame (record at { steps = steps; writes = writes; cycles = cycles; faults = faults }) at
same_counts at steps writes cycles faults = record { cell = refl; items = refl; is_on = refl }

memory_same : (one other : Standing) → one.cell ≡ other.cell → one.plan ≡ other.plan → IsMemory other → IsMemory one
memory_same one other cell plan m = record { untold = plan ∙ m.untold; whole = λ bytes e. m.whole bytes (sym cell ∙ e) }

failed_by : (call : RawCall) (at new : Standing) → StandsSame new at → new.plan ≡ at.plan → IsMemory at → RawGoes call at new (Err Off)
    → Fails call at
failed_by call at new same plan m goes =
    record { new = new; answer = Err Off; goes = goes; holds = memory_same new at same.cell plan m; same = same }

fails : (call : RawCall) (at : Standing) → IsMemory at → Fails call at
fails (ReadsRange from size) at m =
    failed_by (ReadsRange from size) at (failed_call at) (same_counts at _ _ _ _) refl m (read_fails at, tt)
fails (WritesRange from bytes within) at m =
    failed_by (WritesRange from bytes within) at (failed_call at) (same_counts at _ _ _ _) refl m (write_fails from bytes at within m)
fails CyclesRaw at m =
    failed_by CyclesRaw at (record at { cycles = next_count at.cycles; faults = next_count at.faults }) (same_counts at _ _ _ _) refl m
    (cycle_fails at m.untold)
fails (StepsRegister act is) at m =
    failed_by (StepsRegister act is) at (failed_standing act at) (same_counts at _ _ _ _) refl m (step_fails act at m.untold, tt)

-- the memory stays one
put_size : (at : ℕ) (written all : List ℕ) → at + length written ≤ 209 → length all ≡ 209
    → length (bytes_with_part at written all) ≡ 209
put_size at written all within size =
    let front : length (take at all) ≡ at = length-take-le at all (omega arith) in
    omega (
      arith,
      length-append (take at all ++ written) (drop (at + length written) all),
      length-append (take at all) written,
      front,
      length-drop (at + length written) all,
    )

put_whole : (at : ℕ) (written : List ℕ) (old new : Option (List ℕ)) → at + length written ≤ 209
    → ((bytes : List ℕ) → old ≡ Some bytes → length bytes ≡ 209) → new ≡ option_map (bytes_with_part at written) old
    → (bytes : List ℕ) → new ≡ Some bytes → length bytes ≡ 209
put_whole at written None new within whole e bytes is = absurd (cc)
put_whole at written (Some all) new within whole e bytes is =
    let same : bytes_with_part at written all ≡ bytes = cc in
    ap (λ (xs : List ℕ). length xs) (sym same) ∙ put_size at written all within (whole all refl)

no_write : (act : Act) (is_made : Bool) (cell : Option (List ℕ)) → IsOfRegister act → cell_after act is_made cell ≡ cell
no_write ReadCell made cell is = absurd is
no_write (WriteCell bytes) made cell is = absurd is
no_write ReadRegister made cell is = refl
no_write ResetRegister made cell is = refl
no_write (ExtendRegister value) made cell is = refl

stays : (call : RawCall) (old new : Standing) (answer : Result (List ℕ) StepFault) → IsMemory old → RawGoes call old new answer
    → IsMemory new
stays (ReadsRange from size) old new answer m g = memory_same new old g.0.cell g.0.rest.plan m
stays (WritesRange from bytes within) old new answer m g = record {
  untold = g.rest.plan ∙ m.untold;
  whole = put_whole from g.written old.cell new.cell (omega (arith, within, g.size)) m.whole g.cell;
}
stays CyclesRaw old new answer m g = memory_same new old g.cell g.plan m
stays (StepsRegister act is) old new answer m g = record {
  untold = g.0.plan ∙ ap (λ (p : Option Plan). option_map plan_after p) m.untold;
  whole = λ bytes e. m.whole bytes (sym (g.0.cell ∙ no_write act g.0.is_made old.cell is) ∙ e);
}

leaves : (call : RawCall) (old left : Standing) → RawMayLeave call old left
    → CallAnswers RawGoes RawMayLeave IsMemory StandsSame call old left
leaves (ReadsRange from size) old left l = record { told = left; answer = Err Off; goes = (l, tt); same = same_at left }
leaves (WritesRange from bytes within) old left l = record { told = left; answer = Err Off; goes = l; same = same_at left }
leaves CyclesRaw old left l = record { told = left; answer = Err Off; goes = l; same = same_at left }
leaves (StepsRegister act is) old left l = record { told = left; answer = Err Off; goes = (l, tt); same = same_at left }

may_fail : MayFail RawGoes RawMayLeave IsMemory StandsSame
may_fail = record { fails = fails; stays = stays; leaves = leaves; alike = same_at; along = same_along }

-- However a step was answered, it may leave the same as it is killed.
ends_off : (old new : Standing) (fault : Option StepFault) (is_made : Bool) → DeviceStepEnds fault old new is_made
    → old.is_on ≡ false → (is_made ≡ false) × (new.is_on ≡ false)
ends_off old new None made ends off = absurd (true_false (sym ends.was_on ∙ off))
ends_off old new (Some Failed) made ends off = absurd (true_false (sym ends.was_on ∙ off))
ends_off old new (Some Off) made ends off = ends.still off

step_killed : (act : Act) (old new : Standing) (fault : Option StepFault) → old.plan ≡ None → StepGoes act old new fault
    → StepGoes act old (record new { faults = next_count old.faults }) (Some Off)
step_killed act old new fault none g = record {
  is_made = g.is_made;
  others = g.others;
  cell = g.cell;
  items = g.items;
  steps = g.steps;
  writes = g.writes;
  cycles = g.cycles;
  room = g.room;
  plan = g.plan;
  ends = record { faults = refl; still = ends_off old new fault g.is_made g.ends };
  told = λ plan some. absurd (none_some (sym none ∙ some));
}

cycle_killed : (old new : Standing) (fault : Option StepFault) → old.plan ≡ None → PowerCycles old new fault
    → PowerCycles old (record new { faults = next_count old.faults }) (Some Off)
cycle_killed old new fault none g = record {
  is_emptied = g.is_emptied;
  cell = g.cell;
  items = g.items;
  steps = g.steps;
  writes = g.writes;
  cycles = g.cycles;
  room = g.room;
  plan = g.plan;
  ends = refl;
  told = λ some. absurd (no_plan old.plan none some);
}

pub cell_steps : CellStepsStop
cell_steps act code old left steps writes runs memory killed =
    let s = killed_stops RawGoes RawMayLeave IsMemory StandsSame may_fail code old left memory killed in
    record {
      told = record (standing_as_one s.end (next_count steps) (writes_after act writes)) { faults = next_count old.faults };
      may = step_killed act (standing_as_one old steps writes) (standing_as_one s.end (next_count steps) (writes_after act writes)) s.given
          refl (runs s.end s.given s.runs);
      cell = ap (λ (c : Option (List ℕ)). option_map picked_cell c) s.same.cell;
      items = s.same.items;
      is_on = s.same.is_on;
    }

pub cell_cycles : CellCyclesStop
cell_cycles code old left steps writes runs memory killed =
    let s = killed_stops RawGoes RawMayLeave IsMemory StandsSame may_fail code old left memory killed in
    record {
      told = record (standing_as_one s.end steps writes) { faults = next_count old.faults };
      may = cycle_killed (standing_as_one old steps writes) (standing_as_one s.end steps writes) s.given refl (runs s.end s.given s.runs);
      cell = ap (λ (c : Option (List ℕ)). option_map picked_cell c) s.same.cell;
      items = s.same.items;
      is_on = s.same.is_on;
    }

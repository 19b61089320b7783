-- What a read and a write over two cells do to the one cell. With it: steps of a register whose
-- plan is quiet; a write that fails, of which a part is left.
use Rattle.std.specs.Prelude.{not}
use Rattle.std.proofs.lemmas.List.{length-drop}
use Rattle.mm_platform.specs.Standing.{quiet_plan, next_answer, is_next_made}
use Rattle.mm_twocell.proofs.Below.{nat_tests, ℕ, ◌≡◌, ◌-◌, ◌*◌, ◌⊎◌, inl, inr, Bool, true, false, List, [], ◌∷◌, ◌++◌, length, get_or}
use Rattle.mm_twocell.proofs.Below.{Some, refl, sym, ap, ◌∙◌, arith, ◌%◌, ◌==◌, slice_index, option_map, cell_length, Option, None}
use Rattle.mm_twocell.proofs.Below.{StepFault, Standing, WriteCell, items_beside, cell_after, DeviceStepEnds, bytes_with_part, LeavesRest}
use Rattle.mm_twocell.proofs.Below.{ReadsRaw, WritesRaw, beside-beside, picked_cell, WritesOtherCell, Act, ReadRegister, ResetRegister}
use Rattle.mm_twocell.proofs.Below.{ExtendRegister, items_after, Plan, fault_by_plan, is_made_by_plan, is_on_by_plan, values_by_plan}
use Rattle.mm_twocell.proofs.Below.{faults_after, StepGoes, TornMemory, told_standing, whole_bytes, StepsRegister, plan_from_start}
use Rattle.mm_twocell.proofs.Below.{IsSteady, ◌+◌, ◌≤◌, take, drop, subst, if◌then◌else◌, length-take, length-take-le, next_count}
use Rattle.mm_twocell.proofs.Below.{CountRose, Failed, range_of, beside-none, IsUsable, will_fail, memory_after_call, memory_with_part}
use Rattle.mm_twocell.proofs.Cells.{in_three, pair, number, one_item, parity, picks_own, picks_other, put_other, put_selector, selector_of}
use Rattle.mm_twocell.proofs.Cells.{behind, length-behind, put_behind, length-spliced}

-- how a call ends that went on from a call that was done
pub ends_with : (fault : Option StepFault) (old two three : Standing) (made any : Bool) → old.is_on ≡ true → two.faults ≡ old.faults
    → (fault ≡ None → made ≡ true) → DeviceStepEnds fault two three any → DeviceStepEnds fault old three made
ends_with fault old two three made any on same m e = grind (arith, on, same, m, e)

done_made : (fault : Option StepFault) (old new : Standing) (made : Bool) → DeviceStepEnds fault old new made → fault ≡ None → made ≡ true
done_made fault old new made e none = grind (arith, e, none)

pub leaves_then : (old one two : Standing) → LeavesRest old one → LeavesRest one two → LeavesRest old two
leaves_then old one two a b = record {
  others = a.others ++ b.others;
  items = b.items ∙ ap (items_beside b.others) a.items ∙ beside-beside a.others b.others old.items;
  steps = b.steps ∙ a.steps;
  writes = b.writes ∙ a.writes;
  cycles = b.cycles ∙ a.cycles;
  room = omega (arith, a.room, b.room);
  plan = b.plan ∙ a.plan;
}

-- a read, and another one
pub reads_then : (old one two : Standing) (fault : Option StepFault) → ReadsRaw old one None → ReadsRaw one two fault
    → ReadsRaw old two fault
reads_then old one two fault a b = record {
  cell = b.cell ∙ a.cell;
  rest = leaves_then old one two a.rest b.rest;
  is_made = b.is_made;
  ends = ends_with fault old one two b.is_made b.is_made a.ends.was_on a.ends.faults (done_made fault one two b.is_made b.ends) b.ends;
}

-- what was told of the memory and read of its selector
pub record IsRead (cell : Option (List ℕ)) (selector other : ℕ) : Type 0 where
  pub size : (bytes : List ℕ) → cell ≡ Some bytes → length bytes ≡ 209
  pub read : (bytes : List ℕ) → cell ≡ Some bytes → selector ≡ slice_index bytes 208
  pub other_is : other ≡ 1 - selector % 2

-- the two cells, one of which is picked, and the number of the other one
data Picks (bytes : List ℕ) (other : ℕ) : Type 0 where
  picks : (second : Bool) (x y : List ℕ) (n : ℕ) → bytes ≡ pair second x y n → length x ≡ cell_length → length y ≡ cell_length
      → n % 2 ≡ number second → other ≡ number (not second) → Picks bytes other

picks_of : (bytes : List ℕ) (selector other : ℕ) → length bytes ≡ 209 → selector ≡ slice_index bytes 208 → other ≡ 1 - selector % 2
    → Picks bytes other
picks_of bytes selector other l s o =
    let p = in_three cell_length bytes l in
    let same : selector ≡ p.selector = s ∙ ap (λ (b : List ℕ). slice_index b 208) p.whole
    ∙ selector_of p.first p.second p.selector p.first_size p.second_size in
    elim (parity p.selector) [
      | inl even ↦ picks false p.first p.second p.selector p.whole p.first_size p.second_size even (omega (arith, o, same, even))
      | inr odd ↦ picks true p.second p.first p.selector p.whole p.second_size p.first_size odd (omega (arith, o, same, odd))
    ]

-- a write of the other cell leaves the picked one
other_left : (bytes w : List ℕ) (other : ℕ) → Picks bytes other → length w ≡ cell_length
    → picked_cell (bytes_with_part (cell_length * other) w bytes) ≡ picked_cell bytes
other_left bytes w other (picks second x y n whole lx ly e o) lw =
    rw (whole, o)
    (ap picked_cell (put_other second x y w n lx ly lw) ∙ picks_own second x w n lx lw e ∙ sym (picks_own second x y n lx ly e))

-- the one cell by whether a write is made
cell_by : List ℕ → List ℕ → Bool → Option (List ℕ)
cell_by w old made = cell_after (WriteCell w) made (Some old)

-- a selector picks the other cell, or the one that was picked
picks_by : (second : Bool) (m : ℕ) → ((m % 2 ≡ number (not second)) × ((m % 2 == number (not second)) ≡ true))
    ⊎ ((m % 2 ≡ number second) × ((m % 2 == number (not second)) ≡ false))
picks_by second m = grind (arith, nat_tests)

-- a selector that is written then picks the written cell or the old one
selector_picks : (bytes w : List ℕ) (other m : ℕ) → Picks bytes other → length w ≡ cell_length
    → Some (picked_cell (bytes_with_part 208 (m ∷ []) (bytes_with_part (cell_length * other) w bytes)))
    ≡ cell_by w (picked_cell bytes) (m % 2 == other)
unfolding cell_by
selector_picks bytes w other m (picks second x y n whole lx ly e o) lw =
    rw (whole, o)
    (ap (λ (z : List ℕ). Some (picked_cell (bytes_with_part 208 (m ∷ []) z))) (put_other second x y w n lx ly lw)
    ∙ ap (λ (z : List ℕ). Some (picked_cell z)) (put_selector second x w m n lx lw)
    ∙ elim (picks_by second m) [
      | inl new ↦ ap Some (picks_other second x w m lx lw new.0) ∙ ap (cell_by w (picked_cell (pair second x y n))) (sym new.1)
      | inr old ↦ ap Some (picks_own second x w m lx lw old.0 ∙ sym (picks_own second x y n lx ly e))
          ∙ ap (cell_by w (picked_cell (pair second x y n))) (sym old.1)
    ])

none_after : (w : List ℕ) (made : Bool) → None ≡ cell_after (WriteCell w) made None
none_after w made = grind arith

told_left : (cell : Option (List ℕ)) (w : List ℕ) (selector other : ℕ) → IsRead cell selector other → length w ≡ cell_length
    → option_map picked_cell (option_map (bytes_with_part (cell_length * other) w) cell) ≡ option_map picked_cell cell
told_left None w selector other r lw = refl
told_left (Some bytes) w selector other r lw =
    ap Some (other_left bytes w other (picks_of bytes selector other (r.size bytes refl) (r.read bytes refl) r.other_is) lw)

told_picks : (cell : Option (List ℕ)) (w : List ℕ) (selector other m : ℕ) → IsRead cell selector other → length w ≡ cell_length
    → option_map picked_cell (option_map (bytes_with_part 208 (m ∷ [])) (option_map (bytes_with_part (cell_length * other) w) cell))
    ≡ cell_after (WriteCell w) (m % 2 == other) (option_map picked_cell cell)
unfolding cell_by
told_picks None w selector other m r lw = none_after w (m % 2 == other)
told_picks (Some bytes) w selector other m r lw =
    selector_picks bytes w other m (picks_of bytes selector other (r.size bytes refl) (r.read bytes refl) r.other_is) lw

-- the other cell was torn
pub write_torn : {bytes : List ℕ} {selector other : ℕ} {old one two : Standing} {fault : StepFault} → IsRead old.cell selector other
    → ReadsRaw old one None → WritesRaw (cell_length * other) bytes one two (Some fault) → length bytes ≡ cell_length
    → WritesOtherCell bytes old two (Some fault)
write_torn {selector = selector} {other = other} {old = old} {one = one} {two = two} {fault = fault} r a b l = record {
  is_made = false;
  cell = ap (option_map picked_cell) (b.cell ∙ ap (option_map (bytes_with_part (cell_length * other) b.written)) a.cell)
      ∙ told_left old.cell b.written selector other r (b.size ∙ l);
  rest = leaves_then old one two a.rest b.rest;
  ends = ends_with (Some fault) old one two false b.is_made a.ends.was_on a.ends.faults (λ none. absurd (cc)) b.ends;
}

other_below : (selector other : ℕ) → other ≡ 1 - selector % 2 → (other % 2 == other) ≡ true
other_below selector other o = elim (parity selector) [
  | inl even ↦ let f : other ≡ 1 = omega (arith, o, even) in ap (λ (k : ℕ). k % 2 == k) f
  | inr odd ↦ let f : other ≡ 0 = omega (arith, o, odd) in ap (λ (k : ℕ). k % 2 == k) f
]

-- the selector was written, or torn
pub write_ends : {bytes : List ℕ} {selector other value : ℕ} {old one two three : Standing} {fault : Option StepFault}
    → IsRead old.cell selector other → ReadsRaw old one None → WritesRaw (cell_length * other) bytes one two None
    → WritesRaw 208 (value ∷ []) two three fault → value ≡ other → length bytes ≡ cell_length → WritesOtherCell bytes old three fault
write_ends {bytes} {selector} {other} {old = old} {one = one} {two = two} {three = three} {fault = fault} r a b c same l =
    let m : ℕ = get_or c.written 0 0 in
    let byte : c.written ≡ m ∷ [] = one_item c.written c.size in
    let cells : three.cell ≡ option_map (bytes_with_part 208 (m ∷ [])) (option_map (bytes_with_part (cell_length * other) bytes) old.cell) =
    c.cell ∙ ap (λ (w : List ℕ). option_map (bytes_with_part 208 w) two.cell) byte
    ∙ ap (option_map (bytes_with_part 208 (m ∷ [])))
    (b.cell ∙ ap (λ (w : List ℕ). option_map (bytes_with_part (cell_length * other) w) one.cell) (b.whole refl)
    ∙ ap (option_map (bytes_with_part (cell_length * other) bytes)) a.cell) in
    record {
      is_made = m % 2 == other;
      cell = ap (option_map picked_cell) cells ∙ told_picks old.cell bytes selector other m r l;
      rest = leaves_then old one three a.rest (leaves_then one two three b.rest c.rest);
      ends = ends_with fault old two three (m % 2 == other) c.is_made a.ends.was_on (b.ends.faults ∙ a.ends.faults)
          (λ none. ap (λ (w : List ℕ). get_or w 0 0 % 2 == other) (c.whole none) ∙ ap (λ (v : ℕ). v % 2 == other) same
          ∙ other_below selector other r.other_is) c.ends;
    }

-- Steps of a register whose plan is quiet.

-- what such a step does
record Steadies {act : Act} {old new : Standing} {fault : Option StepFault} (g : StepGoes act old new fault) : Type 0 where
  made : g.is_made ≡ true
  others : g.others ≡ []
  on : new.is_on ≡ true

steadies_by : {act : Act} {old new : Standing} {fault : Option StepFault} (g : StepGoes act old new fault) (told : Option Plan)
    → old.plan ≡ told → old.is_on ≡ true → option_map plan_from_start told ≡ Some quiet_plan → Steadies g
steadies_by {act} {old} {new} {fault} g told known on quiet = grind (arith, known, on, quiet)

-- the memory that has this register
abbrev pub torn_of : List ℕ → ℕ → ℕ → ℕ → List ℕ → Standing → TornMemory
torn_of bytes cycles faults ahead leaves register = record {
  standing = record register { cell = Some bytes; cycles = cycles; faults = faults; plan = None };
  ahead = ahead;
  leaves = leaves;
}

module _ (old new : Standing) (fault : Option StepFault) (bytes : List ℕ) (cycles faults ahead : ℕ) (leaves : List ℕ)
    (steady : IsSteady old) where
  steps_by : (act : Act) → ((made : Bool) (cell : Option (List ℕ)) → cell_after act made cell ≡ cell) → StepGoes act old new fault
      → StepsRegister act (torn_of bytes cycles faults ahead leaves old) (torn_of bytes cycles faults ahead leaves new)
  steps_by act same g =
      let s = steadies_by g old.plan refl steady.0 steady.1 in
      let t : Standing = told_standing (torn_of bytes cycles faults ahead leaves old) in
      let made : is_next_made t ≡ true = ap (λ (o : Bool). is_made_by_plan o quiet_plan) steady.0 in
      let brings : values_by_plan old.is_on quiet_plan ≡ [] = ap (λ (o : Bool). values_by_plan o quiet_plan) steady.0 in
      let answers : next_answer t ≡ None = ap (λ (o : Bool). fault_by_plan o quiet_plan) steady.0 in
      record {
        stands = record {
          spare = new.spare;
          same = λ j. record {
            cell = sym (same (is_next_made t) (whole_bytes (Some bytes))) j;
            items = (g.items ∙ ap (λ (m : Bool). items_after act m (items_beside g.others old.items)) (s.made ∙ sym made)
                ∙ ap (λ (o : List (List ℕ)). items_after act (is_next_made t) (items_beside o old.items)) (s.others ∙ sym brings)) j;
            is_on = (s.on ∙ sym (ap (λ (o : Bool). is_on_by_plan o quiet_plan) steady.0)) j;
            steps = g.steps j;
            writes = g.writes j;
            cycles = cycles;
            spare = new.spare;
            faults = sym (ap (λ (f : Option StepFault). faults_after f faults) answers) j;
            plan = None;
          };
        };
        ahead = refl;
        leaves = refl;
      }

  pub read_steps : StepGoes ReadRegister old new fault
      → StepsRegister ReadRegister (torn_of bytes cycles faults ahead leaves old) (torn_of bytes cycles faults ahead leaves new)
  read_steps g = steps_by ReadRegister (λ _ _. refl) g

  pub reset_steps : StepGoes ResetRegister old new fault
      → StepsRegister ResetRegister (torn_of bytes cycles faults ahead leaves old) (torn_of bytes cycles faults ahead leaves new)
  reset_steps g = steps_by ResetRegister (λ _ _. refl) g

  pub extend_steps : (value : List ℕ) → StepGoes (ExtendRegister value) old new fault
      → StepsRegister (ExtendRegister value) (torn_of bytes cycles faults ahead leaves old) (torn_of bytes cycles faults ahead leaves new)
  extend_steps value g = steps_by (ExtendRegister value) (λ _ _. refl) g

-- A write that fails, of which a part is left.

size_test : (bytes : List ℕ) → length bytes ≡ 209 → (length bytes == 209) ≡ true
size_test bytes e = grind (arith, nat_tests)

pub whole_is : (bytes : List ℕ) → length bytes ≡ 209 → whole_bytes (Some bytes) ≡ Some bytes
whole_is bytes e = ap (λ (b : Bool). if b then Some bytes else None) (size_test bytes e)

pub told_is : (it : TornMemory) (r : IsUsable it) → whole_bytes it.standing.cell ≡ Some r.bytes
told_is it r = ap whole_bytes r.cell ∙ whole_is r.bytes r.size

faults_rose : (it : TornMemory) → will_fail it ≡ true → CountRose it.standing.faults (memory_after_call it).standing.faults
faults_rose it w =
    let f : ℕ = it.standing.faults in
    ap (λ (b : Bool). if b then next_count f else f) w

-- the told bytes once a part was put in place
told_put : (at : ℕ) (part : List ℕ) (it : TornMemory) (r : IsUsable it) → at + length part ≤ 209
    → whole_bytes (option_map (bytes_with_part at part) it.standing.cell) ≡ option_map (bytes_with_part at part)
    (whole_bytes it.standing.cell)
told_put at part it r h =
    ap (λ c. whole_bytes (option_map (bytes_with_part at part) c)) r.cell
    ∙ whole_is (bytes_with_part at part r.bytes) (length-spliced at part r.bytes (omega (arith, h, r.size)) ∙ r.size)
    ∙ ap (option_map (bytes_with_part at part)) (sym (told_is it r))

part_within : (n : ℕ) (leaves : List ℕ) → length (take n leaves) ≤ n
part_within n leaves = omega (arith, length-take n leaves)

pub write_fails : (at : ℕ) (bytes : List ℕ) (old mid new : TornMemory) → at + length bytes ≤ 209 → IsUsable old → will_fail old ≡ true
    → mid ≡ memory_after_call old → new ≡ memory_with_part at (take (length bytes) mid.leaves) mid
    → WritesRaw at bytes (told_standing old) (told_standing new) (Some Failed)
write_fails at bytes old mid new h r w e f =
    let n : ℕ = length bytes in
    let part : List ℕ = take n old.leaves in
    let range : List ℕ = range_of at n r.bytes in
    let within : at + n ≤ length r.bytes = omega (arith, h, r.size) in
    let size : length range ≡ n = length-take-le n (drop at r.bytes) (omega (arith, length-drop at r.bytes, within)) in
    let fits : length part ≤ n = part_within n old.leaves in
    let all : length (behind part range) ≡ n = length-behind part range (omega (arith, size, fits)) ∙ size in
    let after : new ≡ memory_with_part at part (memory_after_call old) =
    f ∙ ap (λ (t : TornMemory). memory_with_part at (take n t.leaves) t) e in
    subst (λ (t : TornMemory). WritesRaw at bytes (told_standing old) (told_standing t) (Some Failed)) (sym after) (record {
      written = behind part range;
      size = all;
      cell = told_put at part old r (omega (arith, h, fits))
          ∙ ap (option_map (bytes_with_part at part)) (told_is old r)
          ∙ ap Some (put_behind at n part r.bytes fits within)
          ∙ ap (option_map (bytes_with_part at (behind part range))) (sym (told_is old r));
      whole = λ none. absurd (cc);
      still = λ off. let g : false ≡ true = sym off ∙ r.on in absurd (cc);
      rest = record {
        others = [];
        items = sym (beside-none old.standing.items);
        steps = refl;
        writes = refl;
        cycles = refl;
        room = omega arith;
        plan = refl;
      };
      is_made = false;
      ends = record { was_on = r.on; is_on = r.on; faults = faults_rose old w };
    })

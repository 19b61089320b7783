-- What a caller of a read, an extension and a write knows afterwards. With it: a step of the
-- platform in memory is a device step as the traits say it.
use Rattle.std.proofs.Common.{◌≡◌, ℕ, Bool, true, false, List, [], ◌++◌, Option, None, Some, map, refl, sym, ◌∙◌, ap, arith, append_assoc}
use Rattle.std.proofs.Common.{◌+◌, ◌-◌, ◌≤◌, not, ◌∷◌}
use Rattle.std.proofs.lemmas.List.{append-nil, map-append}
use Rattle.mm_bytes.specs.Limits.{CountRose}
use Rattle.mm_platform.specs.declared.fault.StepFault.{StepFault}
use Rattle.mm_platform.specs.Standing.{Item, foreign_item, Standing, ReadCell, WriteCell, ExtendRegister, items_beside, cell_after}
use Rattle.mm_platform.specs.Standing.{items_after, DeviceStepEnds, StepGoes, EndsCalls, ActsUntold, own_item, Plan, Act, ResetRegister}
use Rattle.mm_platform.specs.Standing.{taken_room, fault_by_plan, is_made_by_plan, is_on_by_plan, values_by_plan, faults_after}
use Rattle.mm_platform.specs.Standing.{StepGoesByPlan, next_plan, next_answer, is_next_made, standing_in_step, spare_after}
use Rattle.mm_platform.specs.Standing.{standing_after_step}

pub beside-none : (items : Option (List Item)) → items_beside [] items ≡ items
beside-none items = grind (arith, append-nil)

pub beside-beside : (first second : List (List ℕ)) (items : Option (List Item))
    → items_beside second (items_beside first items) ≡ items_beside (first ++ second) items
beside-beside first second None = refl
beside-beside first second (Some xs) =
    ap Some (append_assoc xs (map foreign_item first) (map foreign_item second)
    ∙ ap (λ ys. xs ++ ys) (sym (map-append foreign_item first second)))

pub rose_by : (fault : StepFault) (old new : Standing) (made : Bool) → DeviceStepEnds (Some fault) old new made
    → CountRose old.faults new.faults
rose_by fault old new made e = grind (arith, e)

pub first_failed : (value bytes : List ℕ) (old one : Standing) (fault : StepFault) → StepGoes ReadCell old one (Some fault)
    → ActsUntold value bytes old one (Some fault)
first_failed value bytes old one fault a = record {
  acts = record {
    extended = false;
    written = false;
    before = a.others;
    after = [];
    cell = a.cell;
    items = a.items ∙ sym (beside-none (items_beside a.others old.items));
  };
  ends = rose_by fault old one a.is_made a.ends;
}

pub second_failed : (value bytes : List ℕ) (old one two : Standing) (fault : StepFault) → StepGoes ReadCell old one None
    → StepGoes (ExtendRegister value) one two (Some fault) → ActsUntold value bytes old two (Some fault)
second_failed value bytes old one two fault a b =
    let rose = rose_by fault one two b.is_made b.ends in
    record {
      acts = record {
        extended = b.is_made;
        written = false;
        before = a.others ++ b.others;
        after = [];
        cell = b.cell ∙ a.cell;
        items = b.items ∙ ap (λ i. items_after (ExtendRegister value) b.is_made (items_beside b.others i)) a.items
            ∙ ap (λ i. items_after (ExtendRegister value) b.is_made i) (beside-beside a.others b.others old.items)
            ∙ sym (beside-none _);
      };
      ends = omega arith;
    }

ends_calls : (fault : Option StepFault) (old one two three : Standing) (extended written : Bool)
    → extended ≡ true → one.faults ≡ old.faults → two.faults ≡ one.faults
    → DeviceStepEnds fault two three written → EndsCalls fault old three extended written
ends_calls fault old one two three extended written e a b c = grind (arith, e, a, b, c)

pub all_called : (value bytes : List ℕ) (old one two three : Standing) (fault : Option StepFault) → StepGoes ReadCell old one None
    → StepGoes (ExtendRegister value) one two None → StepGoes (WriteCell bytes) two three fault → ActsUntold value bytes old three fault
all_called value bytes old one two three fault a b c = record {
  acts = record {
    extended = b.is_made;
    written = c.is_made;
    before = a.others ++ b.others;
    after = c.others;
    cell = c.cell ∙ ap (cell_after (WriteCell bytes) c.is_made) (b.cell ∙ a.cell);
    items = c.items ∙ ap (items_beside c.others)
        (b.items ∙ ap (λ i. items_after (ExtendRegister value) b.is_made (items_beside b.others i)) a.items
        ∙ ap (λ i. items_after (ExtendRegister value) b.is_made i) (beside-beside a.others b.others old.items));
  };
  ends = ends_calls fault old one two three b.is_made c.is_made b.ends.made a.ends.faults b.ends.faults c.ends;
}

-- A step of the platform in memory is a device step as the traits say it.

-- a step ends as its plan says
ends_by : (was_on : Bool) (plan : Plan) (old new : Standing) → old.is_on ≡ was_on → new.is_on ≡ is_on_by_plan was_on plan
    → new.faults ≡ faults_after (fault_by_plan was_on plan) old.faults
    → DeviceStepEnds (fault_by_plan was_on plan) old new (is_made_by_plan was_on plan)
ends_by was_on plan old new was is_on faults = grind (arith, was, is_on, faults)

room_left : (act : Act) (is_made : Bool) (spare : ℕ) → spare ≤ spare_after act is_made spare + taken_room act is_made
room_left act is_made spare = grind arith

by_plan : (act : Act) (old : Standing) (plan : Plan) → next_plan old ≡ plan
    → StepGoesByPlan plan old (standing_after_step act old) (is_next_made old) (values_by_plan old.is_on (next_plan old)) (next_answer old)
by_plan act old plan e = record {
  answers = ap (fault_by_plan old.is_on) e;
  makes = ap (is_made_by_plan old.is_on) e;
  power = ap (is_on_by_plan old.is_on) e;
  brings = ap (values_by_plan old.is_on) e;
  counts = refl;
}

pub known_plan : (old : Standing) (plan : Plan) → old.plan ≡ Some plan → next_plan old ≡ plan
known_plan old plan known = rw known refl

steps_go : (act : Act) (old : Standing) → StepGoes act old (standing_after_step act old) (next_answer old)
steps_go act old = record {
  is_made = is_next_made old;
  others = values_by_plan old.is_on (next_plan old);
  cell = refl;
  items = refl;
  steps = refl;
  writes = refl;
  cycles = refl;
  room = room_left act (is_next_made old) old.spare;
  plan = refl;
  ends = ends_by old.is_on (next_plan old) old (standing_after_step act old) refl refl refl;
  told = λ plan known. by_plan act old plan (known_plan old plan known);
}

-- a step of the platform in memory goes as the traits say
pub goes : (act : Act) (old new : Standing) (fault : Option StepFault) → new ≡ standing_after_step act old → fault ≡ next_answer old
    → StepGoes act old new fault
goes act old new fault stands answers = rw (stands, answers) (steps_go act old)

-- what stands once the register was reset
pub resets : (old seen now : Standing) (items : List Item) → seen ≡ standing_in_step old → is_next_made old ≡ true → seen.items ≡ Some items
    → now ≡ record seen { items = Some [] } → now ≡ standing_after_step ResetRegister old
resets old seen now items stands made held is =
    let held' : (standing_in_step old).items ≡ Some items = ap (λ (x : Standing). x.items) (sym stands) ∙ held in
    is ∙ rw (stands, made, held') refl

-- what stands once the register was extended
pub extends : (value : List ℕ) (old seen now : Standing) (items : List Item) → seen ≡ standing_in_step old → is_next_made old ≡ true
    → seen.items ≡ Some items
    → now ≡ record seen { items = Some (items ++ own_item value ∷ []); spare = seen.spare - 1 }
    → now ≡ standing_after_step (ExtendRegister value) old
extends value old seen now items stands made held is =
    let held' : (standing_in_step old).items ≡ Some items = ap (λ (x : Standing). x.items) (sym stands) ∙ held in
    is ∙ rw (stands, made, held') refl

pub is_made_of : (made : Bool) → not made ≡ false → made ≡ true
is_made_of made e = grind (arith, e)

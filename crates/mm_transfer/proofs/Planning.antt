-- A planned move, however it ended, made the steps of what it found. With it: one step under a
-- plan, and what is left once the plan is over.
use Rattle.std.specs.Option.{option_map}
use Rattle.mm_bytes.specs.Limits.{next_count}
use Rattle.mm_seal.specs.declared.cell.CellFault.TheVariants.{Blank}
use Rattle.mm_platform.specs.Standing.{due_values}
use Rattle.mm_platform.specs.declared.fault.StepFault.TheVariants.{Failed}
use Rattle.mm_platform.specs.declared.plan.Stop.TheVariants.{Quiet, Cut, Drop, Fail}
use Rattle.mm_model.specs.declared.refusal.Refusal.TheVariants.{Memory, Device}
use Rattle.mm_call.specs.CallKind.{PlatformStaysOn}
use Rattle.mm_call.specs.TrailLaws.{state_after_moves-append}
use Rattle.mm_move.specs.Cells.{move_answer, MakesMoveStep, MoveGoesOn, EndsAfterRead, MovePromise}
use Rattle.mm_move.specs.declared.cell.MovedCell.TheVariants.{Waiting as Waits}
use Rattle.mm_move.specs.declared.cell.WaitingCell.{WaitingCell}
use Rattle.mm_move.specs.declared.refusal.MoveRefusal.TheVariants.{Core}
use Rattle.mm_transfer.proofs.Below.{append_assoc, ◌≡◌, ℕ, Bool, true, false, List, [], ◌∷◌, ◌++◌, map, Option, None, Some, Result, Ok, Err}
use Rattle.mm_transfer.proofs.Below.{refl, sym, ap, ◌∙◌, subst, append-nil, ◌==◌, is_some, if◌then◌else◌, StepFault, Meddle, Stop, Item}
use Rattle.mm_transfer.proofs.Below.{foreign_item, Plan, Standing, plan_after, item_values, register_after, Act, StepGoes, DeviceStepEnds}
use Rattle.mm_transfer.proofs.Below.{fault_at, is_made_at, is_on_at, cell_after, items_after, items_after_cycle, fault_by_plan}
use Rattle.mm_transfer.proofs.Below.{is_made_by_plan, is_on_by_plan, values_by_plan, Foreign, Instance, Digests, digests_after}
use Rattle.mm_transfer.proofs.Below.{register_reading, Reads, End, StepsWalk, walk_from_step, end_of, digest_level, state_after_moves}
use Rattle.mm_transfer.proofs.Below.{items_after_moves, plan_of, is_cut, SettlesPlan, IsQuiet, reads_none, power_if, stop_power, on_settled}
use Rattle.mm_transfer.proofs.Below.{reads_shown, ReadyMove, MoveRefusal, stopped_moves, bytes_if_written, bytes_after_move, inl, inr, ◌⊎◌}
use Rattle.mm_transfer.proofs.Below.{not, ReadCell, WriteCell, Move, Done, Fails, walk, fate_by_plan, CellFault, MovedCell, Invited}
use Rattle.mm_transfer.proofs.Below.{is_same_waiting, invitation_in, move_fault_of, move_fault_in, IsOrNoMemory, is_moved, is_written}
use Rattle.mm_transfer.proofs.Below.{later_steps, move_answer_of, MoveEnds, MakesMove, WantsMemory, MovesByPlan}

-- One step under a plan, and what is left once the plan is over.

-- what the register reads after values of others

shown_foreign : (i : Instance) (d : Digests) (values : List (List ℕ)) (items : List Item)
    → items_after_moves i d (map Foreign values) items ≡ items ++ map foreign_item values
shown_foreign i d [] items = sym (append-nil items)
shown_foreign i d (v ∷ values) items =
    shown_foreign i (digests_after i d (Foreign v)) values (items ++ foreign_item v ∷ [])
    ∙ append_assoc items (foreign_item v ∷ []) (map foreign_item values)

reads_on : (i : Instance) (d : Digests) (values : List (List ℕ)) (before after : Option (List Item))
    → option_map (λ xs. register_after (item_values xs)) before ≡ Some d.register
    → after ≡ option_map (λ xs. xs ++ map foreign_item values) before
    → option_map (λ xs. register_after (item_values xs)) after ≡ Some (state_after_moves (digest_level i) d (map Foreign values)).register
reads_on i d values None after e is = cc
reads_on i d values (Some xs) after e is =
    ap (λ x. option_map (λ ys. register_after (item_values ys)) x) (is ∙ ap Some (sym (shown_foreign i d values xs)))
    ∙ reads_shown i (map Foreign values) d (Some xs) e

-- the platform after a step under a plan

stays_off : (stop : Stop) (n : ℕ) (new : Standing) → new.is_on ≡ is_on_at stop n → PlatformStaysOn stop true new
stays_off Quiet n new e = e
stays_off (Cut at) n new e = tt
stays_off (Drop at) n new e = e
stays_off (Fail at done) n new e = e

stays_done : (stop : Stop) (new : Standing) → new.is_on ≡ true → PlatformStaysOn stop false new
stays_done (Cut at) new e = e
stays_done _ new e = e

ends_on : (stop : Stop) (n : ℕ) (fault : Option StepFault) (old new : Standing) (is_made : Bool) → DeviceStepEnds fault old new is_made
    → new.is_on ≡ is_on_at stop n → PlatformStaysOn stop (is_some fault) new
ends_on stop n None old new is_made ends on = stays_done stop new ends.is_on
ends_on stop n (Some fault) old new is_made ends on = stays_off stop n new on

-- One step under a plan: how it ended, what the register reads, and what is left.
pub record StepsBy (i : Instance) (d : Digests) (stop : Stop) (meddles : List Meddle) (n : ℕ) (act : Act) (old new : Standing)
    (fault : Option StepFault) : Type 0 where
  pub fault_is : fault ≡ fault_at stop n
  pub cell : new.cell ≡ cell_after act (is_made_at stop n) old.cell
  pub register : register_reading new ≡ Some (state_after_moves (digest_level i) d (map Foreign (due_values n meddles))).register
  pub stays : PlatformStaysOn stop (is_some fault) new
  pub plan : new.plan ≡ Some (record { stop = stop; meddles = meddles; at = n })

module _ (i : Instance) (d : Digests) (stop : Stop) (meddles : List Meddle) where
  abbrev At : ℕ → Plan
  At n = record { stop = stop; meddles = meddles; at = n }

  pub step_by : (at : ℕ) (act : Act) (old new : Standing) (fault : Option StepFault)
      → ((made : Bool) (items : Option (List Item)) → items_after act made items ≡ items) → old.is_on ≡ true → old.plan ≡ Some (At at)
      → register_reading old ≡ Some d.register → StepGoes act old new fault → StepsBy i d stop meddles (next_count at) act old new fault
  step_by at act old new fault reads on plan register goes =
      let told = goes.told (At at) plan in
      let made : goes.is_made ≡ is_made_at stop (next_count at) = told.makes ∙ ap (λ b. is_made_by_plan b (At at)) on in
      let brings : goes.others ≡ due_values (next_count at) meddles = told.brings ∙ ap (λ b. values_by_plan b (At at)) on in
      record {
        fault_is = told.answers ∙ ap (λ b. fault_by_plan b (At at)) on;
        cell = goes.cell ∙ ap (λ b. cell_after act b old.cell) made;
        register = reads_on i d (due_values (next_count at) meddles) old.items new.items register
            (goes.items ∙ reads goes.is_made _ ∙ ap (λ vs. option_map (λ xs. xs ++ map foreign_item vs) old.items) brings);
        stays = ends_on stop (next_count at) fault old new goes.is_made goes.ends (told.power ∙ ap (λ b. is_on_by_plan b (At at)) on);
        plan = goes.plan ∙ ap (option_map plan_after) plan;
      }

-- a plan that is over, and perhaps power lost and back
pub settled_by : (i : Instance) (s : Digests) (stop : Stop) (fault : Option StepFault) (mid new : Standing)
    → register_reading mid ≡ Some s.register
    → SettlesPlan stop (is_some fault) mid new → register_reading new
    ≡ Some (state_after_moves (digest_level i) s (stopped_moves stop fault)).register
settled_by i s stop None mid new e settles = ap (λ x. option_map (λ xs. register_after (item_values xs)) x) settles.items ∙ e
settled_by i s stop (Some fault) mid new e settles =
    subst (λ ms. register_reading new ≡ Some (state_after_moves (digest_level i) s ms).register) (sym (stop_power stop))
    (cut_by (is_cut stop) settles.items)
  where
    cut_by : (cut : Bool) → new.items ≡ items_after_cycle cut mid.items
        → register_reading new ≡ Some (state_after_moves (digest_level i) s (power_if cut)).register
    cut_by true items = ap (λ x. option_map (λ xs. register_after (item_values xs)) x) items ∙ reads_none mid.items s.register e
    cut_by false items = ap (λ x. option_map (λ xs. register_after (item_values xs)) x) items ∙ e

pub quiet_by : (stop : Stop) (fault : Option StepFault) (mid new : Standing) → PlatformStaysOn stop (is_some fault) mid
    → SettlesPlan stop (is_some fault) mid new → IsQuiet new
quiet_by stop fault mid new stays settles =
    record { is_on = on_settled stop (is_some fault) mid new stays settles.is_on; plan = settles.plan }

-- the walk of one step, and of two, by how they ended

abbrev pub nothing : StepsWalk
nothing = record { moves = []; steps = 0; writes = 0; broken = None }

abbrev pub one_step : List (List ℕ) → End → StepsWalk
one_step values e = walk_from_step Reads values e nothing

pub unwritten : {A : Type 0} (found : Result (ReadyMove A) MoveRefusal) (bytes : List ℕ) → bytes_after_move found false bytes ≡ bytes
unwritten (Err why) bytes = refl
unwritten (Ok ready) bytes = never_written ready.next bytes
  where
    never_written : (next : Option (List ℕ)) (bytes : List ℕ) → bytes_if_written next false bytes ≡ bytes
    never_written None bytes = refl
    never_written (Some next) bytes = refl

-- a step that is done by its plan has its effect
pub done_made : (stop : Stop) (n : ℕ) → None ≡ fault_at stop n → is_made_at stop n ≡ true
done_made (Fail at done) n e = unfailed (at == n) e
  where
    unfailed : (here : Bool) → None ≡ (if here then Some Failed else None) → (if here then done else true) ≡ true
    unfailed true e = cc
    unfailed false e = refl
done_made stop n e = refl

-- where the register stands behind the first step; how the second ends; and a platform with its plan
abbrev pub seen_first : Instance → Digests → List Meddle → Digests
seen_first i d meddles = state_after_moves (digest_level i) d (map Foreign (due_values 1 meddles))

abbrev pub second_end : Stop → End
second_end stop = end_of (fault_at stop 2) (is_made_at stop 2)

abbrev pub over : Standing → Stop → List Meddle → Standing
over old stop meddles = record old { plan = Some (plan_of stop meddles) }

-- A planned move, however it ended, made the steps of what it found.

module _ {A : Type 0} (i : Instance) (d : Digests) (stop : Stop) (meddles : List Meddle) (bytes : List ℕ) where
  -- broken off at the first step
  first_failed : (found : Result (ReadyMove A) MoveRefusal) (rest : StepsWalk) (fault : StepFault) (is_made : Bool) (other : End)
      (old mid new : Standing) → old.cell ≡ Some bytes → StepsBy i d stop meddles 1 ReadCell old mid (Some fault)
      → SettlesPlan stop true mid new
      → MoveEnds i d stop bytes found (walk_from_step Reads (due_values 1 meddles) (Fails fault is_made) rest)
      (is_moved (Fails fault is_made) other) new (Err (Core (Device fault)))
  first_failed found rest fault is_made other old mid new cell s settles = record {
    cell = settles.cell ∙ s.cell ∙ cell ∙ ap Some (sym (unwritten found bytes));
    register = settled_by i (seen_first i d meddles) stop (Some fault) mid new s.register settles;
    quiet = quiet_by stop (Some fault) mid new s.stays settles;
    says = refl;
  }

  -- done at the first step, behind which there is none
  first_done : (found : Result (ReadyMove A) MoveRefusal) (moved : Bool) (old mid new : Standing) → old.cell ≡ Some bytes
      → StepsBy i d stop meddles 1 ReadCell old mid None → SettlesPlan stop false mid new → bytes_after_move found moved bytes ≡ bytes
      → MoveEnds i d stop bytes found (one_step (due_values 1 meddles) Done) moved new (move_answer_of None found)
  first_done found moved old mid new cell s settles same = record {
    cell = settles.cell ∙ s.cell ∙ cell ∙ ap Some (sym same);
    register = settled_by i (seen_first i d meddles) stop None mid new s.register settles
        ∙ ap (λ (ms : List Move). Some (state_after_moves (digest_level i) d ms).register)
        (sym (append-nil (map Foreign (due_values 1 meddles))));
    quiet = quiet_by stop None mid new s.stays settles;
    says = refl;
  }

  -- and a (second_end stop), which writes the cell
  second_done : (next : List ℕ) (answer : A) (old middle mid new : Standing) (fault : Option StepFault) → old.cell ≡ Some bytes
      → StepsBy i d stop meddles 1 ReadCell old middle None
      → StepsBy i (seen_first i d meddles) stop meddles 2 (WriteCell next) middle mid fault → SettlesPlan stop (is_some fault) mid new
      → MoveEnds i d stop bytes (Ok (record { next = Some next; answer = answer }))
      (walk_from_step Reads (due_values 1 meddles) Done (one_step (due_values 2 meddles) (end_of fault (is_made_at stop 2))))
      (is_moved Done (end_of fault (is_made_at stop 2))) new (move_answer answer fault)
  second_done next answer old middle mid new None cell s t settles = record {
    cell = settles.cell ∙ t.cell ∙ ap (λ b. cell_after (WriteCell next) b middle.cell) (done_made stop 2 t.fault_is)
        ∙ ap (option_map (λ _. next)) (s.cell ∙ cell);
    register =
        settled_by i (state_after_moves (digest_level i) (seen_first i d meddles) (map Foreign (due_values 2 meddles))) stop None mid new
        t.register settles
        ∙ ap (λ (e : Digests). Some e.register)
        (ap (λ (ms : List Move). state_after_moves (digest_level i) (seen_first i d meddles) ms)
        (sym (append-nil (map Foreign (due_values 2 meddles))))
        ∙ sym (state_after_moves-append i d (map Foreign (due_values 1 meddles)) (map Foreign (due_values 2 meddles) ++ [])));
    quiet = quiet_by stop None mid new t.stays settles;
    says = refl;
  }
  second_done next answer old middle mid new (Some fault) cell s t settles = record {
    cell =
        settles.cell ∙ t.cell ∙ ap (cell_after (WriteCell next) (is_made_at stop 2)) (s.cell ∙ cell) ∙ written_at next (is_made_at stop 2);
    register =
        settled_by i (state_after_moves (digest_level i) (seen_first i d meddles) (map Foreign (due_values 2 meddles))) stop (Some fault)
        mid new t.register
        settles ∙ ap (λ (e : Digests). Some (state_after_moves (digest_level i) e (stopped_moves stop (Some fault))).register)
        (sym (state_after_moves-append i d (map Foreign (due_values 1 meddles)) (map Foreign (due_values 2 meddles))));
    quiet = quiet_by stop (Some fault) mid new t.stays settles;
    says = refl;
  }
    where
      written_at : (next : List ℕ) (is_made : Bool)
          → cell_after (WriteCell next) is_made (Some bytes) ≡ Some (bytes_if_written (Some next) is_made bytes)
      written_at next true = refl
      written_at next false = refl

-- all together

answered_fault : {A : Type 0} (answer : A) (fault : Option StepFault) → move_fault_in (move_answer answer fault) ≡ fault
answered_fault answer None = refl
answered_fault answer (Some fault) = refl

module _ {A : Type 0} (i : Instance) (d : Digests) (stop : Stop) (meddles : List Meddle) (bytes : List ℕ) (old new : Standing) where
  abbrev Goal : Result (ReadyMove A) MoveRefusal → Result A MoveRefusal → Type 0
  Goal expected result = MakesMove i d stop meddles bytes expected new result ⊎ WantsMemory i d stop meddles old new result

  failed : (expected : Result (ReadyMove A) MoveRefusal) (result : Result A MoveRefusal) (fault : StepFault) (mid : Standing)
      → old.cell ≡ Some bytes → StepsBy i d stop meddles 1 ReadCell (over old stop meddles) mid (Some fault) → SettlesPlan stop true mid new
      → result ≡ Err (Core (Device fault)) → MakesMove i d stop meddles bytes expected new result
  failed expected result fault mid cell s settles e =
      let rest : StepsWalk = walk (fate_by_plan (plan_of stop meddles)) 2 (later_steps expected) in
      let m : Bool = is_made_at stop 1 in
      let here : MakesMove i d stop meddles bytes expected new (Err (Core (Device fault))) =
      subst (λ f. MoveEnds i d stop bytes expected (walk_from_step Reads (due_values 1 meddles) (end_of f m) rest)
      (is_moved (end_of f m) (second_end stop)) new (Err (Core (Device fault))))
      s.fault_is (first_failed i d stop meddles bytes expected rest fault m (second_end stop) (over old stop meddles) mid new cell s
      settles) in
      subst (λ (r : Result A MoveRefusal). MakesMove i d stop meddles bytes expected new r) (sym e) here

  one_made : (expected : Result (ReadyMove A) MoveRefusal) (mid : Standing) → old.cell ≡ Some bytes
      → StepsBy i d stop meddles 1 ReadCell (over old stop meddles) mid None
      → SettlesPlan stop false mid new → ((moved : Bool) → bytes_after_move expected moved bytes ≡ bytes)
      → MoveEnds i d stop bytes expected (one_step (due_values 1 meddles) (end_of (fault_at stop 1) (is_made_at stop 1)))
      (is_moved (end_of (fault_at stop 1) (is_made_at stop 1)) (second_end stop)) new (move_answer_of None expected)
  one_made expected mid cell s settles same =
      let m : Bool = is_made_at stop 1 in
      subst (λ f. MoveEnds i d stop bytes expected (one_step (due_values 1 meddles) (end_of f m))
      (is_moved (end_of f m) (second_end stop)) new
      (move_answer_of None expected))
      s.fault_is (first_done i d stop meddles bytes expected (is_written (second_end stop)) (over old stop meddles) mid new cell s settles
      (same (is_written (second_end stop))))

  two_made : (next : List ℕ) (answer : A) (fault : Option StepFault) (middle mid : Standing) → old.cell ≡ Some bytes
      → StepsBy i d stop meddles 1 ReadCell (over old stop meddles) middle None
      → StepsBy i (state_after_moves (digest_level i) d (map Foreign (due_values 1 meddles))) stop meddles 2
      (WriteCell next) middle mid fault
      → SettlesPlan stop (is_some fault) mid new
      → MakesMove i d stop meddles bytes (Ok (record { next = Some next; answer = answer })) new (move_answer answer fault)
  two_made next answer fault middle mid cell s t settles =
      let found : Result (ReadyMove A) MoveRefusal = Ok (record { next = Some next; answer = answer }) in
      let m : Bool = is_made_at stop 1 in
      let n : Bool = is_made_at stop 2 in
      subst (λ f. MoveEnds i d stop bytes found (walk_from_step Reads (due_values 1 meddles) (end_of f m)
      (one_step (due_values 2 meddles) (second_end stop)))
      (is_moved (end_of f m) (second_end stop)) new (move_answer answer fault)) s.fault_is
      (subst (λ f. MoveEnds i d stop bytes found
      (walk_from_step Reads (due_values 1 meddles) Done (one_step (due_values 2 meddles) (end_of f n)))
      (is_moved Done (end_of f n)) new (move_answer answer fault)) t.fault_is
      (second_done i d stop meddles bytes next answer (over old stop meddles) middle mid new fault cell s t settles))

  made_by : (next : Option (List ℕ)) (answer : A) (result : Result A MoveRefusal) (middle mid : Standing) (broken : Bool)
      → old.cell ≡ Some bytes
      → StepsBy i d stop meddles 1 ReadCell (over old stop meddles) middle None → middle.is_on ≡ true
      → MakesMoveStep next answer middle mid result
      → broken ≡ is_some (move_fault_in result) → SettlesPlan stop broken mid new
      → MakesMove i d stop meddles bytes (Ok (record { next = next; answer = answer })) new result
  made_by None answer result middle mid broken cell s on makes is settles =
      let whole : broken ≡ false = is ∙ ap (λ (r : Result A MoveRefusal). is_some (move_fault_in r)) makes.1 in
      let here = subst (λ (m : Standing). SettlesPlan stop false m new) makes.0 (subst (λ b. SettlesPlan stop b mid new) whole settles) in
      subst (λ (r : Result A MoveRefusal). MakesMove i d stop meddles bytes (Ok (record { next = None; answer = answer })) new r)
      (sym makes.1) (one_made (Ok (record { next = None; answer = answer })) middle cell s here (λ moved. refl))
  made_by (Some next) answer result middle mid broken cell s on makes is settles =
      let t = step_by i (state_after_moves (digest_level i) d (map Foreign (due_values 1 meddles))) stop meddles 1 (WriteCell next)
      middle mid makes.fault
      (λ made items. refl) on s.plan s.register makes.goes in
      let breaks : broken ≡ is_some makes.fault =
      is ∙ ap (λ (r : Result A MoveRefusal). is_some (move_fault_in r)) makes.gives ∙ ap is_some (answered_fault answer makes.fault) in
      subst (λ (r : Result A MoveRefusal). MakesMove i d stop meddles bytes (Ok (record { next = Some next; answer = answer })) new r)
      (sym makes.gives) (two_made next answer makes.fault middle mid cell s t (subst (λ b. SettlesPlan stop b mid new) breaks settles))

  -- memory was wanting, once the cell was read
  wants : (result : Result A MoveRefusal) (mid : Standing) → StepsBy i d stop meddles 1 ReadCell (over old stop meddles) mid None
      → SettlesPlan stop false mid new → result ≡ Err (Core Memory) → WantsMemory i d stop meddles old new result
  wants result mid s settles e = record {
    says = e;
    cell = settles.cell ∙ s.cell;
    register =
        inr (settled_by i (state_after_moves (digest_level i) d (map Foreign (due_values 1 meddles))) stop None mid new s.register settles
        ∙ ap (λ (ms : List Move). Some (state_after_moves (digest_level i) d ms).register)
        (sym (append-nil (map Foreign (due_values 1 meddles)))));
    quiet = quiet_by stop None mid new s.stays settles;
  }

  refused : (expected : Result (ReadyMove A) MoveRefusal) (why : MoveRefusal) (result : Result A MoveRefusal) (middle mid : Standing)
      (broken : Bool) → move_fault_of why ≡ None → (mid ≡ middle) × (result ≡ Err why) → broken ≡ is_some (move_fault_in result)
      → SettlesPlan stop broken mid new → SettlesPlan stop false middle new
  refused expected why result middle mid broken none goes is settles =
      let whole : broken ≡ false = is ∙ ap (λ (r : Result A MoveRefusal). is_some (move_fault_in r)) goes.1 ∙ ap is_some none in
      subst (λ (m : Standing). SettlesPlan stop false m new) goes.0 (subst (λ b. SettlesPlan stop b mid new) whole settles)

  found_by : (expected found : Result (ReadyMove A) MoveRefusal) (result : Result A MoveRefusal) (middle mid : Standing) (broken : Bool)
      → old.cell ≡ Some bytes → StepsBy i d stop meddles 1 ReadCell (over old stop meddles) middle None → middle.is_on ≡ true
      → move_fault_in expected ≡ None → IsOrNoMemory expected found → MoveGoesOn found middle mid result
      → broken ≡ is_some (move_fault_in result)
      → SettlesPlan stop broken mid new → Goal expected result
  found_by (Err why) found result middle mid broken cell s on none is goes breaks settles =
      let ends = subst (λ (f : Result (ReadyMove A) MoveRefusal). MoveGoesOn f middle mid result) is goes in
      inl (subst (λ (r : Result A MoveRefusal). MakesMove i d stop meddles bytes (Err why) new r) (sym ends.1)
      (one_made (Err why) middle cell s (refused (Err why) why result middle mid broken none ends breaks settles) (λ moved. refl)))
  found_by (Ok ready) found result middle mid broken cell s on none (inl is) goes breaks settles =
      let ends = subst (λ (f : Result (ReadyMove A) MoveRefusal). MoveGoesOn f middle mid result) is goes in
      inl (made_by ready.next ready.answer result middle mid broken cell s on ends breaks settles)
  found_by (Ok ready) found result middle mid broken cell s on none (inr is) goes breaks settles =
      let ends = subst (λ (f : Result (ReadyMove A) MoveRefusal). MoveGoesOn f middle mid result) is goes in
      inr (wants result middle s (refused (Ok ready) (Core Memory) result middle mid broken refl ends breaks settles) ends.1)

  after_read : (finds : List ℕ → Result (ReadyMove A) MoveRefusal) (result : Result A MoveRefusal) (fault : Option StepFault)
      (middle mid : Standing) (broken : Bool) → ((xs : List ℕ) → move_fault_in (finds xs) ≡ None) → old.cell ≡ Some bytes
      → register_reading old ≡ Some d.register → old.is_on ≡ true → StepGoes ReadCell (over old stop meddles) middle fault
      → EndsAfterRead finds fault (over old stop meddles) middle mid result → broken ≡ is_some (move_fault_in result)
      → SettlesPlan stop broken mid new → Goal (finds bytes) result
  after_read finds result (Some fault) middle mid broken none cell register on goes after breaks settles =
      let s = step_by i d stop meddles 0 ReadCell (over old stop meddles) middle (Some fault) (λ made items. refl) on refl register goes in
      let whole : broken ≡ true = breaks ∙ ap (λ (r : Result A MoveRefusal). is_some (move_fault_in r)) after.1 in
      inl (failed (finds bytes) result fault middle cell s
      (subst (λ (m : Standing). SettlesPlan stop true m new) after.0 (subst (λ b. SettlesPlan stop b mid new) whole settles)) after.1)
  after_read finds result None middle mid broken none cell register on goes after breaks settles =
      let s = step_by i d stop meddles 0 ReadCell (over old stop meddles) middle None (λ made items. refl) on refl register goes in
      let same : after.bytes ≡ bytes = after.told bytes cell in
      found_by (finds bytes) after.found result middle mid broken cell s goes.ends.is_on (none bytes)
      (subst (λ xs. IsOrNoMemory (finds xs) after.found) same after.found_is) after.goes_on breaks settles

-- a move over a planned platform, whose plan is over
pub moves_planned : {A : Type 0} (finds : List ℕ → Result (ReadyMove A) MoveRefusal) (stop : Stop) (meddles : List Meddle)
    (old at mid new : Standing) (broken : Bool) (result : Result A MoveRefusal) → ((xs : List ℕ) → move_fault_in (finds xs) ≡ None)
    → at ≡ record old { plan = Some (plan_of stop meddles) } → MovePromise finds at mid result → broken ≡ is_some (move_fault_in result)
    → SettlesPlan stop broken mid new → MovesByPlan finds stop meddles old new result
moves_planned finds stop meddles old at mid new broken result none planned_at moved breaks settles = λ i d bytes cell register quiet.
    let goes = subst (λ (s : Standing). StepGoes ReadCell s moved.moves.middle moved.moves.fault) planned_at moved.moves.reads in
    let after = subst (λ (s : Standing). EndsAfterRead finds moved.moves.fault s moved.moves.middle mid result) planned_at
    moved.moves.after in
    after_read i d stop meddles bytes old new finds result moved.moves.fault moved.moves.middle mid broken none cell register quiet.is_on
    goes after breaks settles

-- an invitation hands on no fault by itself
no_fault_if : (test : Bool) (refused rest : Result (ReadyMove Invited) MoveRefusal) → move_fault_in refused ≡ None → move_fault_in rest
    ≡ None
    → move_fault_in (if test then refused else rest) ≡ None
no_fault_if true refused rest p q = p
no_fault_if false refused rest p q = q

pub invites_no_fault : (next : WaitingCell) (read : Result MovedCell CellFault) → move_fault_in (invitation_in next read) ≡ None
invites_no_fault next (Err Blank) = refl
invites_no_fault next (Ok (Waits cell)) = no_fault_if (not (is_same_waiting cell next)) _ _ refl refl
invites_no_fault next _ = refl

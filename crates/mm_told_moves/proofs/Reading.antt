-- What a move found over a platform in memory is what it finds in the cell's bytes.
use Rattle.std.proofs.Common.{◌≡◌, ◌∙◌, ℕ, true, false, List, refl, sym, ap, subst}
use Rattle.std.specs.Prelude.{Option, None, Some, Result, Ok, Err, ◌==◌, Bool, if◌then◌else◌}
use Rattle.mm_bytes.specs.Limits.{next_count}
use Rattle.mm_platform.specs.declared.fault.StepFault.{StepFault}
use Rattle.mm_platform.specs.Memory.{new_platform}
use Rattle.mm_platform.specs.Standing.{quiet_plan, Standing, plan_after, ReadCell, StepGoes, WriteCell, cell_after, fault_by_plan}
use Rattle.mm_move.specs.Cells.{AreMoveSteps, EndsAfterRead, MakesMoveStep, MoveGoesOn, move_answer, IsOrNoMemory}
use Rattle.mm_move.specs.declared.ready.ReadyMove.{ReadyMove}
use Rattle.mm_move.specs.declared.refusal.MoveRefusal.{MoveRefusal}
use Rattle.mm_told_moves.specs.ToldMovePromise.{IsFoundMove, found_on, written_cell}

-- no step fails by a quiet plan
no_fault : (is_on : Bool) (at : ℕ) (fault : Option StepFault) → is_on ≡ true
    → fault ≡ fault_by_plan is_on (record quiet_plan { at = at }) → fault ≡ None
no_fault true at fault on e = e
no_fault false at fault on e = absurd (cc)

module _ {A : Type 0} (finds : List ℕ → Result (ReadyMove A) MoveRefusal) (bytes : List ℕ) (middle after : Standing) where
  -- the cell was written
  wrote : (answer : A) (next : List ℕ) (ready : ReadyMove A) (came : Result A MoveRefusal) (fault : Option StepFault)
      → ready ≡ record { next = Some next; answer = answer } → IsOrNoMemory (finds bytes) (Ok ready)
      → StepGoes ReadCell (new_platform bytes) middle None → StepGoes (WriteCell next) middle after fault → fault ≡ None
      → came ≡ move_answer answer fault → IsFoundMove (finds bytes) (found_on after came)
  wrote answer next ready came (Some fault) is f g w e gives = absurd (cc)
  wrote answer next ready came None is f g w e gives =
      let writes : after.writes ≡ 1 = w.writes ∙ ap next_count g.writes in
      let cell : after.cell ≡ Some next =
      w.cell ∙ ap (λ (made : Bool). cell_after (WriteCell next) made middle.cell) w.ends.made
      ∙ ap (cell_after (WriteCell next) true) g.cell in
      let there : written_cell after ≡ Some next =
      ap (λ (n : ℕ). if n == 0 then None else after.cell) writes ∙ cell in
      rw gives (subst (λ (r : Option (List ℕ)). IsOrNoMemory (finds bytes) (Ok (record { next = r; answer = answer }))) (sym there)
      (subst (λ (r : ReadyMove A). IsOrNoMemory (finds bytes) (Ok r)) is f))

  -- it wasn't
  kept : (answer : A) (ready : ReadyMove A) (came : Result A MoveRefusal) → ready ≡ record { next = None; answer = answer }
      → IsOrNoMemory (finds bytes) (Ok ready) → StepGoes ReadCell (new_platform bytes) middle None → after ≡ middle
      → came ≡ Ok answer → IsFoundMove (finds bytes) (found_on after came)
  kept answer ready came is f g same gives =
      let writes : after.writes ≡ 0 = ap (λ (it : Standing). it.writes) same ∙ g.writes in
      let there : written_cell after ≡ None = ap (λ (n : ℕ). if n == 0 then None else after.cell) writes in
      rw gives (subst (λ (r : Option (List ℕ)). IsOrNoMemory (finds bytes) (Ok (record { next = r; answer = answer }))) (sym there)
      (subst (λ (r : ReadyMove A). IsOrNoMemory (finds bytes) (Ok r)) is f))

  by_next : (next : Option (List ℕ)) (ready : ReadyMove A) (came : Result A MoveRefusal) → ready.next ≡ next
      → IsOrNoMemory (finds bytes) (Ok ready) → StepGoes ReadCell (new_platform bytes) middle None
      → MakesMoveStep next ready.answer middle after came → IsFoundMove (finds bytes) (found_on after came)
  by_next None ready came e f g m =
      kept ready.answer ready came (λ i. record { next = e i; answer = ready.answer }) f g m.0 m.1
  by_next (Some next) ready came e f g m =
      wrote ready.answer next ready came m.fault (λ i. record { next = e i; answer = ready.answer }) f g m.goes
      (no_fault middle.is_on (next_count 0) m.fault g.ends.is_on (m.goes.told (plan_after quiet_plan) g.plan).answers) m.gives

  by_found : (found : Result (ReadyMove A) MoveRefusal) (came : Result A MoveRefusal) → IsOrNoMemory (finds bytes) found
      → StepGoes ReadCell (new_platform bytes) middle None → MoveGoesOn found middle after came
      → IsFoundMove (finds bytes) (found_on after came)
  by_found (Err why) came f g m = rw m.1 f
  by_found (Ok ready) came f g m = by_next ready.next ready came refl f g m

  behind_read : (fault : Option StepFault) (came : Result A MoveRefusal) → StepGoes ReadCell (new_platform bytes) middle fault
      → fault ≡ None → EndsAfterRead finds fault (new_platform bytes) middle after came
      → IsFoundMove (finds bytes) (found_on after came)
  behind_read (Some fault) came g e a = absurd (cc)
  behind_read None came g e a =
      by_found a.found came
      (subst (λ (read : List ℕ). IsOrNoMemory (finds read) a.found) (a.told bytes refl) a.found_is) g a.goes_on

pub found_in : {A : Type 0} (finds : List ℕ → Result (ReadyMove A) MoveRefusal) (bytes : List ℕ) (after : Standing)
    (came : Result A MoveRefusal) → AreMoveSteps finds (new_platform bytes) after came
    → IsFoundMove (finds bytes) (found_on after came)
found_in finds bytes after came m =
    behind_read finds bytes m.middle after m.fault came m.reads (no_fault true 0 m.fault refl (m.reads.told quiet_plan refl).answers)
    m.after

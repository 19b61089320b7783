-- A move leaves the register's items in front, with values of others behind them.
use Rattle.std.proofs.Common.{◌≡◌, ◌∙◌, ℕ, List, [], ◌++◌, Option, None, Some, Result, Ok, Err, map, refl, sym, ap, append_assoc}
use Rattle.std.proofs.lemmas.List.{append-nil, map-append}
use Rattle.mm_platform.specs.Standing.{Item, Standing, foreign_item, items_beside}
use Rattle.mm_platform.specs.declared.fault.StepFault.{StepFault}
use Rattle.mm_move.specs.Cells.{AreMoveSteps, EndsAfterRead, MakesMoveStep, MoveGoesOn}
use Rattle.mm_move.specs.declared.ready.ReadyMove.{ReadyMove}
use Rattle.mm_move.specs.declared.refusal.MoveRefusal.{MoveRefusal}

-- others extended the register, and nobody else
pub record IsBeside (old new : Standing) : Type 0 where
  pub values : List (List ℕ)
  pub items : new.items ≡ items_beside values old.items

none_beside : (items : Option (List Item)) → items ≡ items_beside [] items
none_beside None = refl
none_beside (Some xs) = ap (λ (ys : List Item). Some ys) (sym (append-nil xs))

then_beside : (one more : List (List ℕ)) (items : Option (List Item))
    → items_beside more (items_beside one items) ≡ items_beside (one ++ more) items
then_beside one more None = refl
then_beside one more (Some xs) =
    ap (λ (ys : List Item). Some ys) (append_assoc xs (map foreign_item one) (map foreign_item more)
    ∙ ap (λ (ys : List Item). xs ++ ys) (sym (map-append foreign_item one more)))

same_beside : (old new : Standing) → new ≡ old → IsBeside old new
same_beside old new e =
    record { values = []; items = ap (λ (s : Standing). s.items) e ∙ none_beside old.items }

both_beside : (old middle new : Standing) → IsBeside old middle → IsBeside middle new → IsBeside old new
both_beside old middle new one more = record {
  values = one.values ++ more.values;
  items = more.items ∙ ap (λ (xs : Option (List Item)). items_beside more.values xs) one.items
      ∙ then_beside one.values more.values old.items;
}

module _ {A : Type 0} (finds : List ℕ → Result (ReadyMove A) MoveRefusal) (old new : Standing) (result : Result A MoveRefusal) where
  step_beside : (middle : Standing) (next : Option (List ℕ)) (answer : A) → MakesMoveStep next answer middle new result
      → IsBeside middle new
  step_beside middle None answer g = same_beside middle new g.0
  step_beside middle (Some bytes) answer g = record { values = g.goes.others; items = g.goes.items }

  goes_beside : (middle : Standing) (found : Result (ReadyMove A) MoveRefusal) → MoveGoesOn found middle new result
      → IsBeside middle new
  goes_beside middle (Err why) g = same_beside middle new g.0
  goes_beside middle (Ok ready) g = step_beside middle ready.next ready.answer g

  ends_beside : (middle : Standing) (fault : Option StepFault) → EndsAfterRead finds fault old middle new result → IsBeside middle new
  ends_beside middle None a = goes_beside middle a.found a.goes_on
  ends_beside middle (Some fault) a = same_beside middle new a.0

  pub move_beside : AreMoveSteps finds old new result → IsBeside old new
  move_beside m =
      both_beside old m.middle new (record { values = m.reads.others; items = m.reads.items }) (ends_beside m.middle m.fault m.after)

-- A move that was told by the steps that were made is the move over the host's platform. With it:
-- an invitation hands on no device's fault but its own steps'.
use Rattle.std.specs.Prelude.{Option, None, Some, Result, Ok, Err, not, if◌then◌else◌}
use Rattle.std.proofs.Common.{◌≡◌, ◌∙◌, ℕ, suc, ◌+◌, ◌<◌, true, false, List, [], ◌∷◌, ◌++◌, length, length-append, zero-add, refl, sym, ap}
use Rattle.std.proofs.Common.{subst, inl, inr, arith, Bool}
use Rattle.mm_bytes.specs.Limits.{cell_length}
use Rattle.mm_seal.specs.declared.cell.CellFault.{CellFault}
use Rattle.mm_seal.specs.declared.cell.CellFault.TheVariants.{Blank, Cell as Unspelled}
use Rattle.mm_platform.specs.Standing.{Standing, Act, ReadCell, StepGoes, WriteCell}
use Rattle.mm_platform.specs.declared.fault.StepFault.{StepFault}
use Rattle.mm_platform.specs.declared.fault.StepFault.TheVariants.{Off}
use Rattle.mm_model.specs.declared.refusal.Refusal.TheVariants.{Device, Memory}
use Rattle.mm_move.specs.Cells.{MakesMoveStep, MoveGoesOn, MovePromise, IsOrNoMemory, move_fault_in}
use Rattle.mm_move.specs.Orders.{invitation_in, is_same_waiting}
use Rattle.mm_move.specs.declared.cell.MovedCell.{MovedCell}
use Rattle.mm_move.specs.declared.cell.MovedCell.TheVariants.{Live, Waiting as Waits, Retired as Left}
use Rattle.mm_move.specs.declared.cell.WaitingCell.{WaitingCell}
use Rattle.mm_move.specs.declared.inviting.Invited.{Invited}
use Rattle.mm_move.specs.declared.ready.ReadyMove.{ReadyMove}
use Rattle.mm_move.specs.declared.refusal.MoveRefusal.{MoveRefusal}
use Rattle.mm_move.specs.declared.refusal.MoveRefusal.TheVariants.{Core}
use Rattle.mm_move.proofs.Above.{keeps_failed, keeps_on, no_fault_or}
use Rattle.mm_told.specs.CallPath.{AreAsTold, StepsDiffer, TellsOutcome, AreMade, Host, IsHostOf, bare_standing, act_of, fault_of_answer}
use Rattle.mm_told.specs.CallPath.{made_act}
use Rattle.mm_told.specs.declared.outcome.StepsOutcome.{StepsOutcome}
use Rattle.mm_told.specs.declared.outcome.StepsOutcome.TheVariants as outcome
use Rattle.mm_told.specs.declared.step.MadeStep.{MadeStep}
use Rattle.mm_told.specs.declared.step.MadeStep.TheVariants as made
use Rattle.mm_told.proofs.Above.{front_made, goes_bare}
use Rattle.mm_told_moves.specs.ToldMovePromise.{wants_memory, FindingEndsWith, FindingMakesNext, MoveEndsWith, MoveMakesNext, ReadyEndsWith}
use Rattle.mm_told_moves.specs.ToldMovePromise.{move_protocol, IsMoveOnHost, MoveLacksOnHost, ToldMovePromise}

abbrev IsCellOf : Standing → List ℕ → Type 0
IsCellOf old bytes = (cell : List ℕ) → old.cell ≡ Some cell → bytes ≡ cell

abbrev IsFaultless : {A : Type 0} → (List ℕ → Result (ReadyMove A) MoveRefusal) → Type 0
IsFaultless finds = (bytes : List ℕ) → move_fault_in (finds bytes) ≡ None

module _ {A : Type 0} (finds : List ℕ → Result (ReadyMove A) MoveRefusal) (faultless : IsFaultless finds) where
  -- a move by its steps
  behind : (old middle new : Standing) (bytes : List ℕ) (found : Result (ReadyMove A) MoveRefusal) (result : Result A MoveRefusal)
      → length bytes ≡ cell_length → ((cell : List ℕ) → old.cell ≡ Some cell → bytes ≡ cell)
      → StepGoes ReadCell old middle None → IsOrNoMemory (finds bytes) found → MoveGoesOn found middle new result
      → MovePromise finds old new result
  behind old middle new bytes found result size told g f w =
      let k = keeps_on old middle new found result g (no_fault_or (finds bytes) found (faultless bytes) f) w in record {
        moves = record {
          middle = middle;
          fault = None;
          reads = g;
          after = record { bytes = bytes; size = size; told = told; found = found; found_is = f; goes_on = w };
        };
        untouched = k.untouched;
        faults = k.faults;
        steps = k.steps;
      }

  failed : (old new : Standing) (fault : StepFault) (result : Result A MoveRefusal) → StepGoes ReadCell old new (Some fault)
      → result ≡ Err (Core (Device fault)) → MovePromise finds old new result
  failed old new fault result g e =
      let k = keeps_failed old new fault result g e in record {
        moves = record { middle = new; fault = Some fault; reads = g; after = (refl, e) };
        untouched = k.untouched;
        faults = k.faults;
        steps = k.steps;
      }

  -- by the steps that were made behind the first
  module _ (stood : ℕ → Standing) (old : Standing) (bytes : List ℕ) (size : length bytes ≡ cell_length) (told : IsCellOf old bytes) where
    ends_ready : (next : Option (List ℕ)) (ready : ReadyMove A) (more : List MadeStep) (given : Result A MoveRefusal)
        → ready.next ≡ next → StepGoes ReadCell old (bare_standing (stood (length more))) None → IsOrNoMemory (finds bytes) (Ok ready)
        → AreMade stood more → ReadyEndsWith next ready.answer more given → MovePromise finds old (bare_standing (stood 0)) given
    ends_ready None ready [] given e g f m ends =
        let middle : Standing = bare_standing (stood 0) in
        behind old middle middle bytes (Ok ready) given size told g f
        (subst (λ (next : Option (List ℕ)). MakesMoveStep next ready.answer middle middle given) (sym e) (refl, ends))
    ends_ready None ready (it ∷ more) given e g f m ends = absurd ends
    ends_ready (Some next) ready [] given e g f m ends = absurd ends
    ends_ready (Some next) ready (it ∷ []) given e g f m ends =
        let middle : Standing = bare_standing (stood 1) in let new : Standing = bare_standing (stood 0) in
        behind old middle new bytes (Ok ready) given size told g f
        (subst (λ (next : Option (List ℕ)). MakesMoveStep next ready.answer middle new given) (sym e) (record {
          fault = fault_of_answer it;
          goes = subst (λ (act : Act). StepGoes act middle new (fault_of_answer it)) ends.0
              (goes_bare (made_act it) (stood 1) (stood 0) (fault_of_answer it) m.0.goes);
          gives = ends.1;
        }))
    ends_ready (Some next) ready (it ∷ one ∷ more) given e g f m ends = absurd ends

    ends_found : (found : Result (ReadyMove A) MoveRefusal) (more : List MadeStep) (given : Result A MoveRefusal)
        → StepGoes ReadCell old (bare_standing (stood (length more))) None → IsOrNoMemory (finds bytes) found
        → AreMade stood more → FindingEndsWith found more given → MovePromise finds old (bare_standing (stood 0)) given
    ends_found (Ok ready) more given g f m ends = ends_ready ready.next ready more given refl g f m ends
    ends_found (Err why) [] given g f m ends =
        behind old (bare_standing (stood 0)) (bare_standing (stood 0)) bytes (Err why) given size told g f (refl, ends)
    ends_found (Err why) (it ∷ more) given g f m ends = absurd ends

    missed_found : (missed : Standing) (found : Result (ReadyMove A) MoveRefusal) (more : List MadeStep) (act : Act)
        → StepGoes ReadCell old (bare_standing (stood (length more))) None → IsOrNoMemory (finds bytes) found
        → FindingMakesNext found more act → StepGoes act (bare_standing (stood 0)) (bare_standing missed) (Some Off)
        → MovePromise finds old (bare_standing missed) (Err (Core (Device Off)))
    missed_found missed (Ok ready) [] act g f makes goes =
        let middle : Standing = bare_standing (stood 0) in let new : Standing = bare_standing missed in
        behind old middle new bytes (Ok ready) (Err (Core (Device Off))) size told g f
        (subst (λ (next : Option (List ℕ)). MakesMoveStep next ready.answer middle new (Err (Core (Device Off)))) (sym makes.next_is)
        (record {
          fault = Some Off;
          goes = subst (λ (act : Act). StepGoes act middle new (Some Off)) makes.act_is goes;
          gives = refl;
        }))
    missed_found missed (Ok ready) (it ∷ more) act g f makes goes = absurd makes
    missed_found missed (Err why) more act g f makes goes = absurd makes

  -- the whole move
  ends_with : (stood : ℕ → Standing) (steps : List MadeStep) (given : Result A MoveRefusal) → AreMade stood steps
      → MoveEndsWith finds steps given → MovePromise finds (bare_standing (stood (length steps))) (bare_standing (stood 0)) given
  ends_with stood (made.ReadCell (Ok bytes) ∷ more) given m e =
      ends_found stood (bare_standing (stood (suc (length more)))) bytes e.size m.0.reads e.found more given
      (goes_bare ReadCell (stood (suc (length more))) (stood (length more)) None m.0.goes) e.found_is m.1 e.ends
  ends_with stood (made.ReadCell (Err fault) ∷ []) given m e =
      failed (bare_standing (stood 1)) (bare_standing (stood 0)) fault given
      (goes_bare ReadCell (stood 1) (stood 0) (Some fault) m.0.goes) e
  ends_with stood _ given m e = absurd e

  -- where the next step isn't answered
  missed_with : (stood : ℕ → Standing) (missed : Standing) (steps : List MadeStep) (act : Act) → AreMade stood steps
      → MoveMakesNext finds steps act → StepGoes act (stood 0) missed (Some Off)
      → MovePromise finds (bare_standing (stood (length steps))) (bare_standing missed) (Err (Core (Device Off)))
  missed_with stood missed [] act m e goes =
      failed (bare_standing (stood 0)) (bare_standing missed) Off (Err (Core (Device Off)))
      (subst (λ (act : Act). StepGoes act (bare_standing (stood 0)) (bare_standing missed) (Some Off)) e
      (goes_bare act (stood 0) missed (Some Off) goes)) refl
  missed_with stood missed (made.ReadCell (Ok bytes) ∷ more) act m e goes =
      missed_found stood (bare_standing (stood (suc (length more)))) bytes e.size m.0.reads missed e.found more act
      (goes_bare ReadCell (stood (suc (length more))) (stood (length more)) None m.0.goes) e.found_is e.makes
      (goes_bare act (stood 0) missed (Some Off) goes)
  missed_with stood missed _ act m e goes = absurd e

  wanted : (given : Result A MoveRefusal) → wants_memory given ≡ true → given ≡ Err (Core Memory)
  wanted (Err (Core Memory)) e = refl
  wanted _ e = absurd (cc)

  lacks_on_host : (host : Host) (steps front rest : List MadeStep) (given : Result A MoveRefusal) → IsHostOf steps host
      → steps ≡ front ++ rest → MoveEndsWith finds front given → wants_memory given ≡ true → MoveLacksOnHost finds host steps
  lacks_on_host host steps front rest given h are ends lacks =
      let first : length front + length rest ≡ length steps = sym (ap length are ∙ length-append front rest) in
      let new : Standing = bare_standing (host.stood (length rest)) in record {
        front = front;
        rest = rest;
        are = are;
        moved =
            subst (λ (n : ℕ). MovePromise finds (bare_standing (host.stood n)) new (Err (Core Memory))) first
            (subst
            (λ (n : ℕ). MovePromise finds (bare_standing (host.stood (length front + length rest))) (bare_standing (host.stood n))
            (Err (Core Memory))) (zero-add (length rest))
            (subst
            (λ (r : Result A MoveRefusal). MovePromise finds (bare_standing (host.stood (length front + length rest)))
            (bare_standing (host.stood (0 + length rest))) r) (wanted given lacks)
            (ends_with (λ left. host.stood (left + length rest)) front given
            (front_made host.stood front rest (subst (AreMade host.stood) are h.are_made)) ends)));
      }

  -- what is told by the steps is the move on each platform on which they were made
  pub on_host : (host : Host) (steps : List MadeStep) (came : StepsOutcome (Result A MoveRefusal)) → IsHostOf steps host
      → TellsOutcome (move_protocol finds) (λ given. given) steps came → IsMoveOnHost finds host steps came
  on_host host steps (outcome.Ended given) h t = ends_with host.stood steps given h.are_made t
  on_host host steps (outcome.Next step) h t =
      missed_with host.stood (host.missed 0 (act_of step)) steps (act_of step) h.are_made t (host.misses 0 (act_of step))
  on_host host steps outcome.Differs h t = tt
  on_host host steps outcome.Memory h t = lacks_on_host host steps t.front t.rest t.over.given h t.are t.over.gives t.over.lacks

  -- one step comes next, and none where the move ended, but for want of memory

  ready_same : (r : Result (ReadyMove A) MoveRefusal) (one two : ReadyMove A) → IsOrNoMemory r (Ok one) → IsOrNoMemory r (Ok two)
      → one ≡ two
  ready_same (Ok it) one two (inl e) (inl d) = let same : Ok one ≡ Ok two = e ∙ sym d in cc
  ready_same (Ok it) one two (inr e) d = absurd (cc)
  ready_same (Ok it) one two (inl e) (inr d) = absurd (cc)
  ready_same (Err why) one two e d = absurd (cc)

  one_ready : (bytes : List ℕ) (found other : Result (ReadyMove A) MoveRefusal) (more : List MadeStep) (a b : Act)
      → IsOrNoMemory (finds bytes) found → IsOrNoMemory (finds bytes) other → FindingMakesNext found more a
      → FindingMakesNext other more b → a ≡ b
  one_ready bytes (Ok one) (Ok two) [] a b f o m n =
      let same : one ≡ two = ready_same (finds bytes) one two f o in
      let next : Some m.next ≡ Some n.next = sym m.next_is ∙ ap (λ (it : ReadyMove A). it.next) same ∙ n.next_is in
      let bytes : m.next ≡ n.next = cc in m.act_is ∙ ap WriteCell bytes ∙ sym n.act_is
  one_ready bytes (Ok one) (Ok two) (it ∷ more) a b f o m n = absurd m
  one_ready bytes (Ok one) (Err why) more a b f o m n = absurd n
  one_ready bytes (Err why) other more a b f o m n = absurd m

  one_next : (front : List MadeStep) (a b : Act) → MoveMakesNext finds front a → MoveMakesNext finds front b → a ≡ b
  one_next [] a b m n = m ∙ sym n
  one_next (made.ReadCell (Ok bytes) ∷ more) a b m n = one_ready bytes m.found n.found more a b m.found_is n.found_is m.makes n.makes
  one_next _ a b m n = absurd m

  ready_lacks : (r : Result (ReadyMove A) MoveRefusal) (one : ReadyMove A) (why : MoveRefusal) → IsOrNoMemory r (Ok one)
      → IsOrNoMemory r (Err why) → why ≡ Core Memory
  ready_lacks (Ok it) one why f (inl d) = absurd (cc)
  ready_lacks (Ok it) one why f (inr d) = cc
  ready_lacks (Err reason) one why f d = absurd (cc)

  ready_or_over : (bytes : List ℕ) (found other : Result (ReadyMove A) MoveRefusal) (more : List MadeStep) (a : Act)
      (given : Result A MoveRefusal) → IsOrNoMemory (finds bytes) found → IsOrNoMemory (finds bytes) other
      → FindingMakesNext found more a → FindingEndsWith other more given → wants_memory given ≡ true
  ready_or_over bytes (Ok one) (Err why) [] a given f o m e =
      subst (λ (r : Result A MoveRefusal). wants_memory r ≡ true)
      (sym (e ∙ ap (λ (w : MoveRefusal). Err w) (ready_lacks (finds bytes) one why f o))) refl
  ready_or_over bytes (Ok one) (Ok two) [] a given f o m e =
      let same : one ≡ two = ready_same (finds bytes) one two f o in
      let next : two.next ≡ Some m.next = ap (λ (it : ReadyMove A). it.next) (sym same) ∙ m.next_is in
      absurd (subst (λ (next : Option (List ℕ)). ReadyEndsWith next two.answer [] given) next e)
  ready_or_over bytes (Ok one) other (it ∷ more) a given f o m e = absurd m
  ready_or_over bytes (Err why) other more a given f o m e = absurd m

  next_or_over : (front : List MadeStep) (a : Act) (given : Result A MoveRefusal) → MoveMakesNext finds front a
      → MoveEndsWith finds front given → wants_memory given ≡ true
  next_or_over (made.ReadCell (Ok bytes) ∷ more) a given m e =
      ready_or_over bytes m.found e.found more a given m.found_is e.found_is m.makes e.ends
  next_or_over (made.ReadCell (Err fault) ∷ []) a given m e = absurd m
  next_or_over _ a given m e = absurd e

  -- so no step of a host differs that makes those that it is told
  fits : (steps : List MadeStep) → AreAsTold (move_protocol finds) steps → StepsDiffer (move_protocol finds) steps → ⊥
  fits steps told d =
      let next : MoveMakesNext finds d.front (made_act d.it) = told d.front d.rest d.it d.are in
      elim d.other [
        | inl m ↦ absurd (m.other (one_next d.front (made_act d.it) m.act next m.next))
        | inr o ↦ let yes : wants_memory o.given ≡ true = next_or_over d.front (made_act d.it) o.given next o.gives in
            let no : wants_memory o.given ≡ false = o.lacks in absurd (cc)
      ]

  few_found : (found : Result (ReadyMove A) MoveRefusal) (more : List MadeStep) (act : Act) → FindingMakesNext found more act
      → suc (length more) < 2
  few_found (Ok ready) [] act m = omega arith
  few_found (Ok ready) (it ∷ more) act m = absurd m
  few_found (Err why) more act m = absurd m

  few_made : (steps : List MadeStep) (act : Act) → MoveMakesNext finds steps act → length steps < 2
  few_made [] act m = omega arith
  few_made (made.ReadCell (Ok bytes) ∷ more) act m = few_found m.found more act m.makes
  few_made _ act m = absurd m

  pub promised : (host : Host) (steps : List MadeStep) (came : StepsOutcome (Result A MoveRefusal)) → IsHostOf steps host
      → TellsOutcome (move_protocol finds) (λ given. given) steps came → ToldMovePromise finds host steps came
  promised host steps came h t =
      let tells : StepsOutcome (Result A MoveRefusal) → Type 0 = λ o. TellsOutcome (move_protocol finds) (λ given. given) steps o in
      record {
        tells = t;
        moved = on_host host steps came h t;
        fits = λ same differs. fits steps same (subst tells differs t);
        few = λ step next. few_made steps (act_of step) (subst tells next t);
      }

-- An invitation hands on no device's fault but its own steps'.

no_fault_if : (test : Bool) (refused rest : Result (ReadyMove Invited) MoveRefusal) → move_fault_in refused ≡ None
    → move_fault_in rest ≡ None → move_fault_in (if test then refused else rest) ≡ None
no_fault_if true refused rest h k = h
no_fault_if false refused rest h k = k

pub invites_no_fault : (next : WaitingCell) (read : Result MovedCell CellFault) → move_fault_in (invitation_in next read) ≡ None
invites_no_fault next (Ok (Waits cell)) = no_fault_if (not (is_same_waiting cell next)) _ _ refl refl
invites_no_fault next (Ok (Live cell)) = refl
invites_no_fault next (Ok (Left cell)) = refl
invites_no_fault next (Err Blank) = refl
invites_no_fault next (Err Unspelled) = refl

-- Moves keep what both sides issued; and so does every schedule.
use Rattle.mm_sides.proofs.Below.{ℕ, ◌≡◌, Bool, true, false, List, [], ◌∷◌, Option, None, Some, Result, Ok, Err, refl, sym, ◌∙◌, subst}
use Rattle.mm_sides.proofs.Below.{if◌then◌else◌, AllByRecursion, Variant, Meaning, StepFault, Meddle, Stop, sealed_snapshot_of, Instance}
use Rattle.mm_sides.proofs.Below.{History, first_history, LiveHistory, life_of, NamesPosition, content_of_issue, each_append, StepFate}
use Rattle.mm_sides.proofs.Below.{StepsWalk, walk, list_level, state_after_moves, instance_by, course_of, IsIssued, IsSoundIn, Role, Effect}
use Rattle.mm_sides.proofs.Below.{Invites, Leaves, Enters, MoveNotes, no_notes, is_live, SideName, First, Second, Pair, instance_on}
use Rattle.mm_sides.proofs.Below.{BothSides, sides_swapped, list_mover, first_both_by_lists, MoveCommand, DenialCause, FoundMove, BothAct}
use Rattle.mm_sides.proofs.Below.{Plain, Moves, BothEvent, BothOutcome, is_moved, effect_if, effect_of, sides_after_effect_if}
use Rattle.mm_sides.proofs.Below.{state_after_steps, stopped_moves, move_steps, sides_after_issue, move_end_outcome, outcome_of_found_move}
use Rattle.mm_sides.proofs.Below.{outcome_if_found, found_command, outcome_here, both_outcome, BothRunOutcome, both_outcome_of_events}
use Rattle.mm_sides.proofs.Below.{notes_with_effect_if, IsNew, IsOursIn, AreFreshFrom, ModuleEntersByLast, history_now, SnapshotsName}
use Rattle.mm_sides.proofs.Below.{SidesIssueNames}
use Rattle.mm_sides.proofs.InOrder.{not_dead, invites_none, roles_begin}
use Rattle.mm_sides.proofs.Found.{Fits, FitsFound, FitsIn, finding_fits, IsFine, unbroken, found_is, IsEnded, ended_told, affected_order}
use Rattle.mm_sides.proofs.Found.{enters_so}
use Rattle.mm_sides.proofs.Outer.{any_value, found_outer, stopped_outer, IsAlike, same_open, brought_alike, events_keep_names, outer_sound}
use Rattle.mm_sides.proofs.OneRun.{live_history, away_history, affected_history, IsOrdered, here_ordered}
use Rattle.mm_sides.proofs.Rests.{here_tells, issued_here}
use Rattle.mm_sides.proofs.SideNames.{alike_issued, sound_holding, life_holding, first_sound_in, first_lives, Issues, turned_issues}
use Rattle.mm_sides.proofs.SideNames.{brought_issues, plain_issues}

module _ (variant : Variant) (meaning : Meaning) (key key' barrier : List ℕ) where
  abbrev me : Instance
  me = instance_by variant meaning key barrier

  abbrev them : Instance
  them = instance_by variant meaning key' barrier

  -- where the module stands its snapshot names a position
  abbrev Answers : BothSides History History → Type 0
  Answers l = (is_live l.first.role ≡ true) × NamesPosition me l.first.at (content_of_issue me l.first.at)

  abbrev Entered : BothSides History History → Option Effect → Type 0
  Entered l (Some (Enters ticket)) =
      NamesPosition me (record l.away { items = l.first.at.items }) (content_of_issue me (record l.away { items = l.first.at.items }))
  Entered l effect = Unit {0}

  abbrev RestsOn : History → Type 0
  RestsOn y = (y.is_open ≡ false) × (life_of me.variant y ≡ LiveHistory)

  abbrev Left : History → Option Effect → Type 0
  Left y (Some (Leaves ticket)) = RestsOn y
  Left y effect = Unit {0}

  record Affected (l : BothSides History History) (notes : MoveNotes) (effect : Option Effect) : Type 0 where
    keeps : Issues me them (sides_after_effect_if list_mover l effect) (notes_with_effect_if effect notes)
    entered : Entered l effect

  -- where the module has left, and none is live, the history rests
  affected_rests : (l : BothSides History History) (notes : MoveNotes) (effect : Option Effect) → Issues me them l notes
      → IsFine l.first.role notes effect → Left l.first.at effect → (let after = sides_after_effect_if list_mover l effect in
      is_live after.first.role ≡ false → is_live after.second.role ≡ false → RestsOn after.away)
  affected_rests l notes (Some (Invites nonce)) k fine left = λ gone none. k.rests (invites_none l.first.role nonce fine.0) none
  affected_rests l notes (Some (Leaves ticket)) k fine left = λ gone none. left
  affected_rests l notes (Some (Enters ticket)) k fine left = λ gone none. not_dead gone
  affected_rests l notes None k fine left = k.rests

  affected : (l : BothSides History History) (notes : MoveNotes) (effect : Option Effect) → Issues me them l notes
      → IsFine l.first.role notes effect
      → Left l.first.at effect → Affected l notes effect
  affected l notes (Some (Enters ticket)) k fine left =
      let effect : Option Effect = Some (Enters ticket) in
      let alone : ModuleEntersByLast l.first.role l.second.role notes ticket = enters_so l.first.role l.second.role notes
      effect k.order fine in
      let away : history_now l ≡ l.away = away_history l alone.not_here alone.not_there in
      let z : History = record l.away { items = l.first.at.items } in
      let r = k.rests alone.not_here alone.not_there in
      let sound : IsSoundIn me.variant z = sound_holding variant meaning key barrier l.away l.first.at.items r.0
      (subst (λ y. IsSoundIn me.variant y) away k.sound) in
      let here : AllByRecursion (IsIssued me z) l.first.issued = alike_issued variant meaning key barrier l.away z
      (record { is = refl }) l.first.issued (subst (λ y. AllByRecursion (IsIssued me y) l.first.issued) away k.this_now) in
      record {
        keeps = record {
          order = affected_order list_mover l notes effect k.order fine;
          sound = sound;
          this_here = here;
          this_now = here;
          other_here = k.other_here;
          other_now = alike_issued variant meaning key' barrier l.away z (record { is = refl }) l.second.issued
              (subst (λ y. AllByRecursion (IsIssued them y) l.second.issued) away k.other_now);
          rests = affected_rests l notes effect k fine left;
        };
        entered = issued_here variant meaning key barrier z sound (life_holding variant meaning key barrier l.away z.items r.0 r.1);
      }
  affected l notes effect k fine left =
      let same = sym (affected_history l notes effect k.order fine) in
      record {
        keeps = record {
          order = affected_order list_mover l notes effect k.order fine;
          sound = subst (λ y. IsSoundIn me.variant y) same k.sound;
          this_here = k.this_here;
          this_now = subst (λ y. AllByRecursion (IsIssued me y) l.first.issued) same k.this_now;
          other_here = k.other_here;
          other_now = subst (λ y. AllByRecursion (IsIssued them y) l.second.issued) same k.other_now;
          rests = affected_rests l notes effect k fine left;
        };
        entered = tt;
      }

  abbrev Tellable : BothSides History History → Effect → Type 0
  Tellable l (Enters ticket) = Answers l
  Tellable l effect = Unit {0}

  told_issues : (pair : Pair) (l : BothSides History History) (notes : MoveNotes) (effect : Effect) → Issues me them l notes
      → Tellable l effect
      → Issues me them (sides_after_issue list_mover pair me l effect) notes
  told_issues pair l notes (Enters ticket) k told =
      let y : History = l.first.at in
      let bytes : List ℕ = sealed_snapshot_of me.key (content_of_issue me y) in
      let own : IsIssued me y bytes = record { content = content_of_issue me y; sealed = refl; names = told.1 } in
      let now : History = history_now l in
      let is : now ≡ y = live_history l told.0 in
      record {
        order = k.order;
        sound = k.sound;
        this_here = each_append (IsIssued me y) l.first.issued (bytes ∷ []) k.this_here (own, tt);
        this_now = each_append (IsIssued me now) l.first.issued (bytes ∷ []) k.this_now (subst (λ w. IsIssued me w bytes) (sym is) own, tt);
        other_here = k.other_here;
        other_now = k.other_now;
        rests = k.rests;
      }
  told_issues pair l notes effect k told = k

  ended_issues : (pair : Pair) (l : BothSides History History) (notes : MoveNotes) (stop : Stop) (broken : Option StepFault)
      (found : Result FoundMove DenialCause)
      (effect : Option Effect) → Issues me them l notes → ((f : FoundMove) → found ≡ Ok f → broken ≡ None → Tellable l f.effect)
      → Issues me them (move_end_outcome list_mover pair me l stop broken found effect).both notes
  ended_issues pair l notes stop (Some fault) found effect k told = k
  ended_issues pair l notes stop None (Err cause) effect k told = k
  ended_issues pair l notes stop None (Ok found) effect k told = told_issues pair l notes found.effect k (told found refl refl)

  left_by_effect : (notes : MoveNotes) (role : Role) (y z : History) (again moved : Bool) (effect : Effect) → (RestsOn y → RestsOn z)
      → Fits list_mover me y notes role again effect → Left z (if again then None else effect_if moved effect)
  left_by_effect notes role y z false true (Leaves ticket) go fits =
      let left = (fits refl).1 in go (left.shut, (here_tells me y left.offered left.here).live)
  left_by_effect notes role y z again moved effect go fits = tt

  left_of : (notes : MoveNotes) (role : Role) (y z : History) (fates : ℕ → StepFate) (found : Result FoundMove DenialCause)
      → (RestsOn y → RestsOn z)
      → FitsFound list_mover me y notes role found → Left z (effect_of fates found)
  left_of notes role y z fates (Err cause) go fits = tt
  left_of notes role y z fates (Ok found) go fits =
      left_by_effect notes role y z found.again (is_moved (fates 1).ends (fates 2).ends) found.effect go fits

  -- what is told once a move wasn't broken off
  tellable : (l : BothSides History History) (again moved : Bool) (effect : Effect) → (again ≡ false → moved ≡ true)
      → Entered l (if again then None else effect_if moved effect) → (again ≡ true → Tellable l effect)
      → Tellable (sides_after_effect_if list_mover l (if again then None else effect_if moved effect)) effect
  tellable l true moved (Enters ticket) done entered told = told refl
  tellable l false true (Enters ticket) done entered told = (refl, entered)
  tellable l false false (Enters ticket) done entered told = not_dead (sym (done refl))
  tellable l again moved effect done entered told = tt

  again_told : (l : BothSides History History) (notes : MoveNotes) (y : History) (again : Bool) (effect : Effect) → Issues me them l notes
      → (RestsOn y → RestsOn l.first.at) → Fits list_mover me y notes l.first.role again effect → again ≡ true → Tellable l effect
  again_told l notes y again (Enters ticket) k go fits e =
      let t = fits.1 e in
      let z : History = l.first.at in
      let sound : IsSoundIn me.variant z = subst (λ y. IsSoundIn me.variant y) (live_history l t.live) k.sound in
      (t.live, issued_here variant meaning key barrier z sound (go (t.shut, (here_tells me y ticket.content t.here).live)).1)
  again_told l notes y again effect k go fits e = tt

  move_told : (l : BothSides History History) (notes : MoveNotes) (y : History) (fates : ℕ → StepFate)
      (found : Result FoundMove DenialCause)
      → Issues me them l notes → (RestsOn y → RestsOn l.first.at) → FitsFound list_mover me y notes l.first.role found
      → Entered l (effect_of fates found) → (f : FoundMove) → found ≡ Ok f → (walk fates 1 (move_steps found)).broken ≡ None
      → Tellable (sides_after_effect_if list_mover l (effect_of fates found)) f.effect
  move_told l notes y fates (Err cause) k go fits entered f e whole = cc
  move_told l notes y fates (Ok found) k go fits entered f e whole =
      subst (λ (g : FoundMove). Tellable (sides_after_effect_if list_mover l (effect_of fates (Ok found))) g.effect) (found_is found f e)
      (tellable l found.again (is_moved (fates 1).ends (fates 2).ends) found.effect (unbroken fates found.again whole) entered
      (again_told l notes y found.again found.effect k go fits))

  rests_on : (y z : History) → IsAlike y z → RestsOn y → RestsOn z
  rests_on y z a r = (
    same_open y z a ∙ r.0,
    subst (λ w. life_of me.variant w ≡ LiveHistory) (sym a.is) (life_holding variant meaning key barrier y z.items r.0 r.1),
  )

  brought_sound : (y : History) (meddles : List Meddle) (stop : Stop) (found : Result FoundMove DenialCause) → IsSoundIn me.variant y
      → IsSoundIn me.variant (state_after_steps list_mover me y meddles stop (move_steps found))
  brought_sound y meddles stop found sound =
      let P : List ℕ → Type 0 = λ v. Unit {0} in
      let fates : ℕ → StepFate = (course_of stop meddles).fates in
      let w : StepsWalk = walk fates 1 (move_steps found) in
      let keep = events_keep_names variant meaning key barrier in
      outer_sound me keep P (stopped_moves stop w.broken) (state_after_moves (list_level me) y w.moves) (stopped_outer P stop w.broken)
      (outer_sound me keep P w.moves y (found_outer P fates found (λ n. any_value (fates n).brings)) sound)

  moved_issues : (pair : Pair) (l : BothSides History History) (notes : MoveNotes) (meddles : List Meddle) (stop : Stop)
      (command : MoveCommand)
      (found : Option (Result FoundMove DenialCause)) → Issues me them l notes
      → IsOrdered l.first.role l.second.role notes (outcome_if_found list_mover pair me l meddles stop command found)
      → FitsIn list_mover me l.first.at notes l.first.role found
      → (let o = outcome_if_found list_mover pair me l meddles stop command found in
      Issues me them o.both (notes_with_effect_if o.effect notes))
  moved_issues pair l notes meddles stop command None k s h = k
  moved_issues pair l notes meddles stop command (Some found) k s h =
      let fates : ℕ → StepFate = (course_of stop meddles).fates in
      let broken : Option StepFault = (walk fates 1 (move_steps found)).broken in
      let effect : Option Effect = effect_of fates found in
      let y : History = l.first.at in
      let z : History = state_after_steps list_mover me y meddles stop (move_steps found) in
      let alike : IsAlike y z = brought_alike me y meddles stop found in
      let l1 : BothSides History History = record l { first = record l.first { at = z } } in
      let k1 : Issues me them l1 notes = brought_issues variant meaning key key' barrier l notes z k alike
      (λ live. brought_sound y meddles stop found) in
      let l2 : BothSides History History = sides_after_effect_if list_mover l1 effect in
      let ended : IsEnded list_mover pair me l2 effect (outcome_of_found_move list_mover pair me l meddles stop found) =
      ended_told list_mover pair me l2 stop broken found effect in
      let fine : IsFine l.first.role notes effect = subst (IsFine l.first.role notes) ended.effect_is s.fine in
      let a : Affected l1 notes effect = affected l1 notes effect k1 fine (left_of notes l.first.role y z fates found
      (rests_on y z alike) h) in
      subst (λ (e : Option Effect). Issues me them (outcome_of_found_move list_mover pair me l meddles stop found).both
      (notes_with_effect_if e notes))
      (sym ended.effect_is) (ended_issues pair l2 (notes_with_effect_if effect notes) stop broken found effect a.keeps
      (move_told l1 notes y fates found k1 (rests_on y z alike) h a.entered))

  here_issues : (pair : Pair) (l : BothSides History History) (notes : MoveNotes) (act : BothAct) → Issues me them l notes
      → IsOrdered l.first.role l.second.role notes (outcome_here list_mover pair me l act) → IsOursIn pair l.tickets notes act
      → (let o = outcome_here list_mover pair me l act in Issues me them o.both (notes_with_effect_if o.effect notes))
  here_issues pair l notes (Plain event) k s ours =
      plain_issues variant meaning key key' barrier l notes l.first.role event k
  here_issues pair l notes (Moves meddles stop command) k s ours =
      moved_issues pair l notes meddles stop command (found_command list_mover pair me l command) k s
      (finding_fits list_mover pair me notes l command ours)

module _ (pair : Pair) where
  pub event_issues : (l : BothSides History History) (notes : MoveNotes) (which : SideName) (act : BothAct)
      → Issues (instance_on pair First) (instance_on pair Second) l notes
      → (let o : BothOutcome History History = both_outcome list_mover pair l (record { which = which; act = act }) in
      IsNew notes o.effect → IsOursIn pair l.tickets notes act → Issues (instance_on pair First) (instance_on pair Second) o.both
      (notes_with_effect_if o.effect notes))
  event_issues l notes First act k new ours =
      here_issues pair.variant pair.meaning pair.first_key pair.second_key pair.barrier pair l notes act k
      (here_ordered pair (instance_on pair First) l notes act k.order new ours) ours
  event_issues l notes Second act k new ours =
      let i : Instance = instance_on pair Second in
      let back = turned_issues pair.variant pair.meaning pair.first_key pair.second_key pair.barrier l notes k in
      let o : BothOutcome History History = outcome_here list_mover pair i (sides_swapped l) act in
      turned_issues pair.variant pair.meaning pair.second_key pair.first_key pair.barrier o.both (notes_with_effect_if o.effect notes)
      (here_issues pair.variant pair.meaning pair.second_key pair.first_key pair.barrier pair (sides_swapped l) notes act back
      (here_ordered pair i (sides_swapped l) notes act back.order new ours) ours)

  issues_from : (events : List BothEvent) (l : BothSides History History) (notes : MoveNotes)
      → Issues (instance_on pair First) (instance_on pair Second) l notes → AreFreshFrom pair l notes events
      → (let f : BothRunOutcome History History = both_outcome_of_events list_mover pair l events in
      SnapshotsName pair First f.both.first (history_now f.both) × SnapshotsName pair Second f.both.second (history_now f.both))
  issues_from [] l notes k fresh = (record { here = k.this_here; now = k.this_now }, record { here = k.other_here; now = k.other_now })
  issues_from (event ∷ events) l notes k fresh =
      let o : BothOutcome History History = both_outcome list_mover pair l event in
      issues_from events o.both (notes_with_effect_if o.effect notes) (event_issues l notes event.which event.act k fresh.0 fresh.1) fresh.2

-- the first moment
pub first_issues : (pair : Pair) → Issues (instance_on pair First) (instance_on pair Second) (first_both_by_lists pair) no_notes
first_issues pair =
    let i : Instance = instance_on pair First in
    let sound = first_sound_in pair.variant pair.meaning pair.first_key pair.barrier in
    let own : IsIssued i first_history (sealed_snapshot_of i.key (content_of_issue i first_history)) = record {
      content = content_of_issue i first_history;
      sealed = refl;
      names = issued_here pair.variant pair.meaning pair.first_key pair.barrier first_history sound
          (first_lives pair.variant pair.meaning pair.first_key pair.barrier);
    } in
    record {
      order = roles_begin;
      sound = sound;
      this_here = (own, tt);
      this_now = (own, tt);
      other_here = tt;
      other_now = tt;
      rests = λ gone left. not_dead gone;
    }

pub sides_issue_names : SidesIssueNames
sides_issue_names pair events fresh = issues_from pair events (first_both_by_lists pair) no_notes (first_issues pair) fresh

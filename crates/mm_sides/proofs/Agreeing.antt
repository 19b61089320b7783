-- A command on the first side comes by digests to what it comes to by lists; and so does each event.
use Rattle.mm_sides.proofs.Below.{ℕ, ◌≡◌, Bool, true, false, List, [], ◌∷◌, ◌++◌, map, Option, None, Some, Result, Ok, Err, refl, sym, ap}
use Rattle.mm_sides.proofs.Below.{◌∙◌, subst, if◌then◌else◌, AllByRecursion, Contains, Variant, Batch, Meaning, state_after, StepFault}
use Rattle.mm_sides.proofs.Below.{Meddle, Stop, Content, sealed_snapshot_of, Instance, History, requests_of, total_of, AreMessagesIn}
use Rattle.mm_sides.proofs.Below.{IsClear, Digests, NamesPosition, content_of_issue, place_messages, each_left, each_right, each_append}
use Rattle.mm_sides.proofs.Below.{messages_of_moves, StepFate, StepsWalk, walk, list_level, digest_level, state_after_moves, instance_by}
use Rattle.mm_sides.proofs.Below.{TicketContent, summary_in, course_of, KeepsHistory, AreApartIn, Role, Effect, Invites, Leaves, Enters}
use Rattle.mm_sides.proofs.Below.{MoveNotes, is_live, Pair, BothSides, list_mover, digest_mover, MoveCommand, DenialCause, FoundMove}
use Rattle.mm_sides.proofs.Below.{BothAct, Plain, Moves, Entered, move_steps, is_moved, effect_if, effect_of, stopped_moves}
use Rattle.mm_sides.proofs.Below.{state_after_steps, sides_after_effect_if, sides_after_issue, effect_reply, move_end_outcome}
use Rattle.mm_sides.proofs.Below.{outcome_if_found, found_command, outcome_here, notes_with_effect_if, read_moves, found_moves}
use Rattle.mm_sides.proofs.Below.{command_messages, messages_here, others_values_in, batches_in, IsGenuineHere, IsOursIn, history_now}
use Rattle.mm_sides.proofs.Found.{Fits, FitsFound, FitsIn, finding_fits, IsFine, pushed_last, unbroken, found_is, ended_told}
use Rattle.mm_sides.proofs.Found.{affected_order, EntersSo, enters_so}
use Rattle.mm_sides.proofs.Outer.{AreOuter, found_outer, stopped_outer, due_among, IsAlike, same_batches, same_open, brought_alike}
use Rattle.mm_sides.proofs.Outer.{events_agree, stop_listed, outer_keeps}
use Rattle.mm_sides.proofs.InOrder.{not_dead, invites_none, leaves_live}
use Rattle.mm_sides.proofs.OneRun.{live_history, away_history, affected_history, IsOrdered}
use Rattle.mm_sides.proofs.Rests.{names_cross, alike_names, issued_cross, within_cross, cell_cross, digest_rests, says_again, rests_listed}
use Rattle.mm_sides.proofs.Rests.{flag_shut, sound_in, issued_here, here_tells, end_of}
use Rattle.mm_sides.proofs.SideNames.{alike_rests_in, behind_later, IsBehind, rests_in, RestsIn, went_alike, went_here}
use Rattle.mm_sides.proofs.Twins.{Twin, twin, IsNamed, Kept, Goes, each_goes, brought_kept, now_within, plain_goes}
use Rattle.mm_sides.proofs.WentOn.{WentOn}
use Rattle.mm_sides.proofs.SameFound.{named_of, finding_same}

module _ (variant : Variant) (meaning : Meaning) (key key' barrier : List ℕ) (all others : List (List ℕ)) (asked : List Batch)
    (clear : IsClear all)
    (apart : AreApartIn (instance_by variant meaning key barrier).variant (instance_by variant meaning key barrier) others asked) where
  abbrev me : Instance
  me = instance_by variant meaning key barrier

  abbrev them : Instance
  them = instance_by variant meaning key' barrier

  -- what a move's effect makes of both sides, from where the first was brought to

  -- what an effect that is made tells of the history where the first side was brought to
  abbrev Makes : History → Option Effect → Type 0
  Makes z (Some (Leaves ticket)) = (z.is_open ≡ false) × NamesPosition me z ticket.content × (ticket.content ≡ content_of_issue me z)
      × RestsIn me.variant z
  Makes z effect = Unit {0}

  -- what by digests says where the module stands once it has entered
  abbrev Entering : BothSides History History → Twin → Twin → Option Effect → Type 0
  Entering l x at None = at ≡ x
  Entering l x at (Some (Enters ticket)) =
      digest_mover.says me at.first ticket.content ≡ content_of_issue me (record l.away { items = l.first.at.items })
  Entering l x at (Some effect) = Unit {0}

  -- The effect makes the same of both, and what holds before holds after.
  record Affects (l : BothSides History History) (x : Twin) (notes : MoveNotes) (effect : Option Effect) : Type 0 where
    at : Twin
    same : sides_after_effect_if digest_mover (twin l x) effect ≡ twin (sides_after_effect_if list_mover l effect) at
    kept : Kept all others asked me them (sides_after_effect_if list_mover l effect) at (notes_with_effect_if effect notes)
    entering : Entering l x at effect

  invites_goes : (l : BothSides History History) (x : Twin) (notes : MoveNotes) (nonce : List ℕ) → Kept all others asked me them l x notes
      → IsFine l.first.role notes (Some (Invites nonce)) → Affects l x notes (Some (Invites nonce))
  invites_goes l x notes nonce k fine =
      let effect : Option Effect = Some (Invites nonce) in
      record {
        at = x;
        same = refl;
        kept = record {
          this = record { keeps = k.this.keeps; shut = tt };
          other = k.other;
          left = k.left;
          order = affected_order list_mover l notes effect k.order fine;
          named = subst (λ y. AllByRecursion (IsNamed all me y) notes.retired) (sym (affected_history l notes effect k.order fine)) k.named;
          last = λ gone left ticket is. k.last (invites_none l.first.role nonce fine.0) left ticket is;
          this_behind = tt;
          other_behind = subst (IsBehind l.second.role them.variant l.second.at) (sym (affected_history l notes effect k.order fine))
              k.other_behind;
        };
        entering = tt;
      }

  leaves_goes : (l : BothSides History History) (x : Twin) (notes : MoveNotes) (ticket : TicketContent)
      → Kept all others asked me them l x notes
      → IsFine l.first.role notes (Some (Leaves ticket)) → Makes l.first.at (Some (Leaves ticket))
      → Affects l x notes (Some (Leaves ticket))
  leaves_goes l x notes ticket k fine made =
      let y : History = l.first.at in
      let effect : Option Effect = Some (Leaves ticket) in
      let now : history_now l ≡ y = live_history l (leaves_live l.first.role ticket fine.0) in
      let own : IsNamed all me y ticket = (
        made.1,
        subst (λ (c : Content). AreMessagesIn (place_messages c.place) all) (sym made.2)
            (rests_listed variant meaning key barrier y all made.0),
      ) in
      record {
        at = record x { away = x.first.count };
        same = refl;
        kept = record {
          this = record { keeps = k.this.keeps; shut = made.0 };
          other = k.other;
          left = record { count_is = k.this.keeps.agrees.count; shut = made.0; within = k.this.keeps.within };
          order = affected_order list_mover l notes effect k.order fine;
          named = subst (λ w. AllByRecursion (IsNamed all me w) (notes.retired ++ ticket ∷ []))
              (sym (affected_history l notes effect k.order fine))
              (each_append (IsNamed all me (history_now l)) notes.retired (ticket ∷ []) k.named
              (subst (λ w. IsNamed all me w ticket) (sym now) own, tt));
          last = λ gone left other is. ap (λ (t : TicketContent). t.content) (pushed_last notes.retired ticket other is) ∙ made.2;
          this_behind = subst (λ w. WentOn y w × RestsIn me.variant y) (sym (affected_history l notes effect k.order fine ∙ now))
              (went_here y, made.3);
          other_behind = subst (IsBehind l.second.role them.variant l.second.at) (sym (affected_history l notes effect k.order fine))
              k.other_behind;
        };
        entering = tt;
      }

  enters_goes : (l : BothSides History History) (x : Twin) (notes : MoveNotes) (ticket : TicketContent)
      → Kept all others asked me them l x notes
      → IsFine l.first.role notes (Some (Enters ticket)) → EntersSo l.first.role l.second.role notes (Some (Enters ticket))
      → Affects l x notes (Some (Enters ticket))
  enters_goes l x notes ticket k fine alone =
      let own : History = l.first.at in
      let z : History = record l.away { items = own.items } in
      let is : ticket.content ≡ content_of_issue me l.away = k.last alone.not_here alone.not_there ticket alone.last in
      let digest = ap (λ (c : Content). (summary_in c.place).bytes) is ∙ digest_rests variant meaning key barrier l.away k.left.shut
      ∙ cell_cross variant meaning key key barrier l.away own.items in
      let away_named : AllByRecursion (IsNamed all me l.away) notes.retired =
      subst (λ y. AllByRecursion (IsNamed all me y) notes.retired) (away_history l alone.not_here alone.not_there) k.named in
      record {
        at = record x { first = digest_mover.enters x.first x.away ticket.content };
        same = refl;
        kept = record {
          this = record {
            keeps = record {
              agrees = record {
                digest = digest;
                flag = flag_shut variant meaning key barrier z k.left.shut;
                register = k.this.keeps.agrees.register;
                count = k.left.count_is;
              };
              within = within_cross variant meaning key key barrier all others asked l.away own.items k.left.shut k.left.within;
            };
            shut = tt;
          };
          other = k.other;
          left = k.left;
          order = affected_order list_mover l notes (Some (Enters ticket)) k.order fine;
          named = each_goes (IsNamed all me l.away) (IsNamed all me z)
              (λ t h. (names_cross variant meaning key key barrier l.away own.items t.content h.0, h.1)) notes.retired away_named;
          last = λ gone left other at. not_dead gone;
          this_behind = tt;
          other_behind = behind_later l.second.role them.variant l.second.at l.away z (went_alike l.away z (record { is = refl }))
              (subst (IsBehind l.second.role them.variant l.second.at) (away_history l alone.not_here alone.not_there) k.other_behind);
        };
        entering = says_again variant meaning key barrier z
            (digest_mover.enters x.first x.away ticket.content) ticket.content k.left.shut digest
            (ap (λ (c : Content). c.position) is) (ap (λ (c : Content). c.state) is);
      }

  affects : (l : BothSides History History) (x : Twin) (notes : MoveNotes) (effect : Option Effect)
      → Kept all others asked me them l x notes
      → IsFine l.first.role notes effect → Makes l.first.at effect → Affects l x notes effect
  affects l x notes None k fine made = record { at = x; same = refl; kept = k; entering = refl }
  affects l x notes (Some (Invites nonce)) k fine made = invites_goes l x notes nonce k fine
  affects l x notes (Some (Leaves ticket)) k fine made = leaves_goes l x notes ticket k fine made
  affects l x notes (Some (Enters ticket)) k fine made =
      enters_goes l x notes ticket k fine (enters_so l.first.role l.second.role notes (Some (Enters ticket)) k.order fine)

  -- telling

  -- what is told of both sides: of a ticket that was accepted, that where the module stands now it says so
  abbrev Says : BothSides History History → Twin → Effect → Type 0
  Says l x (Enters ticket) = digest_mover.says me x.first ticket.content ≡ content_of_issue me l.first.at
  Says l x effect = Unit {0}

  told_goes : (pair : Pair) (l : BothSides History History) (x : Twin) (notes : MoveNotes) (effect : Effect) (made : Option Effect)
      → Kept all others asked me them l x (notes_with_effect_if made notes) → Says l x effect → Goes all others asked me them notes
      (record { both = sides_after_issue list_mover pair me l effect; reply = effect_reply list_mover me l effect; effect = made })
      (record {
        both = sides_after_issue digest_mover pair me (twin l x) effect;
        reply = effect_reply digest_mover me (twin l x) effect;
        effect = made;
      })
  told_goes pair l x notes (Enters ticket) made k says = record {
    at = x;
    same = λ j. record {
      both = record {
        first = record { role = l.first.role; at = x.first; issued = l.first.issued ++ sealed_snapshot_of me.key (says j) ∷ [] };
        second = record { role = l.second.role; at = x.second; issued = l.second.issued };
        away = x.away;
        tickets = l.tickets;
        committed = l.committed;
      };
      reply = Entered (says j).position;
      effect = made;
    };
    kept = k;
  }
  told_goes pair l x notes effect made k says = record { at = x; same = refl; kept = k }

  ended_goes : (pair : Pair) (l : BothSides History History) (x : Twin) (notes : MoveNotes) (stop : Stop) (broken : Option StepFault)
      (found : Result FoundMove DenialCause) (made : Option Effect) → Kept all others asked me them l x (notes_with_effect_if made notes)
      → ((f : FoundMove) → found ≡ Ok f → broken ≡ None → Says l x f.effect)
      → Goes all others asked me them notes (move_end_outcome list_mover pair me l stop broken found made)
      (move_end_outcome digest_mover pair me (twin l x) stop broken found made)
  ended_goes pair l x notes stop (Some fault) found made k says = record { at = x; same = refl; kept = k }
  ended_goes pair l x notes stop None (Err cause) made k says = record { at = x; same = refl; kept = k }
  ended_goes pair l x notes stop None (Ok found) made k says = told_goes pair l x notes found.effect made k (says found refl refl)

  -- a move

  stopped_listed : (y : History) (stop : Stop) (broken : Option StepFault)
      → AreMessagesIn (messages_of_moves me y (stopped_moves stop broken)) all
  stopped_listed y stop None = tt
  stopped_listed y stop (Some fault) = stop_listed me y all stop

  -- where the first side was brought to
  record Brings (y z : History) (d : Digests) : Type 0 where
    keeps : KeepsHistory all others asked me z d
    alike : IsAlike y z

  brings : (y : History) (d : Digests) (meddles : List Meddle) (stop : Stop) (found : Result FoundMove DenialCause)
      → KeepsHistory all others asked me y d → AllByRecursion (Contains others) (map (λ (m : Meddle). m.value.bytes) meddles)
      → AreMessagesIn (messages_of_moves me y (read_moves meddles stop (move_steps found))) all
      → Brings y (state_after_steps list_mover me y meddles stop (move_steps found))
      (state_after_steps digest_mover me d meddles stop (move_steps found))
  brings y d meddles stop found k outside listed =
      let fates : ℕ → StepFate = (course_of stop meddles).fates in
      let w : StepsWalk = walk fates 1 (move_steps found) in
      let C : List ℕ → Type 0 = Contains others in
      let first : AreOuter C w.moves = found_outer C fates found (λ n. due_among C meddles outside n) in
      let second : AreOuter C (stopped_moves stop w.broken) = stopped_outer C stop w.broken in
      let middle : History = state_after_moves (list_level me) y w.moves in
      let there : Digests = state_after_moves (digest_level me) d w.moves in
      let agree = events_agree variant meaning key barrier in
      record {
        keeps = outer_keeps all others asked me agree clear apart (stopped_moves stop w.broken) middle there second
            (stopped_listed middle stop w.broken) (outer_keeps all others asked me agree clear apart w.moves y d first listed k);
        alike = brought_alike me y meddles stop found;
      }

  same_issued : (y z : History) → IsAlike y z → content_of_issue me y ≡ content_of_issue me z
  same_issued y z a = issued_cross variant meaning key key barrier y z.items ∙ ap (content_of_issue me) (sym a.is)

  module _ (notes : MoveNotes) (role : Role) (y z : History) (d e : Digests) (b : Brings y z d)
      (k : KeepsHistory all others asked me y e) where
    makes_by : (again moved : Bool) (effect : Effect) → Fits list_mover me y notes role again effect
        → Makes z (if again then None else effect_if moved effect)
    makes_by false true (Leaves ticket) fits =
        let left = (fits refl).1 in
        let live = (here_tells me y left.offered left.here).live in (
          same_open y z b.alike ∙ left.shut,
          alike_names variant meaning key barrier y z b.alike ticket.content (subst (NamesPosition me y) (sym left.says)
              (issued_here variant meaning key barrier y (sound_in variant meaning key barrier y k.within.sound) live)),
          left.says ∙ same_issued y z b.alike,
          alike_rests_in me.variant y z b.alike
              (rests_in variant meaning key barrier y (sound_in variant meaning key barrier y k.within.sound) live left.shut),
        )
    makes_by again moved effect fits = tt

    makes_of : (fates : ℕ → StepFate) (found : Result FoundMove DenialCause) → FitsFound list_mover me y notes role found
        → Makes z (effect_of fates found)
    makes_of fates (Err cause) fits = tt
    makes_of fates (Ok found) fits = makes_by found.again (is_moved (fates 1).ends (fates 2).ends) found.effect fits

  -- what is told of a move that wasn't broken off
  says_by : (l : BothSides History History) (x : Twin) (notes : MoveNotes) (again moved : Bool) (effect : Effect)
      → (a : Affects l x notes (if again then None else effect_if moved effect)) → (again ≡ false → moved ≡ true)
      → (again ≡ true → Says l x effect) → Says (sides_after_effect_if list_mover l (if again then None else effect_if moved effect)) a.at
      effect
  says_by l x notes true moved (Enters ticket) a done says =
      subst (λ (t : Twin). digest_mover.says me t.first ticket.content ≡ content_of_issue me l.first.at) (sym a.entering) (says refl)
  says_by l x notes false true (Enters ticket) a done says = a.entering
  says_by l x notes false false (Enters ticket) a done says = not_dead (sym (done refl))
  says_by l x notes again moved effect a done says = tt

  -- a ticket that is answered again names the end of the history
  module _ (l : BothSides History History) (x : Twin) (notes : MoveNotes) (y : History) (b : Brings y l.first.at x.first)
      (named : is_live l.first.role ≡ true → AllByRecursion (IsNamed all me y) notes.retired) where
    again_says : (again : Bool) (effect : Effect) → Fits list_mover me y notes l.first.role again effect → again ≡ true → Says l x effect
    again_says again (Enters ticket) fits e =
        let t = fits.1 e in
        let names = (named_of all me y notes.retired ticket (named t.live) fits.2).0 in
        let end = end_of me y ticket.content names (here_tells me y ticket.content t.here).last in
        let z : History = l.first.at in
        let same : y.batches ≡ z.batches = sym (same_batches y z b.alike) in
        says_again variant meaning key barrier z x.first ticket.content (same_open y z b.alike ∙ t.shut) b.keeps.agrees.digest
        (end.position ∙ ap total_of same) (end.state ∙ ap (λ v. state_after me.meaning (requests_of v)) same)
    again_says again effect fits e = tt

    move_says : (fates : ℕ → StepFate) (found : Result FoundMove DenialCause) → (a : Affects l x notes (effect_of fates found))
        → FitsFound list_mover me y notes l.first.role found
        → (f : FoundMove) → found ≡ Ok f → (walk fates 1 (move_steps found)).broken ≡ None
        → Says (sides_after_effect_if list_mover l (effect_of fates found)) a.at f.effect
    move_says fates (Err cause) a fits f e whole = cc
    move_says fates (Ok found) a fits f e whole =
        subst (λ (g : FoundMove). Says (sides_after_effect_if list_mover l (effect_of fates (Ok found))) a.at g.effect) (found_is found f e)
        (says_by l x notes found.again (is_moved (fates 1).ends (fates 2).ends) found.effect a (unbroken fates found.again whole)
        (again_says found.again found.effect fits))

  moved_goes : (pair : Pair) (l : BothSides History History) (x : Twin) (notes : MoveNotes) (meddles : List Meddle) (stop : Stop)
      (command : MoveCommand)
      (found : Option (Result FoundMove DenialCause)) → Kept all others asked me them l x notes
      → IsOrdered l.first.role l.second.role notes (outcome_if_found list_mover pair me l meddles stop command found)
      → FitsIn list_mover me l.first.at notes l.first.role found
      → AllByRecursion (Contains others) (map (λ (m : Meddle). m.value.bytes) meddles)
      → AreMessagesIn (messages_of_moves me l.first.at (found_moves meddles stop found)) all
      → Goes all others asked me them notes (outcome_if_found list_mover pair me l meddles stop command found)
      (outcome_if_found digest_mover pair me (twin l x) meddles stop command found)
  moved_goes pair l x notes meddles stop command None k s fits outside listed = record { at = x; same = refl; kept = k }
  moved_goes pair l x notes meddles stop command (Some found) k s fits outside listed =
      let fates : ℕ → StepFate = (course_of stop meddles).fates in
      let broken : Option StepFault = (walk fates 1 (move_steps found)).broken in
      let effect : Option Effect = effect_of fates found in
      let y : History = l.first.at in
      let z : History = state_after_steps list_mover me y meddles stop (move_steps found) in
      let d : Digests = state_after_steps digest_mover me x.first meddles stop (move_steps found) in
      let b : Brings y z d = brings y x.first meddles stop found k.this.keeps outside listed in
      let l1 : BothSides History History = record l { first = record l.first { at = z } } in
      let x1 : Twin = record x { first = d } in
      let k1 : Kept all others asked me them l1 x1 notes = brought_kept variant meaning key key' barrier all others asked clear apart l x
      notes z d k b.keeps b.alike in
      let ended = ended_told list_mover pair me (sides_after_effect_if list_mover l1 effect) stop broken found effect in
      let fine : IsFine l.first.role notes effect = subst (IsFine l.first.role notes) ended.effect_is s.fine in
      let a : Affects l1 x1 notes effect =
      affects l1 x1 notes effect k1 fine (makes_of notes l.first.role y z d x.first b k.this.keeps fates found fits) in
      let l2 : BothSides History History = sides_after_effect_if list_mover l1 effect in
      subst (λ (w : BothSides Digests ℕ). Goes all others asked me them notes
      (move_end_outcome list_mover pair me l2 stop broken found effect)
      (move_end_outcome digest_mover pair me w stop broken found effect)) (sym a.same)
      (ended_goes pair l2 a.at notes stop broken found effect a.kept (move_says l1 x1 notes y b
      (λ live. subst (λ w. AllByRecursion (IsNamed all me w) notes.retired) (live_history l live) k.named) fates found a fits))

  -- one event on the first side
  pub here_goes : (pair : Pair) (l : BothSides History History) (x : Twin) (notes : MoveNotes) (act : BothAct)
      → Kept all others asked me them l x notes
      → IsOrdered l.first.role l.second.role notes (outcome_here list_mover pair me l act)
      → AllByRecursion (Contains others) (others_values_in act) → AllByRecursion (Contains asked) (batches_in act)
      → AreMessagesIn (messages_here pair me l act) all → IsGenuineHere me l act → IsOursIn pair l.tickets notes act
      → Goes all others asked me them notes (outcome_here list_mover pair me l act) (outcome_here digest_mover pair me (twin l x) act)
  here_goes pair l x notes (Plain event) k s outside batches listed genuine ours =
      plain_goes variant meaning key key' barrier all others asked clear apart l x notes l.first.role event k outside batches listed genuine
  here_goes pair l x notes (Moves meddles stop command) k s outside batches listed genuine ours =
      let found : Option (Result FoundMove DenialCause) = found_command list_mover pair me l command in
      let front = each_left (Contains all) (command_messages me l.first command)
      (messages_of_moves me l.first.at (found_moves meddles stop found)) listed in
      let back = each_right (Contains all) (command_messages me l.first command)
      (messages_of_moves me l.first.at (found_moves meddles stop found)) listed in
      subst (λ (f : Option (Result FoundMove DenialCause)). Goes all others asked me them notes
      (outcome_if_found list_mover pair me l meddles stop command found)
      (outcome_if_found digest_mover pair me (twin l x) meddles stop command f))
      (sym (finding_same variant meaning key barrier all others asked clear apart pair them l x notes command k
      (now_within variant meaning key key' barrier all others asked clear apart l x notes k) genuine ours front))
      (moved_goes pair l x notes meddles stop command found k s (finding_fits list_mover pair me notes l command ours) outside back)

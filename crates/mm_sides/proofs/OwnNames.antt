-- What names a position of the history of a side that the module left names one of the one history, too.
use Rattle.mm_sides.proofs.Below.{ℕ, ◌≡◌, true, List, [], ◌∷◌, Option, None, Some, Result, refl, sym, ap, ◌∙◌, subst}
use Rattle.mm_sides.proofs.Below.{Variant, Meaning, Meddle, Stop, Content, Instance, History, NamesPosition, StepFate, walk, course_of}
use Rattle.mm_sides.proofs.Below.{list_level, instance_by, Event, Outcome, vain_event_outcome, IsSoundIn, Role, Live}
use Rattle.mm_sides.proofs.Below.{Retired, Effect, Invites, Leaves, Enters, MoveNotes, no_notes, is_live, AreInOrder, SideName, First}
use Rattle.mm_sides.proofs.Below.{Second, Pair, instance_on, SideState, BothSides, sides_swapped, list_mover, first_both_by_lists}
use Rattle.mm_sides.proofs.Below.{MoveCommand, Invite, Retire, Accept, DenialCause, FoundMove, BothAct, Plain, Moves, BothEvent}
use Rattle.mm_sides.proofs.Below.{BothOutcome, plain_outcome, sides_after_effect_if, state_after_steps, effect_of, move_steps}
use Rattle.mm_sides.proofs.Below.{found_command, outcome_of_found_move, outcome_if_found, outcome_here, both_outcome, history_at}
use Rattle.mm_sides.proofs.Below.{history_now, notes_with_effect_if, IsNew, IsOursIn, AreFreshFrom, AreGenuineFrom, IsGenuineHere}
use Rattle.mm_sides.proofs.Below.{IsGenuineTo, refusal_for_role, offered_bytes}
use Rattle.mm_outcome.specs.Premises.{IsGenuineOffer}
use Rattle.mm_sides.specs.Premises.{AreGenuineByOwnFrom, IsGenuineByOwn, OwnPremiseGivesPremise}
use Rattle.mm_sides.proofs.Found.{IsFine, IsTold, IsEnded, ended_told, EntersSo}
use Rattle.mm_sides.proofs.InOrder.{leaves_live}
use Rattle.mm_sides.proofs.OneRun.{affected_history, alike_at, away_history, live_history, turned_history, IsOrdered, here_ordered}
use Rattle.mm_sides.proofs.Outer.{brought_alike, events_keep_names, in_vain, IsAlike}
use Rattle.mm_sides.proofs.Rests.{alike_names, names_cross}
use Rattle.mm_sides.proofs.SideIssues.{event_issues, first_issues}
use Rattle.mm_sides.proofs.SideNames.{Issues, turned_issues}
use Rattle.mm_sides.specs.BothSides.{sides_seen_from}

-- what names a position of one history names one of another
abbrev Names : Instance → History → History → Type 0
Names i y z = (c : Content) → NamesPosition i y c → NamesPosition i z c

-- so it is of a side that the module left, and the one history
abbrev NamesOn : Role → Instance → (here now : History) → Type 0
NamesOn (Retired left) i here now = Names i here now
NamesOn role i here now = Unit {0}

abbrev NamesOnBoth : Instance → Instance → BothSides History History → Type 0
NamesOnBoth i j l =
    NamesOn l.first.role i l.first.at (history_now l) × NamesOn l.second.role j l.second.at (history_now l)

on_later : (role : Role) (i : Instance) (here now then_now : History) → Names i now then_now → NamesOn role i here now
    → NamesOn role i here then_now
on_later (Retired left) i here now then_now go h = λ c n. go c (h c n)
on_later role i here now then_now go h = tt

on_alike : (role : Role) (i : Instance) (here there now : History) → Names i there here → NamesOn role i here now
    → NamesOn role i there now
on_alike (Retired left) i here there now back h = λ c n. h c (back c n)
on_alike role i here there now back h = tt

alike_back : (y z : History) → IsAlike y z → IsAlike z y
alike_back y z a = record { is = sym (ap (λ (w : History). record w { items = y.items }) a.is) }

-- What an event makes of both sides, seen from the side where it happens.
record NamesGoOn (i : Instance) (l m : BothSides History History) : Type 0 where
  now : Names i (history_now l) (history_now m)
  this : NamesOn m.first.role i m.first.at (history_now m)
  second : m.second ≡ l.second

module _ (variant : Variant) (meaning : Meaning) (key barrier : List ℕ) where
  abbrev me : Instance
  me = instance_by variant meaning key barrier

  names_alike : (y z : History) → IsAlike y z → Names me y z
  names_alike y z a = alike_names variant meaning key barrier y z a

  -- an event of a schedule
  module _ (l : BothSides History History) where
    abbrev standing : Role → BothSides History History
    standing role = record l { first = record l.first { role = role } }

    live_on : (event : Event) → IsSoundIn me.variant l.first.at
        → NamesGoOn me (standing Live) (plain_outcome list_mover me (standing Live) event).both
    live_on event sound =
        let n = events_keep_names variant meaning key barrier l.first.at l.first.issued event sound in
        record { now = n.names; this = tt; second = refl }

    vain_on : (role : Role) (at : History) (issued : List (List ℕ)) (committed : ℕ) → IsAlike l.first.at at
        → NamesOn role me l.first.at (history_now (standing role))
        → NamesGoOn me (standing role)
        (record (standing role) { first = record { role = role; at = at; issued = issued }; committed = committed })
    vain_on role at issued committed alike k =
        let now = history_now (standing role) in
        let then_now = history_at (is_live role) (is_live l.second.role) at l.second.at l.away in
        let go = names_alike now then_now (alike_at (is_live role) (is_live l.second.role) l.first.at at l.second.at l.away alike) in
        record {
          now = go;
          this = on_alike role me l.first.at at then_now (names_alike at l.first.at (alike_back l.first.at at alike))
              (on_later role me l.first.at now then_now go k);
          second = refl;
        }

    plain_on : (role : Role) (event : Event) → IsSoundIn me.variant (history_now (standing role))
        → NamesOn role me l.first.at (history_now (standing role))
        → NamesGoOn me (standing role) (plain_outcome list_mover me (standing role) event).both
    plain_on Live event sound k = live_on event sound
    plain_on role event sound k =
        let o : Outcome History = vain_event_outcome (list_level me) l.first.at l.first.issued (refusal_for_role role) event in
        vain_on role o.state o.issued _ (in_vain me l.first.at l.first.issued (refusal_for_role role) event).alike k

  -- an effect
  affected_on : (l : BothSides History History) (notes : MoveNotes) (effect : Option Effect)
      → AreInOrder l.first.role l.second.role notes → IsFine l.first.role notes effect
      → EntersSo l.first.role l.second.role notes effect → NamesOn l.first.role me l.first.at (history_now l)
      → NamesGoOn me l (sides_after_effect_if list_mover l effect)
  affected_on l notes None order fine alone k = record { now = λ c n. n; this = k; second = refl }
  affected_on l notes (Some (Invites nonce)) order fine alone k =
      let same = sym (affected_history l notes (Some (Invites nonce)) order fine) in
      record { now = λ c n. subst (λ y. NamesPosition me y c) same n; this = tt; second = refl }
  affected_on l notes (Some (Leaves ticket)) order fine alone k =
      let same = sym (affected_history l notes (Some (Leaves ticket)) order fine) in
      let live = live_history l (leaves_live l.first.role ticket fine.0) in
      record {
        now = λ c n. subst (λ y. NamesPosition me y c) same n;
        this = λ c n. subst (λ y. NamesPosition me y c) (sym live ∙ same) n;
        second = refl;
      }
  affected_on l notes (Some (Enters ticket)) order fine alone k =
      let away = away_history l alone.not_here alone.not_there in
      record {
        now = λ c n. names_cross variant meaning key key barrier l.away l.first.at.items c
            (subst (λ y. NamesPosition me y c) away n);
        this = tt;
        second = refl;
      }

  -- telling changes nothing of it
  told_now : (l m : BothSides History History) → IsTold l m → history_now m ≡ history_now l
  told_now l m t = λ j. history_at (is_live (t.role j)) (is_live (t.second j).role) (t.at j) (t.second j).at (t.away j)

  told_on : (l0 l m : BothSides History History) → IsTold l m → NamesGoOn me l0 l → NamesGoOn me l0 m
  told_on l0 l m t g =
      let same = sym (told_now l m t) in
      record {
        now = λ c n. subst (λ y. NamesPosition me y c) same (g.now c n);
        this = subst (λ (x : Role × History × History). NamesOn x.0 me x.1 x.2)
            (let role = sym t.role in let at = sym t.at in λ j. (role j, at j, same j)) g.this;
        second = t.second ∙ g.second;
      }

  moved_on : (pair : Pair) (l : BothSides History History) (notes : MoveNotes) (meddles : List Meddle) (stop : Stop)
      (command : MoveCommand) (found : Option (Result FoundMove DenialCause)) → AreInOrder l.first.role l.second.role notes
      → IsOrdered l.first.role l.second.role notes (outcome_if_found list_mover pair me l meddles stop command found)
      → NamesOn l.first.role me l.first.at (history_now l)
      → NamesGoOn me l (outcome_if_found list_mover pair me l meddles stop command found).both
  moved_on pair l notes meddles stop command None order s k = record { now = λ c n. n; this = k; second = refl }
  moved_on pair l notes meddles stop command (Some found) order s k =
      let fates : ℕ → StepFate = (course_of stop meddles).fates in
      let effect : Option Effect = effect_of fates found in
      let z : History = state_after_steps list_mover me l.first.at meddles stop (move_steps found) in
      let l1 : BothSides History History = record l { first = record l.first { at = z } } in
      let l2 : BothSides History History = sides_after_effect_if list_mover l1 effect in
      let ended : IsEnded list_mover pair me l2 effect (outcome_of_found_move list_mover pair me l meddles stop found) =
      ended_told list_mover pair me l2 stop (walk fates 1 (move_steps found)).broken found effect in
      let brought : NamesGoOn me l l1 =
      vain_on l l.first.role z l.first.issued l.committed (brought_alike me l.first.at meddles stop found) k in
      let a : NamesGoOn me l1 l2 = affected_on l1 notes effect order
      (subst (IsFine l.first.role notes) ended.effect_is s.fine)
      (subst (EntersSo l.first.role l.second.role notes) ended.effect_is s.alone) brought.this in
      told_on l l2 (outcome_of_found_move list_mover pair me l meddles stop found).both ended.tells (record {
        now = λ c n. a.now c (brought.now c n);
        this = a.this;
        second = a.second;
      })

  here_on : (pair : Pair) (l : BothSides History History) (notes : MoveNotes) (act : BothAct)
      → AreInOrder l.first.role l.second.role notes → IsSoundIn me.variant (history_now l)
      → IsOrdered l.first.role l.second.role notes (outcome_here list_mover pair me l act)
      → NamesOn l.first.role me l.first.at (history_now l) → NamesGoOn me l (outcome_here list_mover pair me l act).both
  here_on pair l notes (Plain event) order sound s k = plain_on l l.first.role event sound k
  here_on pair l notes (Moves meddles stop command) order sound s k =
      moved_on pair l notes meddles stop command (found_command list_mover pair me l command) order s k

-- from one side to the other
names_other : (variant : Variant) (meaning : Meaning) (key key' barrier : List ℕ) (y z : History)
    → Names (instance_by variant meaning key barrier) y z → Names (instance_by variant meaning key' barrier) y z
names_other variant meaning key key' barrier y z go c n =
    names_cross variant meaning key key' barrier z z.items c (go c (names_cross variant meaning key' key barrier y y.items c n))

both_on : (variant : Variant) (meaning : Meaning) (key key' barrier : List ℕ) (l m : BothSides History History)
    → (let i = instance_by variant meaning key barrier in let j = instance_by variant meaning key' barrier in
    NamesGoOn i l m → NamesOn l.second.role j l.second.at (history_now l) → NamesOnBoth i j m)
both_on variant meaning key key' barrier l m g other =
    let j = instance_by variant meaning key' barrier in (
      g.this,
      subst (λ (x : SideState History). NamesOn x.role j x.at (history_now m)) (sym g.second)
          (on_later l.second.role j l.second.at (history_now l) (history_now m)
          (names_other variant meaning key key' barrier (history_now l) (history_now m) g.now) other),
    )

turned_on : (i j : Instance) (l : BothSides History History) (notes : MoveNotes) → AreInOrder l.first.role l.second.role notes
    → NamesOnBoth i j l → NamesOnBoth j i (sides_swapped l)
turned_on i j l notes order k =
    let same = sym (turned_history l notes order) in (
      subst (λ y. NamesOn l.second.role j l.second.at y) same k.1,
      subst (λ y. NamesOn l.first.role i l.first.at y) same k.0,
    )

-- what the premise by a side's own history gives

genuine_offer : (i : Instance) (y z : History) (offered : Option (List ℕ)) → Names i y z → IsGenuineOffer i y offered
    → IsGenuineOffer i z offered
genuine_offer i y z None go h = tt
genuine_offer i y z (Some bytes) go h = λ c right. go c (h c right)

genuine_to : (role : Role) (i : Instance) (here now : History) (offered : Option (List ℕ)) → (is_live role ≡ true → now ≡ here)
    → NamesOn role i here now → IsGenuineTo role i here offered → IsGenuineTo role i now offered
genuine_to Live i here now offered same k h = subst (λ y. IsGenuineOffer i y offered) (sym (same refl)) h
genuine_to (Retired left) i here now offered same k h = genuine_offer i here now offered k h
genuine_to role i here now offered same k h = tt

genuine_here : (i : Instance) (l : BothSides History History) (act : BothAct) → NamesOn l.first.role i l.first.at (history_now l)
    → IsGenuineByOwn i l act → IsGenuineHere i l act
genuine_here i l (Plain event) k h = h
genuine_here i l (Moves meddles stop (Retire nonce offer)) k h =
    genuine_to l.first.role i l.first.at (history_now l) (offered_bytes l.first.issued offer) (live_history l) k h
genuine_here i l (Moves meddles stop (Invite nonce)) k h = tt
genuine_here i l (Moves meddles stop (Accept offer)) k h = tt

module _ (pair : Pair) where
  abbrev one : Instance
  one = instance_on pair First

  abbrev two : Instance
  two = instance_on pair Second

  -- What an event keeps, and that its offer is genuine.
  record GoesGenuine (l : BothSides History History) (which : SideName) (act : BothAct) : Type 0 where
    names : NamesOnBoth one two (both_outcome list_mover pair l (record { which = which; act = act })).both
    genuine : IsGenuineByOwn (instance_on pair which) (sides_seen_from which l) act
        → IsGenuineHere (instance_on pair which) (sides_seen_from which l) act

  event_on : (l : BothSides History History) (notes : MoveNotes) (which : SideName) (act : BothAct) → Issues one two l notes
      → NamesOnBoth one two l
      → (let o : BothOutcome History History = both_outcome list_mover pair l (record { which = which; act = act }) in
      IsNew notes o.effect → IsOursIn pair l.tickets notes act → GoesGenuine l which act)
  event_on l notes First act k names new ours =
      let s = here_ordered pair one l notes act k.order new ours in
      let g = here_on pair.variant pair.meaning pair.first_key pair.barrier pair l notes act k.order k.sound s names.0 in
      record {
        names = both_on pair.variant pair.meaning pair.first_key pair.second_key pair.barrier l
            (outcome_here list_mover pair one l act).both g names.1;
        genuine = genuine_here one l act names.0;
      }
  event_on l notes Second act k names new ours =
      let back = sides_swapped l in
      let turned = turned_issues pair.variant pair.meaning pair.first_key pair.second_key pair.barrier l notes k in
      let there = turned_on one two l notes k.order names in
      let s = here_ordered pair two back notes act turned.order new ours in
      let o : BothOutcome History History = outcome_here list_mover pair two back act in
      let g = here_on pair.variant pair.meaning pair.second_key pair.barrier pair back notes act turned.order turned.sound s there.0 in
      record {
        names = turned_on two one o.both (notes_with_effect_if o.effect notes) s.order
            (both_on pair.variant pair.meaning pair.second_key pair.first_key pair.barrier back o.both g there.1);
        genuine = genuine_here two back act there.0;
      }

  genuine_from : (events : List BothEvent) (l : BothSides History History) (notes : MoveNotes) → Issues one two l notes
      → NamesOnBoth one two l → AreFreshFrom pair l notes events → AreGenuineByOwnFrom pair l events → AreGenuineFrom pair l events
  genuine_from [] l notes k names fresh own = tt
  genuine_from (event ∷ events) l notes k names fresh own =
      let o : BothOutcome History History = both_outcome list_mover pair l event in
      let g = event_on l notes event.which event.act k names fresh.0 fresh.1 in (
        g.genuine own.0,
        genuine_from events o.both (notes_with_effect_if o.effect notes)
            (event_issues pair l notes event.which event.act k fresh.0 fresh.1) g.names fresh.2 own.1,
      )

pub own_premise_gives : OwnPremiseGivesPremise
own_premise_gives pair events fresh own =
    genuine_from pair events (first_both_by_lists pair) no_notes (first_issues pair) (tt, tt) fresh own

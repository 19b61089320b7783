-- The replies to the calls of both sides are those of one run. With it: the one history; at each
-- moment at most one side is live, and the module enters one only where none is, by its last
-- ticket.
use Rattle.mm_schedule.specs.Events as events
use Rattle.mm_schedule.specs.Replies.{IsBatchStep, IsStepWithoutBatch, IsRunStep, IsEventRun}
use Rattle.mm_schedule.specs.declared.reply.Reply.{Reply}
use Rattle.mm_schedule.specs.declared.reply.Reply.TheVariants.{Told as ToldReply, Kept}
use Rattle.mm_sides.proofs.Below.{◌≡◌, Bool, true, false, Option, Some, refl, sym, ap, ◌∙◌, History, Effect, Invites, Leaves, Enters}
use Rattle.mm_sides.proofs.Below.{MoveNotes, is_live, AreInOrder, BothSides, sides_swapped, list_mover, sides_after_effect_if, history_at}
use Rattle.mm_sides.proofs.Below.{history_now, ℕ, List, [], ◌∷◌, None, Result, subst, Meddle, Stop, Instance, StepFate, walk, course_of}
use Rattle.mm_sides.proofs.Below.{Role, no_notes, ModuleEntersByLast, SideName, First, Second, Pair, instance_on, first_both_by_lists}
use Rattle.mm_sides.proofs.Below.{MoveCommand, DenialCause, FoundMove, BothAct, Plain, Moves, BothEvent, BothOutcome, state_after_steps}
use Rattle.mm_sides.proofs.Below.{effect_of, move_steps, found_command, outcome_of_found_move, outcome_if_found, outcome_here, both_outcome}
use Rattle.mm_sides.proofs.Below.{notes_with_effect_if, IsNew, IsOursIn, AreFreshFrom, ModuleEntersAlone, IsOneLiveFrom, OneIsLive, ◌≤◌}
use Rattle.mm_sides.proofs.Below.{◌+◌, ◌++◌, length, arith, length-append, Batch, members_of, Meaning, Variant, Basic, Opt, requests_of}
use Rattle.mm_sides.proofs.Below.{Refusal, list_level, instance_by, Outcome, refusal_for_role, event_outcome, vain_event_outcome}
use Rattle.mm_sides.proofs.Below.{event_steps, Live, key_of, Accept, plain_outcome, unissued_reply, BothRunOutcome, both_outcome_of_events}
use Rattle.mm_sides.proofs.Below.{plain_events_in, plain_events, plain_reply, plain_replies, SidesRunAsOne}
use Rattle.mm_sides.proofs.Found.{IsFine, FitsIn, finding_fits, effect_fine, IsEnded, ended_told, affected_order, EntersSo, enters_so}
use Rattle.mm_sides.proofs.Found.{IsTold}
use Rattle.mm_sides.proofs.InOrder.{not_dead, invites_none, leaves_live, roles_are_one, roles_begin, roles_swap}
use Rattle.mm_sides.proofs.Outer.{IsAlike, in_vain, same_batches, brought_alike}

-- The one history: the sides exchanged have the same, and what an effect makes of it.

turned_at : (a b : Bool) (first second away : History) → (a ≡ true → b ≡ false)
    → history_at b a second first away ≡ history_at a b first second away
turned_at true true first second away one = not_dead (one refl)
turned_at false true first second away one = refl
turned_at _ _ first second away one = refl

pub turned_history : (l : BothSides History History) (notes : MoveNotes) → AreInOrder l.first.role l.second.role notes
    → history_now (sides_swapped l) ≡ history_now l
turned_history l notes h = turned_at (is_live l.first.role) (is_live l.second.role) l.first.at l.second.at l.away
    (roles_are_one l.first.role l.second.role notes h)

-- where the first side is live, and where none is
pub live_history : (l : BothSides History History) → is_live l.first.role ≡ true → history_now l ≡ l.first.at
live_history l live = ap (λ f. history_at f (is_live l.second.role) l.first.at l.second.at l.away) live

pub away_history : (l : BothSides History History) → is_live l.first.role ≡ false → is_live l.second.role ≡ false → history_now l ≡ l.away
away_history l gone left =
    ap (λ f. history_at f (is_live l.second.role) l.first.at l.second.at l.away) gone
    ∙ ap (λ f. history_at false f l.first.at l.second.at l.away) left

-- the first side stands elsewhere, with other items
pub alike_at : (a b : Bool) (y z second away : History) → IsAlike y z
    → IsAlike (history_at a b y second away) (history_at a b z second away)
alike_at true b y z second away alike = alike
alike_at false true y z second away alike = record { is = refl }
alike_at false false y z second away alike = record { is = refl }

-- A module that enters has the items of its side; no other effect changes the history.
abbrev pub then_history : BothSides History History → Option Effect → History
then_history l (Some (Enters ticket)) = record l.away { items = l.first.at.items }
then_history l effect = history_now l

pub affected_history : (l : BothSides History History) (notes : MoveNotes) (effect : Option Effect)
    → AreInOrder l.first.role l.second.role notes → IsFine l.first.role notes effect
    → history_now (sides_after_effect_if list_mover l effect) ≡ then_history l effect
affected_history l notes (Some (Invites nonce)) h fine =
    ap (λ f. history_at f (is_live l.second.role) l.first.at l.second.at l.away) (sym (invites_none l.first.role nonce fine.0))
affected_history l notes (Some (Leaves ticket)) h fine =
    let live : is_live l.first.role ≡ true = leaves_live l.first.role ticket fine.0 in
    ap (λ f. history_at false f l.first.at l.second.at l.first.at) (roles_are_one l.first.role l.second.role notes h live)
    ∙ sym (live_history l live)
affected_history l notes _ h fine = refl

-- At each moment at most one side is live, and the module enters one only where none is, by its last ticket.

-- an event on the first side keeps the order of the roles
pub record IsOrdered (this other : Role) (notes : MoveNotes) (o : BothOutcome History History) : Type 0 where
  pub order : AreInOrder o.both.first.role o.both.second.role (notes_with_effect_if o.effect notes)
  pub alone : EntersSo this other notes o.effect
  pub fine : IsFine this notes o.effect

moved_ordered : (pair : Pair) (i : Instance) (both : BothSides History History) (notes : MoveNotes) (meddles : List Meddle) (stop : Stop)
    (command : MoveCommand) (found : Option (Result FoundMove DenialCause)) → AreInOrder both.first.role both.second.role notes
    → FitsIn list_mover i both.first.at notes both.first.role found
    → IsNew notes (outcome_if_found list_mover pair i both meddles stop command
    found).effect → IsOrdered both.first.role both.second.role notes (outcome_if_found list_mover pair i both meddles stop command found)
moved_ordered pair i both notes meddles stop command None h may new = record { order = h; alone = tt; fine = tt }
moved_ordered pair i both notes meddles stop command (Some found) h may new =
    let fates : ℕ → StepFate = (course_of stop meddles).fates in
    let effect : Option Effect = effect_of fates found in
    let here : BothSides History History = record both
    { first = record both.first { at = state_after_steps list_mover i both.first.at meddles stop (move_steps found) } } in
    let o : BothOutcome History History = outcome_of_found_move list_mover pair i both meddles stop found in
    let ended : IsEnded list_mover pair i (sides_after_effect_if list_mover here effect) effect o =
    ended_told list_mover pair i (sides_after_effect_if list_mover here effect) stop (walk fates 1 (move_steps found)).broken found
    effect in
    let fine : IsFine both.first.role notes effect =
    effect_fine list_mover i both.first.at notes both.first.role fates found may (subst (IsNew notes) ended.effect_is new) in
    let order = affected_order list_mover here notes effect h fine in
    let back : effect ≡ o.effect = sym ended.effect_is in
    record {
      order = subst (λ (e : Option Effect). AreInOrder o.both.first.role o.both.second.role (notes_with_effect_if e notes)) back
          (subst (λ (r : Role). AreInOrder r o.both.second.role (notes_with_effect_if effect notes)) (sym ended.tells.role)
          (subst (λ (s : _). AreInOrder (sides_after_effect_if list_mover here effect).first.role s.role
          (notes_with_effect_if effect notes))
          (sym ended.tells.second) order));
      alone = subst (EntersSo both.first.role both.second.role notes) back (enters_so both.first.role both.second.role notes effect h fine);
      fine = subst (IsFine both.first.role notes) back fine;
    }

pub here_ordered : (pair : Pair) (i : Instance) (both : BothSides History History) (notes : MoveNotes) (act : BothAct)
    → AreInOrder both.first.role both.second.role notes
    → IsNew notes (outcome_here list_mover pair i both act).effect → IsOursIn pair both.tickets notes act
    → IsOrdered both.first.role both.second.role notes (outcome_here list_mover pair i both act)
here_ordered pair i both notes (Plain event) h new ours = record { order = h; alone = tt; fine = tt }
here_ordered pair i both notes (Moves meddles stop command) h new ours =
    moved_ordered pair i both notes meddles stop command (found_command list_mover pair i both command) h
    (finding_fits list_mover pair i notes both command ours) new

-- turned, where the second side is in front
swapped_last : (this other : Role) (notes : MoveNotes) (ticket : _) → ModuleEntersByLast this other notes ticket
    → ModuleEntersByLast other this notes ticket
swapped_last this other notes ticket h = record { not_here = h.not_there; not_there = h.not_here; last = h.last }

alone_first : (notes : MoveNotes) (both : BothSides History History) (effect : Option Effect)
    → EntersSo both.first.role both.second.role notes effect → ModuleEntersAlone notes both effect
alone_first notes both (Some (Enters ticket)) h = h
alone_first notes both effect h = tt

alone_second : (notes : MoveNotes) (both : BothSides History History) (effect : Option Effect)
    → EntersSo both.second.role both.first.role notes effect → ModuleEntersAlone notes both effect
alone_second notes both (Some (Enters ticket)) h = swapped_last both.second.role both.first.role notes ticket h
alone_second notes both effect h = tt

pub record IsNext (notes : MoveNotes) (both : BothSides History History) (o : BothOutcome History History) : Type 0 where
  pub order : AreInOrder o.both.first.role o.both.second.role (notes_with_effect_if o.effect notes)
  pub alone : ModuleEntersAlone notes both o.effect

pub event_ordered : (pair : Pair) (both : BothSides History History) (notes : MoveNotes) (which : SideName) (act : BothAct)
    → AreInOrder both.first.role both.second.role notes
    → (let o : BothOutcome History History = both_outcome list_mover pair both (record { which = which; act = act }) in
    IsNew notes o.effect → IsOursIn pair both.tickets notes act → IsNext notes both o)
event_ordered pair both notes First act h new ours =
    let o = outcome_here list_mover pair (instance_on pair First) both act in
    let s = here_ordered pair (instance_on pair First) both notes act h new ours in
    record { order = s.order; alone = alone_first notes both o.effect s.alone }
event_ordered pair both notes Second act h new ours =
    let o = outcome_here list_mover pair (instance_on pair Second) (sides_swapped both) act in
    let s = here_ordered pair (instance_on pair Second) (sides_swapped both) notes act
    (roles_swap both.first.role both.second.role notes h) new ours in
    record {
      order = roles_swap o.both.first.role o.both.second.role (notes_with_effect_if o.effect notes) s.order;
      alone = alone_second notes both o.effect s.alone;
    }

one_from : (pair : Pair) (events : List BothEvent) (both : BothSides History History) (notes : MoveNotes)
    → AreInOrder both.first.role both.second.role notes → AreFreshFrom pair both notes events → IsOneLiveFrom pair both notes events
one_from pair [] both notes h fresh = roles_are_one both.first.role both.second.role notes h
one_from pair (event ∷ events) both notes h fresh =
    let o : BothOutcome History History = both_outcome list_mover pair both event in
    let next = event_ordered pair both notes event.which event.act h fresh.0 fresh.1 in (
      roles_are_one both.first.role both.second.role notes h,
      next.alone,
      one_from pair events o.both (notes_with_effect_if o.effect notes) next.order fresh.2,
    )

pub one_is_live : OneIsLive
one_is_live pair events fresh = one_from pair events (first_both_by_lists pair) no_notes roles_begin fresh

-- The replies to the calls of both sides are those of one run.

-- a step runs no request backwards

on_longer : (meaning : Meaning) (r s : List (List ℕ)) (b : Batch) (reply : Reply) → IsBatchStep meaning r b reply s → length r ≤ length s
on_longer meaning r s b (ToldReply true position outputs) h = omega (arith, ap length h.2)
on_longer meaning r s b (ToldReply false position outputs) h = omega (arith, ap length h.grown, length-append r (members_of b))
on_longer meaning r s b (Kept way position) h = omega (arith, ap length h.0, length-append r (members_of b))
on_longer meaning r s b reply h = omega (arith, ap length h)

none_longer : (r s : List (List ℕ)) (reply : Reply) → IsStepWithoutBatch r reply s → length r ≤ length s
none_longer r s (ToldReply again position outputs) h = absurd h
none_longer r s (Kept way position) h = absurd h
none_longer r s reply h = omega (arith, ap length h)

longer : (meaning : Meaning) (event : events.Event) (reply : Reply) (r s : List (List ℕ)) → IsRunStep meaning r event reply s
    → length r ≤ length s
longer meaning (events.Ask meddles stop offer b) reply r s h = on_longer meaning r s b reply h
longer meaning event reply r s h = none_longer r s reply h

-- runs one after another

runs_on : (meaning : Meaning) (es fs : List events.Event) (rs ss : List Reply) (a b c : List (List ℕ)) → IsEventRun meaning a es rs b
    → IsEventRun meaning b fs ss c → IsEventRun meaning a (es ++ fs) (rs ++ ss) c
runs_on meaning [] fs [] ss a b c h k = subst (λ v. IsEventRun meaning v fs ss c) h k
runs_on meaning [] fs (r ∷ rs) ss a b c h k = absurd h
runs_on meaning (e ∷ es) fs [] ss a b c h k = absurd h
runs_on meaning (e ∷ es) fs (r ∷ rs) ss a b c h k = (h.0, h.1, runs_on meaning es fs rs ss h.0 b c h.2 k)

-- one event

abbrev requests_now : BothSides History History → List (List ℕ)
requests_now both = requests_of (history_now both).batches

-- The event and its reply are a run, of one event of a schedule or of none; and the count of requests goes along.
record IsRunHere (meaning : Meaning) (both : BothSides History History) (act : BothAct) (o : BothOutcome History History) : Type 0 where
  runs : IsEventRun meaning (requests_now both) (plain_events_in act) (plain_reply o.reply) (requests_now o.both)
  count : both.committed ≡ length (requests_now both) → o.both.committed ≡ length (requests_now o.both)

still : (n m : ℕ) → n ≡ m → n + 0 ≡ m
still n m e = omega (arith, e)

-- an event of a schedule
module _ (i : Instance) (l : BothSides History History) where
  abbrev standing : Role → BothSides History History
  standing role = record l { first = record l.first { role = role } }

  vain_run : (role : Role) (why : Refusal) (event : events.Event)
      → (let o : Outcome History = vain_event_outcome (list_level i) l.first.at l.first.issued why event in
      let now : List (List ℕ) = requests_of (history_at (is_live role) (is_live l.second.role) l.first.at l.second.at l.away).batches in
      let then_now : List (List ℕ) = requests_of (history_at (is_live role) (is_live l.second.role) o.state l.second.at l.away).batches in
      IsEventRun i.meaning now (event ∷ []) (o.reply ∷ []) then_now × (then_now ≡ now))
  vain_run role why event =
      let o : Outcome History = vain_event_outcome (list_level i) l.first.at l.first.issued why event in
      let v = in_vain i l.first.at l.first.issued why event in
      let now : History → History = λ y. history_at (is_live role) (is_live l.second.role) y l.second.at l.away in
      let r : List (List ℕ) = requests_of (now l.first.at).batches in
      let same : requests_of (now o.state).batches ≡ r = ap requests_of (same_batches (now l.first.at) (now o.state)
      (alike_at (is_live role) (is_live l.second.role) l.first.at o.state l.second.at l.away v.alike)) in
      ((r, v.steps r, same), same)

  plain_run : (role : Role) (event : events.Event)
      → IsRunHere i.meaning (standing role) (Plain event) (plain_outcome list_mover i (standing role) event)
  plain_run Live event =
      let o : Outcome History = event_outcome i (list_level i) l.first.at l.first.issued event in
      let steps = event_steps i l.first.at l.first.issued event in
      let more = longer i.meaning event o.reply (requests_of l.first.at.batches) (requests_of o.state.batches) steps in
      record { runs = (requests_of o.state.batches, steps, refl); count = λ e. omega (arith, e, more) }
  plain_run role event =
      let r = vain_run role (refusal_for_role role) event in
      record { runs = r.0; count = λ e. still l.committed _ (e ∙ ap length (sym r.1)) }

-- a move changes nothing of the history

then_requests : (both : BothSides History History) (notes : MoveNotes) (effect : Option Effect)
    → EntersSo both.first.role both.second.role notes effect → requests_of (then_history both effect).batches ≡ requests_now both
then_requests both notes (Some (Enters ticket)) alone =
    ap (λ (y : History). requests_of y.batches) (sym (away_history both alone.not_here alone.not_there))
then_requests both notes _ alone = refl

told_now : (both after : BothSides History History) → IsTold both after → requests_now after ≡ requests_now both
told_now both after t = λ j.
    requests_of (history_at (is_live (t.role j)) (is_live (t.second j).role) (t.at j) (t.second j).at (t.away j)).batches

affected_count : (both : BothSides History History) (effect : Option Effect) → (sides_after_effect_if list_mover both effect).committed
    ≡ both.committed
affected_count both (Some (Invites nonce)) = refl
affected_count both _ = refl

unissued_none : (command : MoveCommand) → plain_reply (unissued_reply command) ≡ []
unissued_none (Accept offer) = refl
unissued_none command = refl

-- nothing is told, and the requests are the same
silent : (meaning : Meaning) (replies : List Reply) (r s : List (List ℕ)) → replies ≡ [] → s ≡ r → IsEventRun meaning r [] replies s
silent meaning [] r s n e = e
silent meaning (reply ∷ replies) r s n e = cc

moved_run : (pair : Pair) (i : Instance) (both : BothSides History History) (notes : MoveNotes) (meddles : List Meddle) (stop : Stop)
    (command : MoveCommand) (found : Option (Result FoundMove DenialCause)) → AreInOrder both.first.role both.second.role notes
    → IsOrdered both.first.role both.second.role notes (outcome_if_found list_mover pair i both meddles stop command found)
    → IsRunHere i.meaning both (Moves meddles stop command) (outcome_if_found list_mover pair i both meddles stop command found)
moved_run pair i both notes meddles stop command None h s = record {
  runs = silent i.meaning (plain_reply (unissued_reply command)) (requests_now both) (requests_now both) (unissued_none command) refl;
  count = λ e. e;
}
moved_run pair i both notes meddles stop command (Some found) h s =
    let fates : ℕ → StepFate = (course_of stop meddles).fates in
    let effect : Option Effect = effect_of fates found in
    let at : History = state_after_steps list_mover i both.first.at meddles stop (move_steps found) in
    let here : BothSides History History = record both { first = record both.first { at = at } } in
    let o : BothOutcome History History = outcome_of_found_move list_mover pair i both meddles stop found in
    let ended : IsEnded list_mover pair i (sides_after_effect_if list_mover here effect) effect o =
    ended_told list_mover pair i (sides_after_effect_if list_mover here effect) stop (walk fates 1 (move_steps found)).broken found
    effect in
    let alike : IsAlike (history_now both) (history_now here) = alike_at (is_live both.first.role)
    (is_live both.second.role) both.first.at at
    both.second.at both.away (brought_alike i both.first.at meddles stop found) in
    let same : requests_now o.both ≡ requests_now both = told_now (sides_after_effect_if list_mover here effect) o.both ended.tells
    ∙ ap (λ (y : History). requests_of y.batches)
    (affected_history here notes effect h (subst (IsFine both.first.role notes) ended.effect_is s.fine))
    ∙ then_requests here notes effect (subst (EntersSo both.first.role both.second.role notes) ended.effect_is s.alone)
    ∙ ap requests_of (same_batches (history_now both) (history_now here) alike) in
    record {
      runs = silent i.meaning (plain_reply o.reply) (requests_now both) (requests_now o.both) ended.none same;
      count = λ e. ended.tells.committed ∙ affected_count here effect ∙ e ∙ ap length (sym same);
    }

here_run : (pair : Pair) (i : Instance) (both : BothSides History History) (notes : MoveNotes) (act : BothAct)
    → AreInOrder both.first.role both.second.role notes
    → IsOrdered both.first.role both.second.role notes (outcome_here list_mover pair i both act)
    → IsRunHere i.meaning both act (outcome_here list_mover pair i both act)
here_run pair i both notes (Plain event) h s =
    plain_run i both both.first.role event
here_run pair i both notes (Moves meddles stop command) h s =
    moved_run pair i both notes meddles stop command (found_command list_mover pair i both command) h s

-- turned

turned_now : (both : BothSides History History) (notes : MoveNotes) → AreInOrder both.first.role both.second.role notes
    → requests_now (sides_swapped both) ≡ requests_now both
turned_now both notes h = ap (λ (y : History). requests_of y.batches) (turned_history both notes h)

pub same_meaning : (variant : Variant) (meaning : Meaning) (key barrier : List ℕ)
    → (instance_by variant meaning key barrier).meaning ≡ meaning
same_meaning Basic meaning key barrier = refl
same_meaning Opt meaning key barrier = refl

meaning_on : (pair : Pair) (which : SideName) → (instance_on pair which).meaning ≡ pair.meaning
meaning_on pair which = same_meaning pair.variant pair.meaning (key_of pair which) pair.barrier

event_run : (pair : Pair) (both : BothSides History History) (notes : MoveNotes) (which : SideName) (act : BothAct)
    → AreInOrder both.first.role both.second.role notes
    → (let o : BothOutcome History History = both_outcome list_mover pair both (record { which = which; act = act }) in
    IsNew notes o.effect → IsOursIn pair both.tickets notes act → IsRunHere pair.meaning both act o)
event_run pair both notes First act h new ours =
    let i : Instance = instance_on pair First in
    let s = here_ordered pair i both notes act h new ours in
    subst (λ m. IsRunHere m both act (outcome_here list_mover pair i both act)) (meaning_on pair First) (here_run pair i both notes act h s)
event_run pair both notes Second act h new ours =
    let i : Instance = instance_on pair Second in
    let k = roles_swap both.first.role both.second.role notes h in
    let s = here_ordered pair i (sides_swapped both) notes act k new ours in
    let o : BothOutcome History History = outcome_here list_mover pair i (sides_swapped both) act in
    let r : IsRunHere pair.meaning (sides_swapped both) act o =
    subst (λ m. IsRunHere m (sides_swapped both) act o) (meaning_on pair Second) (here_run pair i (sides_swapped both) notes act k s) in
    let before : requests_now (sides_swapped both) ≡ requests_now both = turned_now both notes h in
    let after : requests_now (sides_swapped o.both) ≡ requests_now o.both = turned_now o.both _ s.order in
    record {
      runs = subst (λ v. IsEventRun pair.meaning v (plain_events_in act) (plain_reply o.reply) (requests_now (sides_swapped o.both))) before
          (subst (λ v. IsEventRun pair.meaning (requests_now (sides_swapped both)) (plain_events_in act) (plain_reply o.reply) v)
          (sym after) r.runs);
      count = λ e. r.count (e ∙ ap length (sym before)) ∙ ap length (sym after);
    }

run_from : (pair : Pair) (events : List BothEvent) (both : BothSides History History) (notes : MoveNotes)
    → AreInOrder both.first.role both.second.role notes → AreFreshFrom pair both notes events → both.committed ≡ length (requests_now both)
    → (let f : BothRunOutcome History History = both_outcome_of_events list_mover pair both events in
    IsEventRun pair.meaning (requests_now both) (plain_events events) (plain_replies f.replies) (requests_now f.both)
    × (f.both.committed ≡ length (requests_now f.both)))
run_from pair [] both notes h fresh e = (refl, e)
run_from pair (event ∷ events) both notes h fresh e =
    let o : BothOutcome History History = both_outcome list_mover pair both event in
    let next = event_ordered pair both notes event.which event.act h fresh.0 fresh.1 in
    let r = event_run pair both notes event.which event.act h fresh.0 fresh.1 in
    let rest = run_from pair events o.both (notes_with_effect_if o.effect notes) next.order fresh.2 (r.count e) in (
      runs_on pair.meaning (plain_events_in event.act) (plain_events events) (plain_reply o.reply) _ (requests_now both)
          (requests_now o.both) _ r.runs rest.0,
      rest.1,
    )

pub sides_run : SidesRunAsOne
sides_run pair events fresh =
    let r = run_from pair events (first_both_by_lists pair) no_notes roles_begin fresh refl in record { runs = r.0; count = r.1 }

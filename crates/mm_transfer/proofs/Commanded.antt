-- A command on a side comes to what it comes to by digests. With it: which effect a move had, by
-- how it was stopped.
use Rattle.mm_model.specs.declared.refusal.Refusal.TheVariants as core
use Rattle.mm_move.specs.declared.refusal.MoveRefusal.TheVariants as refusal
use Rattle.mm_transfer.specs.declared.reply.MoveReply.TheVariants as reply
use Rattle.mm_transfer.proofs.Below.{◌≡◌, ℕ, Bool, true, false, List, [], Option, None, Some, Result, Ok, Err, refl, sym, ap, ◌∙◌, ◌==◌}
use Rattle.mm_transfer.proofs.Below.{◌&&◌, is_some, if◌then◌else◌, StepFault, Meddle, Stop, fault_at, is_made_at, Reads, End, Done, Fails}
use Rattle.mm_transfer.proofs.Below.{walk, walk_from_step, end_of, course_of, takes_effect, stopped_at, Effect, DenialCause, FoundMove}
use Rattle.mm_transfer.proofs.Below.{move_steps, is_moved, effect_if, effect_of, has_effect_at, ◌≤◌, ◌+◌, not, length, subst, arith}
use Rattle.mm_transfer.proofs.Below.{MatchResult, sum_by, Memory, Standing, Instance, Digests, way_of, offered_bytes, Offer, Link}
use Rattle.mm_transfer.proofs.Below.{ReadyMove, MoveRefusal, Role, SideName, Pair, instance_on, SideState, BothSides, digest_mover}
use Rattle.mm_transfer.proofs.Below.{MoveCommand, Denied, state_after_steps, sides_after_effect_if, found_command, outcome_if_found}
use Rattle.mm_transfer.proofs.Below.{move_end_outcome, role_after, IssuedTickets, MoveReply, CodeSide, TellsRefusalAs, both_with}
use Rattle.mm_transfer.proofs.Below.{command_reach, outcome_of_command, FitsIssuedTickets, CommandDone, CommandLacks, has_moved, role_in}
use Rattle.mm_transfer.proofs.Below.{at_in, within_64, FitsSide, MovesByPlan, move_reply_of, refusal_of}
use Rattle.mm_transfer.proofs.Commanding.{said_cause, never_moved, CameAs, Knows, KnowsOf, Came, role_then, at_then, away_then, both_of}
use Rattle.mm_transfer.proofs.Commanding.{affected_is, within_then, FitsThen, brought_then, side_then}
use Rattle.mm_transfer.proofs.SideStands.{KeepsFor}

-- Which effect a move had, by how it was stopped.

-- which effect a move had, by how it was stopped

fail_first : (stop : Stop) (fault : StepFault) (made : Bool) → end_of (fault_at stop 1) (is_made_at stop 1) ≡ Fails fault made
    → false ≡ has_effect_at stop
fail_first stop fault made e = sym (ap (λ n. (n == 2) && takes_effect stop) (stopped_at stop 1 fault made e).number)

fail_second : (stop : Stop) (fault : StepFault) (made : Bool) → end_of (fault_at stop 2) (is_made_at stop 2) ≡ Fails fault made
    → made ≡ has_effect_at stop
fail_second stop fault made e =
    let at = stopped_at stop 2 fault made e in at.effect ∙ sym (ap (λ n. (n == 2) && takes_effect stop) at.number)

-- the effect of what was found, if it is made
abbrev pub made_if : Bool → Result FoundMove DenialCause → Option Effect
made_if moved (Ok found) = if found.again then None else effect_if moved found.effect
made_if moved (Err cause) = None

-- A whole move has its effect; one that is broken off has it as its stop says, and is told so.
abbrev pub MovedBy : Stop → Option StepFault → Result FoundMove DenialCause → Option Effect → Type 0
MovedBy stop None found effect = effect ≡ made_if true found
MovedBy stop (Some fault) found effect = (effect ≡ made_if (has_effect_at stop) found) × (is_some effect ≡ has_effect_at stop)

one_moved : (stop : Stop) (values : List (List ℕ)) (e other : End) (found : Result FoundMove DenialCause)
    → end_of (fault_at stop 1) (is_made_at stop 1) ≡ e → ((moved : Bool) → made_if moved found ≡ None)
    → MovedBy stop (walk_from_step Reads values e (record { moves = []; steps = 0; writes = 0; broken = None })).broken found None
one_moved stop values Done other found e none = sym (none true)
one_moved stop values (Fails fault made) other found e none = (sym (none (has_effect_at stop)), fail_first stop fault made e)

two_moved : (stop : Stop) (v w : List (List ℕ)) (e f : End) (effect : Effect) → end_of (fault_at stop 1) (is_made_at stop 1) ≡ e
    → end_of (fault_at stop 2) (is_made_at stop 2) ≡ f
    → MovedBy stop (walk_from_step Reads v e
    (walk_from_step Reads w f (record { moves = []; steps = 0; writes = 0; broken = None }))).broken
    (Ok (record { again = false; effect = effect })) (effect_if (is_moved e f) effect)
two_moved stop v w Done Done effect e f = refl
two_moved stop v w Done (Fails fault made) effect e f =
    let is : made ≡ has_effect_at stop = fail_second stop fault made f in (ap (λ b. effect_if b effect) is, some_if made effect ∙ is)
  where
    some_if : (moved : Bool) (effect : Effect) → is_some (effect_if moved effect) ≡ moved
    some_if true effect = refl
    some_if false effect = refl
two_moved stop v w (Fails fault made) other effect e f =
    let is : false ≡ has_effect_at stop = fail_first stop fault made e in (ap (λ b. effect_if b effect) is, is)

pub moved_by : (stop : Stop) (meddles : List Meddle) (found : Result FoundMove DenialCause)
    → MovedBy stop (walk (course_of stop meddles).fates 1 (move_steps found)).broken found (effect_of (course_of stop meddles).fates found)
moved_by stop meddles (Err cause) = one_moved stop _ (end_of (fault_at stop 1) (is_made_at stop 1)) Done (Err cause) refl (λ moved. refl)
moved_by stop meddles (Ok found) = moved_found found.again found.effect
  where
    moved_found : (again : Bool) (effect : Effect)
        → (let found : Result FoundMove DenialCause = Ok (record { again = again; effect = effect }) in
        MovedBy stop (walk (course_of stop meddles).fates 1 (move_steps found)).broken found
        (effect_of (course_of stop meddles).fates found))
    moved_found true effect =
        one_moved stop _ (end_of (fault_at stop 1) (is_made_at stop 1)) Done (Ok (record { again = true; effect = effect })) refl
        (λ moved. refl)
    moved_found false effect =
        two_moved stop _ _ (end_of (fault_at stop 1) (is_made_at stop 1)) (end_of (fault_at stop 2) (is_made_at stop 2)) effect refl refl

-- A command on a side comes to what it comes to by digests: what is common to all commands.

-- the effect that was made, whether the move was whole or broken off

record IsMade (found : Result FoundMove DenialCause) (effect : Option Effect) : Type 0 where
  moved : Bool
  is : effect ≡ made_if moved found

made_as : (stop : Stop) (broken : Option StepFault) (found : Result FoundMove DenialCause) (effect : Option Effect)
    → MovedBy stop broken found effect → IsMade found effect
made_as stop None found effect e = record { moved = true; is = e }
made_as stop (Some fault) found effect e = record { moved = has_effect_at stop; is = e.0 }

-- what holds where a move has no effect, and of the effect that was found, holds of the effect that it had
pub by_known : {A : Type 0} (gives : FoundMove → A → Type 0) (role : Role) (d : Digests) (P : Option Effect → Type 0) (moved : Bool)
    (found : Result FoundMove DenialCause) → KnowsOf gives role d found → P None
    → ((it : FoundMove) → Knows gives role d it → P (Some it.effect)) → P (made_if moved found)
by_known gives role d P moved (Err cause) k none some = none
by_known gives role d P moved (Ok found) k none some = by_again found.again moved
  where
    by_again : (again moved : Bool) → P (if again then None else effect_if moved found.effect)
    by_again true moved = none
    by_again false true = some found k
    by_again false false = none

-- what the code takes for a count, where it tests whether the move is a new one and has its effect

abbrev pub IsIdle : Bool → Result FoundMove DenialCause → Type 0
IsIdle moved (Err cause) = moved ≡ false
IsIdle moved (Ok found) = Unit {0}

pub chosen : {A : Type 0} (gives : FoundMove → A → Type 0) (role : Role) (d : Digests) (moving moved : Bool) (new old : ℕ)
    (value : Option Effect → ℕ) (found : Result FoundMove DenialCause) → KnowsOf gives role d found → IsIdle moved found → value None ≡ old
    → ((it : FoundMove) → Knows gives role d it → (moving ≡ not it.again) × (value (Some it.effect) ≡ new))
    → (if moving && moved then new else old) ≡ value (made_if moved found)
chosen gives role d moving moved new old value (Err cause) k idle none some =
    ap (λ b. if moving && b then new else old) idle ∙ never moving ∙ sym none
  where
    never : (moving : Bool) → (if moving && false then new else old) ≡ old
    never true = refl
    never false = refl
chosen gives role d moving moved new old value (Ok found) k idle none some =
    let s = some found k in by_again moving found.again moved s.0 s.1
  where
    by_again : (moving again moved : Bool) → moving ≡ not again → value (Some found.effect) ≡ new
        → (if moving && moved then new else old) ≡ value (if again then None else effect_if moved found.effect)
    by_again true true moved is e = cc
    by_again true false true is e = sym e
    by_again true false false is e = sym none
    by_again false true moved is e = sym none
    by_again false false moved is e = cc

pub whole : (moving : Bool) (new old : ℕ) → (if moving then new else old) ≡ (if moving && true then new else old)
whole true new old = refl
whole false new old = refl

-- what a move is told as that was refused, or broken off

pub record Refuses (pair : Pair) (i : Instance) (stop : Stop) (broken : Option StepFault) (found : Result FoundMove DenialCause)
    (effect : Option Effect) (why : MoveRefusal) : Type 0 where
  pub said : MoveReply
  pub is : (result : Result MoveReply Memory) → TellsRefusalAs stop why result → result ≡ Ok said
  pub says : (both : BothSides Digests ℕ) → said ≡ move_reply_of (move_end_outcome digest_mover pair i both stop broken found effect).reply
  pub both : (both : BothSides Digests ℕ) → (move_end_outcome digest_mover pair i both stop broken found effect).both ≡ both
  pub made : effect ≡ made_if (has_moved stop why) found
  pub idle : IsIdle (has_moved stop why) found

idle_broken : (moved : Bool) (found : Result FoundMove DenialCause) (effect : Option Effect) → effect ≡ made_if moved found
    → is_some effect ≡ moved → IsIdle moved found
idle_broken moved (Err cause) effect e some = sym some ∙ ap is_some e
idle_broken moved (Ok found) effect e some = tt

-- a move was refused or broken off, or gives its answer
pub tell : {A : Type 0} (gives : FoundMove → A → Type 0) (pair : Pair) (i : Instance) (role : Role) (d : Digests) (stop : Stop)
    (broken : Option StepFault) (found : Result FoundMove DenialCause) (effect : Option Effect) (came : Result A MoveRefusal)
    (P : Option StepFault → Result FoundMove DenialCause → Option Effect → Type 0) → CameAs gives broken found came
    → MovedBy stop broken found effect → KnowsOf gives role d found
    → ((why : MoveRefusal) → came ≡ Err why → Refuses pair i stop broken found effect why → P broken found effect)
    → ((it : FoundMove) (answer : A) → came ≡ Ok answer → gives it answer → Knows gives role d it → P None (Ok it) (made_if true (Ok it)))
    → P broken found effect
tell gives pair i role d stop (Some fault) found effect came P says moved knows refuse give =
    refuse (refusal.Core (core.Device fault)) says (record {
      said = reply.Broken (way_of stop) (has_effect_at stop);
      is = λ result told. told;
      says = λ both. ap (λ b. reply.Broken (way_of stop) b) (sym moved.1);
      both = λ both. refl;
      made = moved.0;
      idle = idle_broken (has_effect_at stop) found effect moved.0 moved.1;
    })
tell gives pair i role d stop None (Err cause) effect came P says moved knows refuse give = refuse (refusal_of cause) says (record {
  said = move_reply_of (Denied cause);
  is = λ result told. said_cause stop cause result knows told;
  says = λ both. refl;
  both = λ both. refl;
  made = moved;
  idle = never_moved stop cause knows;
})
tell gives pair i role d stop None (Ok found) effect came P says moved knows refuse give =
    subst (P None (Ok found)) (sym moved) (give found says.0 says.1 says.2 knows)

-- What is told of a command that had this effect, and what it leaves.
pub record Told (pair : Pair) (i : Instance) (stop : Stop) (broken : Option StepFault) (found : Result FoundMove DenialCause)
    (effect : Option Effect) (result : Result MoveReply Memory) (old new : CodeSide) (was now : IssuedTickets) (d : Digests) : Type 0 where
  pub said : MoveReply
  pub is : result ≡ Ok said
  pub ends : (both : BothSides Digests ℕ) → both.first.at.digest ≡ (at_then was.away d effect).digest → both.first.issued
      ≡ old.seat.issued.items
      → both.tickets ≡ was.tickets.items → (let o = move_end_outcome digest_mover pair i both stop broken found effect in
      (said ≡ move_reply_of o.reply)
      × (o.both ≡ record both { first = record both.first { issued = new.seat.issued.items }; tickets = now.tickets.items }))
  pub position : new.seat.committed ≡ (at_then was.away d effect).count
  pub away : now.away ≡ away_then was.away d effect
  pub between : FitsIssuedTickets now
  pub issued : length new.seat.issued.items ≤ length old.seat.issued.items + 1
  pub tickets : length now.tickets.items ≤ length was.tickets.items + 1

-- nothing was handed out
pub told_still : (pair : Pair) (i : Instance) (stop : Stop) (broken : Option StepFault) (found : Result FoundMove DenialCause)
    (effect : Option Effect) (why : MoveRefusal) (result : Result MoveReply Memory) (old new : CodeSide)
    (was now : IssuedTickets) (d : Digests)
    → Refuses pair i stop broken found effect why → TellsRefusalAs stop why result → new.seat.issued.items ≡ old.seat.issued.items
    → now.tickets.items ≡ was.tickets.items → now.kept ≡ was.kept → FitsIssuedTickets was
    → (let made = made_if (has_moved stop why) found in
    new.seat.committed ≡ (at_then was.away d made).count
    → now.away ≡ away_then was.away d made → Told pair i stop broken found effect result old new was now d)
told_still pair i stop broken found effect why result old new was now d r told issued tickets counted fits position away = record {
  said = r.said;
  is = r.is result told;
  ends = λ both digest own all. (
    r.says both,
    r.both both ∙ (λ j. record both {
      first = record both.first { issued = (own ∙ sym issued) j };
      tickets = (all ∙ sym tickets) j;
    }),
  );
  position = position ∙ ap (λ e. (at_then was.away d e).count) (sym r.made);
  away = away ∙ ap (away_then was.away d) (sym r.made);
  between = subst (λ (x : List (List ℕ)). now.kept ≡ within_64 (sum_by length x)) (sym tickets) (counted ∙ fits);
  issued = omega (arith, ap length issued);
  tickets = omega (arith, ap length tickets);
}

-- a command with its move made
pub move_done : {A : Type 0} (gives : FoundMove → A → Type 0) (pair : Pair) (which : SideName) (stop : Stop) (meddles : List Meddle)
    (command : MoveCommand) (found : Result FoundMove DenialCause) (old new : CodeSide) (was now : IssuedTickets)
    (came : Result A MoveRefusal)
    (result : Result MoveReply Memory) → FitsSide pair which old → (let i = instance_on pair which in
    let role = role_in old.seat.platform.cell in
    let d = at_in old in
    let fates = (course_of stop meddles).fates in
    Came gives i role d stop meddles found new.seat.platform came
    → Told pair i stop (walk fates 1 (move_steps found)).broken found (effect_of fates found) result old new was now d
    → KeepsFor role new.digest.bytes d
    → ((it : FoundMove) → Knows gives role d it → KeepsFor (role_after it.effect) new.digest.bytes (at_then was.away d (Some it.effect)))
    → ((other : SideState Digests) (committed : ℕ) → found_command digest_mover pair i (both_with old was other committed) command
    ≡ Some found)
    → MatchResult result (CommandDone pair which (command_reach old was) (command_reach new now)
    (outcome_of_command pair which (command_reach old was) meddles stop command))
    (λ _. CommandLacks pair which meddles stop (command_reach old was) (command_reach new now)))
move_done gives pair which stop meddles command found old new was now came result fits c t keeps next finds =
    let i = instance_on pair which in
    let role = role_in old.seat.platform.cell in
    let d = at_in old in
    let effect = effect_of (course_of stop meddles).fates found in
    let m = made_as stop _ found effect (moved_by stop meddles found) in
    let then_fits = subst (FitsThen d) (sym m.is) (by_known gives role d (FitsThen d) m.moved found c.knows tt (λ it k. k.fits)) in
    let K : Option Effect → Type 0 = λ e. KeepsFor (role_then role e) new.digest.bytes (at_then was.away d e) in
    let then_keeps = subst K (sym m.is) (by_known gives role d K m.moved found c.knows keeps next) in
    let s = side_then gives pair which role d stop meddles found new came was.away c fits.stands.fits then_fits t.position then_keeps in
    let brought = state_after_steps digest_mover i d meddles stop (move_steps found) in
    let b = brought_then i d stop meddles found was.away effect in
    let gone = t.away ∙ b.away_is in
    let is = λ (other : SideState Digests) (committed : ℕ).
    affected_is role brought old.seat.issued.items was.tickets.items other was.away committed effect in
    let ends = λ (other : SideState Digests) (committed : ℕ).
    t.ends (sides_after_effect_if digest_mover (both_of role brought old.seat.issued.items was.tickets.items other was.away committed)
    effect)
    (ap (λ (x : BothSides Digests ℕ). x.first.at.digest) (is other committed) ∙ b.digest)
    (ap (λ (x : BothSides Digests ℕ). x.first.issued) (is other committed))
    (ap (λ (x : BothSides Digests ℕ). x.tickets) (is other committed)) in
    ok_match _ _ result t.said t.is (record {
      fits = s.fits;
      between = t.between;
      both = λ other committed.
          (λ j. both_of (s.role_is j) (s.at_is j) new.seat.issued.items now.tickets.items other (gone j) committed)
          ∙ ap (λ (x : BothSides Digests ℕ). record x {
            first = record x.first { issued = new.seat.issued.items };
            tickets =
                now.tickets.items;
          })
          (sym (is other committed)) ∙ sym (ends other committed).1
          ∙ sym (ap (λ x. (outcome_if_found digest_mover pair i (both_with old was other committed) meddles stop command x).both)
          (finds other committed));
      says = λ other committed. (ends other committed).0
          ∙ sym (ap (λ x. move_reply_of (outcome_if_found digest_mover pair i (both_with old was other committed) meddles stop
          command x).reply)
          (finds other committed));
      issued = t.issued;
      tickets = t.tickets;
      counts = λ most p q.
          let n = within_then d was.away most effect p q in (omega (arith, t.position, n.0), omega (arith, t.away, n.1));
    })
  where
    ok_match : (P : MoveReply → Type 0) (Q : Type 0) (result : Result MoveReply Memory) (said : MoveReply) → result ≡ Ok said → P said
        → MatchResult result P (λ _. Q)
    ok_match P Q result said e p = subst (λ (r : Result MoveReply Memory). MatchResult r P (λ _. Q)) (sym e) p

-- a move with what an offer names

pub record Named {A : Type 0} (finds : List ℕ → List ℕ → Result (ReadyMove A) MoveRefusal) (stop : Stop) (meddles : List Meddle)
    (offered : Option (List ℕ)) (old new : Standing) (came : Result A MoveRefusal) : Type 0 where
  pub bytes : List ℕ
  pub names : offered ≡ Some bytes
  pub planned : MovesByPlan (finds bytes) stop meddles old new came

-- by the list that was lent, and under the link
module _ (xs lent : List (List ℕ)) (offer : Offer) (same : lent ≡ xs) where
  -- the offer named nothing
  pub nothing_named : None ≡ offered_bytes lent offer → offered_bytes xs offer ≡ None
  nothing_named none = sym (none ∙ ap (λ (l : List (List ℕ)). offered_bytes l offer) same)

  -- and what it named
  pub named_by : {A : Type 0} (finds : Link → List ℕ → List ℕ → Result (ReadyMove A) MoveRefusal) (stop : Stop) (meddles : List Meddle)
      (old new : Standing) (came : Result A MoveRefusal) (called link : Link) (bytes : List ℕ) → called ≡ link
      → Some bytes ≡ offered_bytes lent offer → MovesByPlan (finds called bytes) stop meddles old new came
      → Named (finds link) stop meddles (offered_bytes xs offer) old new came
  named_by finds stop meddles old new came called link bytes is names planned = record {
    bytes = bytes;
    names = sym (names ∙ ap (λ (l : List (List ℕ)). offered_bytes l offer) same);
    planned = subst (λ (l : Link). MovesByPlan (finds l bytes) stop meddles old new came) is planned;
  }

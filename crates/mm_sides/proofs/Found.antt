-- What a move finds fits the role of its side, and tells of where the side stands.
use Rattle.mm_sides.proofs.Below.{ℕ, ◌≡◌, Bool, true, false, List, Option, None, Some, Result, Ok, Err, refl, sym, [], ◌∷◌, ◌++◌}
use Rattle.mm_sides.proofs.Below.{if◌then◌else◌, Contains, bytes_eq, bytes_eq-Decides, PartsFault, Form, Kind, parts_of, Content, Snapshot}
use Rattle.mm_sides.proofs.Below.{tag_of, Refusal, Instance, check_by_tests, weighed_only, accepting_verdict, StepFate, End, Done, Fails}
use Rattle.mm_sides.proofs.Below.{walk, walk_from_step, TicketContent, offered_bytes, Role, Live, Waiting, Retired, Effect, Invites, Leaves}
use Rattle.mm_sides.proofs.Below.{Enters, MoveNotes, is_live, MayTake, IsFreshEffect, IsLastTicket, AreInOrder, ModuleEntersByLast, Pair}
use Rattle.mm_sides.proofs.Below.{BothSides, Mover, MoveCommand, Invite, Retire, Accept, DenialCause, Open, Gone, Nonce, Already, FoundMove}
use Rattle.mm_sides.proofs.Below.{is_offer_here, verdict_here, invitation_on, found_retirement_by, retirement_with, retirement_on}
use Rattle.mm_sides.proofs.Below.{ticket_in, entry_by_ticket, repeated_entry, acceptance_on, is_moved, effect_if, effect_of}
use Rattle.mm_sides.proofs.Below.{found_retirement, found_acceptance, found_command, BothOutcome, sides_after_effect_if, sides_after_issue}
use Rattle.mm_sides.proofs.Below.{effect_reply, move_end_outcome, notes_with_effect_if, IsNew, IsOurs, IsOursOffered, IsOursFor, Reads}
use Rattle.mm_sides.proofs.Below.{StepFault, Stop, plain_reply}
use Rattle.mm_sides.proofs.InOrder.{not_dead, roles_go_on, roles_enter_last}

-- How a list of tickets ends, and how the walk of a move does.

not_pushed : {A : Type 0} (xs : List A) (x : A) → [] ≡ xs ++ x ∷ [] → ⊥
not_pushed [] x e = cc
not_pushed (y ∷ xs) x e = cc

append_last : {A : Type 0} (xs ys : List A) (x y : A) → xs ++ x ∷ [] ≡ ys ++ y ∷ [] → x ≡ y
append_last [] [] x y e = cc
append_last {A} [] (b ∷ ys) x y e = let tails : [] ≡ ys ++ y ∷ [] = cc in absurd (not_pushed ys y tails)
append_last {A} (a ∷ xs) [] x y e = let tails : xs ++ x ∷ [] ≡ [] = cc in absurd (not_pushed xs x (sym tails))
append_last (a ∷ xs) (b ∷ ys) x y e = let tails : xs ++ x ∷ [] ≡ ys ++ y ∷ [] = cc in append_last xs ys x y tails

-- the last of tickets behind which one more was put
pub pushed_last : (retired : List TicketContent) (ticket other : TicketContent) → IsLastTicket (retired ++ ticket ∷ []) other
    → other ≡ ticket
pushed_last retired ticket other is = append_last is.front retired other ticket (sym is.is)

never_none : {A : Type 0} (x : A) → Some x ≡ None → ⊥
never_none x e = cc

both_done : (v w : List (List ℕ)) (a b : End)
    → (walk_from_step Reads v a (walk_from_step Reads w b (record { moves = []; steps = 0; writes = 0; broken = None }))).broken ≡ None
    → is_moved a b ≡ true
both_done v w Done Done e = refl
both_done v w Done (Fails fault made) e = absurd (never_none fault e)
both_done v w (Fails fault made) b e = absurd (never_none fault e)

-- the walk of a move that isn't broken off made both its steps
pub unbroken : (fates : ℕ → StepFate) (again : Bool) → (walk fates 1 (if again then Reads ∷ [] else Reads ∷ Reads ∷ [])).broken ≡ None
    → again ≡ false → is_moved (fates 1).ends (fates 2).ends ≡ true
unbroken fates true e f = not_dead f
unbroken fates false e f = both_done (fates 1).brings (fates 2).brings (fates 1).ends (fates 2).ends e

pub found_is : (f g : FoundMove) → (let r : Result FoundMove DenialCause = Ok f in let s : Result FoundMove DenialCause = Ok g in r ≡ s)
    → f ≡ g
found_is f g e = cc

-- The module leaves where no segment is open, by an offer that stands there.
pub record LeavesBy {S A : Type 0} (mover : Mover S A) (i : Instance) (at : S) (ticket : TicketContent) : Type 0 where
  pub shut : (mover.level i).is_open at ≡ false
  pub offered : Content
  pub here : is_offer_here (mover.level i) at offered ≡ true
  pub says : ticket.content ≡ mover.says i at offered

-- It entered before where it is, by a ticket that stands there.
pub record EnteredHere {S A : Type 0} (mover : Mover S A) (i : Instance) (at : S) (role : Role) (ticket : TicketContent) : Type 0 where
  pub live : is_live role ≡ true
  pub shut : (mover.level i).is_open at ≡ false
  pub here : is_offer_here (mover.level i) at ticket.content ≡ true

-- What a found effect tells, by whether it was made before: a new one may be taken by the role of its side, and a ticket is one
-- that the module left by.
abbrev pub Fits : {S A : Type 0} → Mover S A → Instance → S → MoveNotes → Role → (again : Bool) → Effect → Type 0
Fits mover i at notes role again (Invites nonce) = again ≡ false → MayTake role (Invites nonce)
Fits mover i at notes role again (Leaves ticket) = again ≡ false → MayTake role (Leaves ticket) × LeavesBy mover i at ticket
Fits mover i at notes role again (Enters ticket) =
    (again ≡ false → MayTake role (Enters ticket)) × (again ≡ true → EnteredHere mover i at role ticket) × Contains notes.retired ticket

abbrev pub FitsFound : {S A : Type 0} → Mover S A → Instance → S → MoveNotes → Role → Result FoundMove DenialCause → Type 0
FitsFound mover i at notes role (Err cause) = Unit {0}
FitsFound mover i at notes role (Ok found) = Fits mover i at notes role found.again found.effect

abbrev pub FitsIn : {S A : Type 0} → Mover S A → Instance → S → MoveNotes → Role → Option (Result FoundMove DenialCause) → Type 0
FitsIn mover i at notes role None = Unit {0}
FitsIn mover i at notes role (Some found) = FitsFound mover i at notes role found

if_either : (P : Result FoundMove DenialCause → Type 0) (b : Bool) (x y : Result FoundMove DenialCause) → (b ≡ true → P x)
    → (b ≡ false → P y)
    → P (if b then x else y)
if_either P true x y p q = p refl
if_either P false x y p q = q refl

pub stands_by : (stands again : Bool) → verdict_here stands ≡ accepting_verdict again → stands ≡ true
stands_by true again e = refl
stands_by false true e = cc
stands_by false false e = cc

module _ {S A : Type 0} (mover : Mover S A) (i : Instance) (at : S) (notes : MoveNotes) where
  abbrev F : Role → Result FoundMove DenialCause → Type 0
  F role found = FitsFound mover i at notes role found

  invited_fits : (role : Role) (nonce : List ℕ) → F role (invitation_on role nonce)
  invited_fits Live nonce = tt
  invited_fits (Waiting awaited) nonce =
      if_either (F (Waiting awaited)) (bytes_eq awaited nonce) _ (Err Already) (λ t e. not_dead e) (λ f. tt)
  invited_fits role nonce = λ e. tt

  left_fits : (role : Role) (again : Bool) (nonce : List ℕ) (c : Content) (result : Result Bool Refusal)
      → (again ≡ false → ((ticket : TicketContent) → MayTake role (Leaves ticket)) × ((mover.level i).is_open at ≡ false))
      → ((fresh : Bool) → result ≡ Ok fresh → is_offer_here (mover.level i) at c ≡ true)
      → F role (found_retirement_by mover i at again nonce c result)
  left_fits role again nonce c (Err why) may here = tt
  left_fits role again nonce c (Ok fresh) may here = λ e. (
    (may e).0 (record { nonce = nonce; content = mover.says i at c }),
    record { shut = (may e).1; offered = c; here = here fresh refl; says = refl },
  )

  offered_fits : (role : Role) (again : Bool) (nonce : List ℕ) (parts : Result Snapshot PartsFault)
      → (again ≡ false → ((ticket : TicketContent) → MayTake role (Leaves ticket)) × ((mover.level i).is_open at ≡ false))
      → F role (retirement_with mover i at again nonce parts)
  offered_fits role again nonce (Ok snapshot) may =
      let c : Content = snapshot.content in
      let s : Bool = i.meaning.is_spelled c.state in
      let t : Bool = bytes_eq snapshot.tag (tag_of i.key c) in
      let here : Bool = is_offer_here (mover.level i) at c in
      left_fits role again nonce c (check_by_tests s t (verdict_here here) true) may
      (λ fresh e. stands_by here fresh (weighed_only s t (verdict_here here) true fresh e).verdict)
  offered_fits role again nonce (Err Form) may = tt
  offered_fits role again nonce (Err Kind) may = tt

  retired_fits : (role : Role) (nonce bytes : List ℕ) → F role (retirement_on mover i role at nonce bytes)
  retired_fits Live nonce bytes = if_either (F Live) ((mover.level i).is_open at) (Err Open) _ (λ t. tt)
      (λ f. offered_fits Live false nonce (parts_of i.variant i.meaning.id bytes) (λ e. ((λ ticket. tt), f)))
  retired_fits (Retired left) nonce bytes = if_either (F (Retired left)) (bytes_eq left nonce) _ (Err Gone)
      (λ t. offered_fits (Retired left) true nonce (parts_of i.variant i.meaning.id bytes) (λ e. not_dead e)) (λ f. tt)
  retired_fits role nonce bytes = tt

  entered_fits : (awaited : List ℕ) (read : Result TicketContent Refusal) → IsOurs notes read → F (Waiting awaited)
      (entry_by_ticket awaited read)
  entered_fits awaited (Err why) ours = tt
  entered_fits awaited (Ok ticket) ours = if_either (F (Waiting awaited)) (bytes_eq awaited ticket.nonce) _ (Err Nonce)
      (λ t. ((λ e. (bytes_eq-Decides awaited ticket.nonce).0 t), (λ e. not_dead (sym e)), ours)) (λ f. tt)

  again_fits : (read : Result TicketContent Refusal) → IsOurs notes read → F Live (repeated_entry (mover.level i) at read)
  again_fits (Err why) ours = tt
  again_fits (Ok ticket) ours = if_either (F Live) ((mover.level i).is_open at) _ _ (λ t. tt)
      (λ shut. if_either (F Live) (is_offer_here (mover.level i) at ticket.content) _ _
      (λ here. ((λ e. not_dead e), (λ e. record { live = refl; shut = shut; here = here }), ours)) (λ g. tt))

  accepted_fits : (role : Role) (read : Result TicketContent Refusal) → IsOurs notes read
      → F role (acceptance_on (mover.level i) role at read)
  accepted_fits Live read ours = again_fits read ours
  accepted_fits (Waiting awaited) read ours = entered_fits awaited read ours
  accepted_fits role read ours = tt

  by_snapshot : (role : Role) (issued : List (List ℕ)) (nonce : List ℕ) (bytes : Option (List ℕ))
      → FitsIn mover i at notes role (found_retirement mover i (record { role = role; at = at; issued = issued }) nonce bytes)
  by_snapshot role issued nonce None = tt
  by_snapshot role issued nonce (Some bytes) = retired_fits role nonce bytes

  by_ticket : (pair : Pair) (role : Role) (issued : List (List ℕ)) (bytes : Option (List ℕ)) → IsOursOffered pair notes bytes
      → FitsIn mover i at notes role (found_acceptance mover pair i (record { role = role; at = at; issued = issued }) bytes)
  by_ticket pair role issued None ours = tt
  by_ticket pair role issued (Some bytes) ours = accepted_fits role (ticket_in pair bytes) ours

pub finding_fits : {S A : Type 0} (mover : Mover S A) (pair : Pair) (i : Instance) (notes : MoveNotes) (both : BothSides S A)
    (command : MoveCommand)
    → IsOursFor pair both.tickets notes command → FitsIn mover i both.first.at notes both.first.role
    (found_command mover pair i both command)
finding_fits mover pair i notes both (Invite nonce) ours = invited_fits mover i both.first.at notes both.first.role nonce
finding_fits mover pair i notes both (Retire nonce offer) ours =
    by_snapshot mover i both.first.at notes both.first.role both.first.issued nonce (offered_bytes both.first.issued offer)
finding_fits mover pair i notes both (Accept offer) ours =
    by_ticket mover i both.first.at notes pair both.first.role both.first.issued (offered_bytes both.tickets offer) ours

-- the effect that it has may be taken, and is fresh

abbrev pub IsFine : Role → MoveNotes → Option Effect → Type 0
IsFine role notes None = Unit {0}
IsFine role notes (Some effect) = MayTake role effect × IsFreshEffect notes effect

module _ {S A : Type 0} (mover : Mover S A) (i : Instance) (at : S) (notes : MoveNotes) (role : Role) where
  fine_if : (again moved : Bool) (effect : Effect) → Fits mover i at notes role again effect
      → IsNew notes (if again then None else effect_if moved effect) → IsFine role notes (if again then None else effect_if moved effect)
  fine_if true moved effect fits new = tt
  fine_if false false effect fits new = tt
  fine_if false true (Invites nonce) fits new = (fits refl, new)
  fine_if false true (Leaves ticket) fits new = ((fits refl).0, tt)
  fine_if false true (Enters ticket) fits new = (fits.0 refl, fits.2)

  pub effect_fine : (fates : ℕ → StepFate) (found : Result FoundMove DenialCause) → FitsFound mover i at notes role found
      → IsNew notes (effect_of fates found) → IsFine role notes (effect_of fates found)
  effect_fine fates (Err cause) fits new = tt
  effect_fine fates (Ok found) fits new = fine_if found.again (is_moved (fates 1).ends (fates 2).ends) found.effect fits new

-- What a move leaves as it was, and what its effect makes of the roles.

-- telling hands out a ticket or a snapshot, and changes nothing else
pub record IsTold {S A : Type 0} (both after : BothSides S A) : Type 0 where
  pub role : after.first.role ≡ both.first.role
  pub at : after.first.at ≡ both.first.at
  pub second : after.second ≡ both.second
  pub away : after.away ≡ both.away
  pub committed : after.committed ≡ both.committed

module _ {S A : Type 0} (mover : Mover S A) (pair : Pair) (i : Instance) where
  handed_told : (both : BothSides S A) (effect : Effect) → IsTold both (sides_after_issue mover pair i both effect)
  handed_told both (Invites nonce) = record { role = refl; at = refl; second = refl; away = refl; committed = refl }
  handed_told both _ = record { role = refl; at = refl; second = refl; away = refl; committed = refl }

  told_none : (both : BothSides S A) (effect : Effect) → plain_reply (effect_reply mover i both effect) ≡ []
  told_none both (Invites nonce) = refl
  told_none both _ = refl

  -- how a move ends
  pub record IsEnded (both : BothSides S A) (effect : Option Effect) (o : BothOutcome S A) : Type 0 where
    pub tells : IsTold both o.both
    pub none : plain_reply o.reply ≡ []
    pub effect_is : o.effect ≡ effect

  pub ended_told : (both : BothSides S A) (stop : Stop) (broken : Option StepFault) (found : Result FoundMove DenialCause)
      (effect : Option Effect)
      → IsEnded both effect (move_end_outcome mover pair i both stop broken found effect)
  ended_told both stop (Some fault) found effect = record {
    tells = record { role = refl; at = refl; second = refl; away = refl; committed = refl };
    none = refl;
    effect_is = refl;
  }
  ended_told both stop None (Err cause) effect = record {
    tells = record { role = refl; at = refl; second = refl; away = refl; committed = refl };
    none = refl;
    effect_is = refl;
  }
  ended_told both stop None (Ok found) effect =
      record { tells = handed_told both found.effect; none = told_none both found.effect; effect_is = refl }

-- what an effect makes of the roles
pub affected_order : {S A : Type 0} (mover : Mover S A) (both : BothSides S A) (notes : MoveNotes) (effect : Option Effect)
    → AreInOrder both.first.role both.second.role notes → IsFine both.first.role notes effect
    → (let after : BothSides S A = sides_after_effect_if mover both effect in AreInOrder after.first.role after.second.role
    (notes_with_effect_if effect notes))
affected_order mover both notes None h fine = h
affected_order mover both notes (Some (Invites nonce)) h fine =
    roles_go_on both.first.role both.second.role notes (Invites nonce) h fine.0 fine.1
affected_order mover both notes (Some effect) h fine =
    roles_go_on both.first.role both.second.role notes effect h fine.0 fine.1

-- the module enters alone
abbrev pub EntersSo : Role → Role → MoveNotes → Option Effect → Type 0
EntersSo this other notes (Some (Enters ticket)) = ModuleEntersByLast this other notes ticket
EntersSo this other notes effect = Unit {0}

pub enters_so : (this other : Role) (notes : MoveNotes) (effect : Option Effect) → AreInOrder this other notes → IsFine this notes effect
    → EntersSo this other notes effect
enters_so this other notes (Some (Enters ticket)) h fine = roles_enter_last this other notes ticket h fine.0 fine.1
enters_so this other notes effect h fine = tt

-- The roles of two sides alone stay in order.
use Rattle.mm_sides.proofs.Below.{ℕ, ◌≡◌, Bool, true, false, List, [], ◌∷◌, ◌++◌, map, refl, sym, ap, ◌∙◌, subst, inl, inr, AllByRecursion}
use Rattle.mm_sides.proofs.Below.{Contains, map-append, All-from_recursion, All-contains, Contains-append_left, Contains-push}
use Rattle.mm_sides.proofs.Below.{Contains-push_cases, each_append, each_self, TicketContent, Role, Blank, Live, Waiting, Retired, Invites}
use Rattle.mm_sides.proofs.Below.{Leaves, Enters, is_live, MoveNotes, notes_with_effect, nonces_of, IsAwaited, WaitsElse, WaitApart}
use Rattle.mm_sides.proofs.Below.{IsSomewhere, here, there, away, AreInOrder, MayTake, RolesBegin, RolesSwap, RolesGoOn, RolesEnterLast}
use Rattle.mm_sides.proofs.Below.{AreNotBothLive, RolesAreOne}

-- an item of a list of which each is one of another is one of that other
among : {A : Type 0} (P : A → Type 0) (xs : List A) (x : A) → AllByRecursion P xs → Contains xs x → P x
among P xs x all h = All-contains P xs x (All-from_recursion P xs all) h

unmapped : {A B : Type 0} (P : B → Type 0) (f : A → B) (xs : List A) → AllByRecursion P (map f xs) → AllByRecursion (λ x. P (f x)) xs
unmapped P f [] h = tt
unmapped P f (x ∷ xs) h = (h.0, unmapped P f xs h.1)

nonce_in : (tickets : List TicketContent) (ticket : TicketContent) → Contains tickets ticket → Contains (nonces_of tickets) ticket.nonce
nonce_in tickets ticket h =
    let f : TicketContent → List ℕ = λ t. t.nonce in
    let P : TicketContent → Type 0 = λ t. Contains (nonces_of tickets) t.nonce in
    among P tickets ticket (unmapped (Contains (nonces_of tickets)) f tickets (each_self [] (nonces_of tickets))) h

more_of : {A : Type 0} (ys : List A) (y : A) (xs : List A) → AllByRecursion (Contains ys) xs → AllByRecursion (Contains (ys ++ y ∷ [])) xs
more_of ys y [] h = tt
more_of ys y (x ∷ xs) h = (Contains-append_left ys (y ∷ []) x h.0, more_of ys y xs h.1)

nonces-push : (front : List TicketContent) (ticket : TicketContent)
    → nonces_of (front ++ ticket ∷ []) ≡ nonces_of front ++ ticket.nonce ∷ []
nonces-push front ticket = map-append (λ (t : TicketContent). t.nonce) front (ticket ∷ [])

pub not_dead : {A : Type 0} → true ≡ false → A
not_dead e = absurd (cc)

not_both : (b : Bool) → b ≡ true → b ≡ false → ⊥
not_both b t f = cc

-- roles

no_wait : (other this : Role) → ((nonce : List ℕ) → WaitsElse nonce this) → WaitApart other this
no_wait (Waiting nonce) this h = h nonce
no_wait other this h = tt

swapped : (this other : Role) → WaitApart this other → WaitApart other this
swapped (Waiting m) (Waiting n) h = λ e. h (sym e)
swapped (Waiting m) other h = tt
swapped Blank other h = no_wait other Blank (λ n. tt)
swapped Live other h = no_wait other Live (λ n. tt)
swapped (Retired m) other h = no_wait other (Retired m) (λ n. tt)

pub roles_begin : RolesBegin
roles_begin = record { spent = []; invited = tt; this_awaits = tt; other_awaits = tt; apart = tt; place = here refl refl refl }

swapped_place : (this other : Role) (retired : List TicketContent) (spent : List (List ℕ)) → IsSomewhere this other retired spent
    → IsSomewhere other this retired spent
swapped_place this other retired spent (here l n e) = there n l e
swapped_place this other retired spent (there n l e) = here l n e
swapped_place this other retired spent (away m n front last is e) = away n m front last is e

pub roles_swap : RolesSwap
roles_swap this other notes h = record {
  spent = h.spent;
  invited = h.invited;
  this_awaits = h.other_awaits;
  other_awaits = h.this_awaits;
  apart = swapped this other h.apart;
  place = swapped_place this other notes.retired h.spent h.place;
}

one_live : (this other : Role) (retired : List TicketContent) (spent : List (List ℕ)) → IsSomewhere this other retired spent
    → AreNotBothLive this other
one_live this other retired spent (here l n e) is = n
one_live this other retired spent (there n l e) is = absurd (not_both (is_live this) is n)
one_live this other retired spent (away m n front last e f) is = n

pub roles_are_one : RolesAreOne
roles_are_one this other notes h = one_live this other notes.retired h.spent h.place

-- an invitation

awaited_more : (invited spent : List (List ℕ)) (nonce : List ℕ) (role : Role) → IsAwaited invited spent role
    → IsAwaited (invited ++ nonce ∷ []) spent role
awaited_more invited spent nonce (Waiting m) h = (Contains-append_left invited (nonce ∷ []) m h.0, h.1)
awaited_more invited spent nonce role h = tt

waits_else : (invited spent : List (List ℕ)) (nonce : List ℕ) (role : Role) → (Contains invited nonce → ⊥) → IsAwaited invited spent role
    → WaitsElse nonce role
waits_else invited spent nonce (Waiting m) new h = λ e. new (subst (Contains invited) (sym e) h.0)
waits_else invited spent nonce role new h = tt

pub invites_none : (role : Role) (nonce : List ℕ) → MayTake role (Invites nonce) → is_live role ≡ false
invites_none Live nonce may = absurd may
invites_none role nonce may = refl

invited_place : (this other : Role) (nonce : List ℕ) (retired : List TicketContent) (spent : List (List ℕ)) → MayTake this (Invites nonce)
    → IsSomewhere this other retired spent → IsSomewhere (Waiting nonce) other retired spent
invited_place this other nonce retired spent may (there n l e) = there refl l e
invited_place this other nonce retired spent may (away m n front last is e) = away refl n front last is e
invited_place this other nonce retired spent may (here l n e) = absurd (not_both (is_live this) l (invites_none this nonce may))

invites : (this other : Role) (notes : MoveNotes) (nonce : List ℕ) → AreInOrder this other notes → MayTake this (Invites nonce)
    → (Contains notes.invited nonce → ⊥) → AreInOrder (Waiting nonce) other (notes_with_effect (Invites nonce) notes)
invites this other notes nonce h may new = record {
  spent = h.spent;
  invited = more_of notes.invited nonce h.spent h.invited;
  this_awaits = (Contains-push notes.invited nonce, λ c. new (among (Contains notes.invited) h.spent nonce h.invited c));
  other_awaits = awaited_more notes.invited h.spent nonce other h.other_awaits;
  apart = waits_else notes.invited h.spent nonce other new h.other_awaits;
  place = invited_place this other nonce notes.retired h.spent may h.place;
}

-- a retirement

left_place : (this other : Role) (ticket : TicketContent) (retired : List TicketContent) (spent : List (List ℕ)) → is_live this ≡ true
    → IsSomewhere this other retired spent → IsSomewhere (Retired ticket.nonce) other (retired ++ ticket ∷ []) spent
left_place this other ticket retired spent live (here l n e) = away refl n retired ticket refl e
left_place this other ticket retired spent live (there n l e) = absurd (not_both (is_live this) live n)
left_place this other ticket retired spent live (away m n front last is e) = absurd (not_both (is_live this) live m)

pub leaves_live : (this : Role) (ticket : TicketContent) → MayTake this (Leaves ticket) → is_live this ≡ true
leaves_live Live ticket may = refl
leaves_live this ticket may = absurd may

leaves : (this other : Role) (notes : MoveNotes) (ticket : TicketContent) → AreInOrder this other notes → MayTake this (Leaves ticket)
    → AreInOrder (Retired ticket.nonce) other (notes_with_effect (Leaves ticket) notes)
leaves this other notes ticket h may = record {
  spent = h.spent;
  invited = h.invited;
  this_awaits = tt;
  other_awaits = h.other_awaits;
  apart = tt;
  place = left_place this other ticket notes.retired h.spent (leaves_live this ticket may) h.place;
}

-- an acceptance

-- the nonce that a side may accept was invited and isn't spent, and the other side waits for another one
record IsTaken (this other : Role) (invited spent : List (List ℕ)) (nonce : List ℕ) : Type 0 where
  not_here : is_live this ≡ false
  was_invited : Contains invited nonce
  unspent : Contains spent nonce → ⊥
  elsewhere : WaitsElse nonce other

taken_of : (this other : Role) (notes : MoveNotes) (ticket : TicketContent) (h : AreInOrder this other notes) → MayTake this (Enters ticket)
    → IsTaken this other notes.invited h.spent ticket.nonce
taken_of (Waiting m) other notes ticket h may = record {
  not_here = refl;
  was_invited = subst (Contains notes.invited) may h.this_awaits.0;
  unspent = λ c. h.this_awaits.1 (subst (Contains h.spent) (sym may) c);
  elsewhere = subst (λ n. WaitsElse n other) may h.apart;
}
taken_of this other notes ticket h may = absurd may

last_of : (front : List TicketContent) (last ticket : TicketContent) → (Contains (nonces_of front) ticket.nonce → ⊥)
    → Contains (front ++ last ∷ []) ticket → last ≡ ticket
last_of front last ticket unspent h =
    elim (Contains-push_cases front last ticket h) [ inl c ↦ absurd (unspent (nonce_in front ticket c)) | inr e ↦ e ]

-- the module is on its way, and the ticket is its last
record OnItsWay (this other : Role) (retired : List TicketContent) (spent : List (List ℕ)) (ticket : TicketContent) : Type 0 where
  not_there : is_live other ≡ false
  front : List TicketContent
  is : retired ≡ front ++ ticket ∷ []
  spent_is : spent ≡ nonces_of front

on_its_way : (this other : Role) (retired : List TicketContent) (spent : List (List ℕ)) (ticket : TicketContent) → is_live this ≡ false
    → (Contains spent ticket.nonce → ⊥) → Contains retired ticket → IsSomewhere this other retired spent
    → OnItsWay this other retired spent ticket
on_its_way this other retired spent ticket dead unspent ours (here l n e) = absurd (not_both (is_live this) l dead)
on_its_way this other retired spent ticket dead unspent ours (there n l e) =
    absurd (unspent (subst (λ s. Contains s ticket.nonce) (sym e) (nonce_in retired ticket ours)))
on_its_way this other retired spent ticket dead unspent ours (away m n front last is e) =
    let P : List TicketContent → Type 0 = λ r. Contains r ticket in
    let same : last ≡ ticket =
    last_of front last ticket (λ c. unspent (subst (λ s. Contains s ticket.nonce) (sym e) c)) (subst P is ours) in
    record { not_there = n; front = front; is = is ∙ ap (λ t. front ++ t ∷ []) same; spent_is = e }

way_of : (this other : Role) (notes : MoveNotes) (ticket : TicketContent) (h : AreInOrder this other notes) → MayTake this (Enters ticket)
    → Contains notes.retired ticket → OnItsWay this other notes.retired h.spent ticket
way_of this other notes ticket h may ours =
    let t = taken_of this other notes ticket h may in
    on_its_way this other notes.retired h.spent ticket t.not_here t.unspent ours h.place

pub roles_enter_last : RolesEnterLast
roles_enter_last this other notes ticket h may ours =
    let w = way_of this other notes ticket h may ours in record {
      not_here = (taken_of this other notes ticket h may).not_here;
      not_there = w.not_there;
      last = record { front = w.front; is = w.is };
    }

awaited_else : (invited spent : List (List ℕ)) (nonce : List ℕ) (role : Role) → WaitsElse nonce role → IsAwaited invited spent role
    → IsAwaited invited (spent ++ nonce ∷ []) role
awaited_else invited spent nonce (Waiting m) w h =
    (h.0, λ c. elim (Contains-push_cases spent nonce m c) [ inl old ↦ h.1 old | inr e ↦ w e ])
awaited_else invited spent nonce role w h = tt

enters : (this other : Role) (notes : MoveNotes) (ticket : TicketContent) → AreInOrder this other notes → MayTake this (Enters ticket)
    → Contains notes.retired ticket → AreInOrder Live other (notes_with_effect (Enters ticket) notes)
enters this other notes ticket h may ours =
    let t = taken_of this other notes ticket h may in
    let w = way_of this other notes ticket h may ours in record {
      spent = h.spent ++ ticket.nonce ∷ [];
      invited = each_append (Contains notes.invited) h.spent (ticket.nonce ∷ []) h.invited (t.was_invited, tt);
      this_awaits = tt;
      other_awaits = awaited_else notes.invited h.spent ticket.nonce other t.elsewhere h.other_awaits;
      apart = tt;
      place = here refl w.not_there
          (ap (λ s. s ++ ticket.nonce ∷ []) w.spent_is ∙ sym (nonces-push w.front ticket) ∙ ap nonces_of (sym w.is));
    }

pub roles_go_on : RolesGoOn
roles_go_on this other notes (Invites nonce) h may new = invites this other notes nonce h may new
roles_go_on this other notes (Leaves ticket) h may new = leaves this other notes ticket h may
roles_go_on this other notes (Enters ticket) h may new = enters this other notes ticket h may new

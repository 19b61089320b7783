-- Opt: histories that differ in the register's items alone, and what a call does to all but these.
use Rattle.mm_call.proofs.Below.{◌≡◌, ℕ, Bool, true, false, List, [], ◌∷◌, ◌++◌, map, refl, sym, ap, ◌∙◌, subst, inl, inr, Opt, Meaning}
use Rattle.mm_call.proofs.Below.{Batch, Place, InBasic, InOpt, Content, guard, Instance, opt_instance, RegisterEntry, Value, History, Move}
use Rattle.mm_call.proofs.Below.{Commit, Foreign, Placed, Reset, Close, history_after, history_after_commit, items_of_all, is_empty}
use Rattle.mm_call.proofs.Below.{has_value, IsSound, Digests, MayMove, IsAllowed, IsOpening, digests_after, IsPlaceOf, NamesPosition}
use Rattle.mm_call.proofs.Below.{content_of_issue, issued_place, point_items, list_level, digest_level, state_after_moves, has_close}
use Rattle.mm_call.proofs.Below.{committed_batches, closes-foreign, commit_keeps, committed-foreign}
use Rattle.mm_call.proofs.OptHolding.{bare, bare_digests, reset_may}
use Rattle.mm_call.proofs.OptWalks.{names_all}

-- with a segment open no closed one holds a value that stands for no batch
pub clean_open : (y : History) → IsSound y → y.is_open ≡ true → has_value (items_of_all y.closed) ≡ false
clean_open y sound e =
    elim sound.history [
      | inl c ↦ c.clean
      | inr m ↦ let clash : true ≡ false = sym e ∙ m.shut in absurd (cc)
    ]

module _ (meaning : Meaning) (key barrier : List ℕ) where
  abbrev I : Instance
  I = opt_instance meaning key barrier

  -- What a commit does to all but the items.

  bare_commit : (flag : Bool) (y : History) (b : Batch) → bare (history_after_commit Opt flag y b)
      ≡ bare (history_after_commit Opt flag (bare y) b)
  bare_commit true y b = refl
  bare_commit false y b = refl

  pub alike_commit : (y z : History) (b : Batch) → bare y ≡ bare z → bare (history_after I y (Commit b))
      ≡ bare (history_after I z (Commit b))
  alike_commit y z b e =
      bare_commit y.is_open y b ∙ ap (λ (x : History). bare (history_after_commit Opt x.is_open x b)) e ∙ sym (bare_commit z.is_open z b)

  commit_opens : (flag : Bool) (y : History) (b : Batch) → y.is_open ≡ flag → (history_after_commit Opt flag y b).is_open ≡ true
  commit_opens true y b e = e
  commit_opens false y b e = refl

  -- moves that commit nothing and close nothing
  pub alike_still : (moves : List Move) (y : History) → committed_batches moves ≡ [] → has_close moves ≡ false
      → bare (state_after_moves (list_level I) y moves) ≡ bare y
  alike_still [] y c e = refl
  alike_still (Commit b ∷ moves) y c e = absurd (cc)
  alike_still (Close ∷ moves) y c e = absurd (cc)
  alike_still (m ∷ moves) y c e = alike_still moves (history_after I y m) c e

  pub alike_foreign : (values : List (List ℕ)) (y : History) → bare (state_after_moves (list_level I) y (map Foreign values)) ≡ bare y
  alike_foreign values y = alike_still (map Foreign values) y (committed-foreign values) (closes-foreign values)

  -- moves that commit one batch and close nothing
  pub alike_one : (moves : List Move) (y : History) (b : Batch) → committed_batches moves ≡ b ∷ [] → has_close moves ≡ false
      → bare (state_after_moves (list_level I) y moves) ≡ bare (history_after I y (Commit b))
  alike_one [] y b c e = absurd (cc)
  alike_one (Commit a ∷ moves) y b c e =
      let none : committed_batches moves ≡ [] = cc in
      let same : a ≡ b = cc in
      alike_still moves (history_after I y (Commit a)) none e ∙ ap (λ (x : Batch). bare (history_after I y (Commit x))) same
  alike_one (Close ∷ moves) y b c e = absurd (cc)
  alike_one (m ∷ moves) y b c e = alike_one moves (history_after I y m) b c e ∙ alike_commit (history_after I y m) y b refl

  -- the same by digests: what stays but for the register
  pub digests_still : (moves : List Move) (d : Digests) → committed_batches moves ≡ [] → has_close moves ≡ false
      → bare_digests (state_after_moves (digest_level I) d moves) ≡ bare_digests d
  digests_still [] d c e = refl
  digests_still (Commit b ∷ moves) d c e = absurd (cc)
  digests_still (Close ∷ moves) d c e = absurd (cc)
  digests_still (m ∷ moves) d c e = digests_still moves (digests_after I d m) c e

  -- A call left all but the items as they were, or committed the batch.
  pub data Alike (y : History) (b : Batch) (after : History) : Type 0 where
    still : bare after ≡ bare y → Alike y b after
    grown_by : bare after ≡ bare (history_after I y (Commit b)) → Alike y b after

  pub opened : (y after : History) (b : Batch) → bare after ≡ bare (history_after I y (Commit b)) → after.is_open ≡ true
  opened y after b e = ap (λ (x : History). x.is_open) e ∙ commit_opens y.is_open y b refl

  pub same_closed : (y after : History) (b : Batch) → bare after ≡ bare (history_after I y (Commit b)) → after.closed ≡ y.closed
  same_closed y after b e = ap (λ (x : History). x.closed) e ∙ commit_keeps Opt y.is_open y b

  -- What a snapshot names doesn't depend on the items.

  place_items : (y : History) (items : List RegisterEntry) (named : List Batch) (place : Place) → IsPlaceOf Opt I y named place
      → IsPlaceOf Opt I (record y { items = items }) named place
  place_items y items named (InBasic s) p = absurd p
  place_items y items named (InOpt a e) p = point_items I y items named a.bytes e.bytes p

  names_items : (y : History) (items : List RegisterEntry) (content : Content) → NamesPosition I y content
      → NamesPosition I (record y { items = items }) content
  names_items y items content n = record {
    named = n.named;
    rest = n.rest;
    first = n.first;
    position = n.position;
    state = n.state;
    place = place_items y items n.named content.place n.place;
  }

  pub names_alike : (y z : History) (content : Content) → bare y ≡ bare z → NamesPosition I y content → NamesPosition I z content
  names_alike y z content e n =
      names_items (bare z) z.items content (subst (λ (x : History). NamesPosition I x content) e (names_items y [] content n))

  not_bare : (items : List RegisterEntry) (v : List ℕ) → is_empty (items ++ Value v ∷ []) ≡ false
  not_bare [] v = refl
  not_bare (x ∷ items) v = refl

  -- a commit inside a segment, behind a value of others; and one that opens a segment, behind its own extension
  named_then : (flag : Bool) (y : History) (b : Batch) (content : Content) → y.is_open ≡ flag → IsSound y
      → has_value (items_of_all y.closed) ≡ false → NamesPosition I y content → NamesPosition I (history_after I y (Commit b)) content
  named_then true y b content e sound clean n =
      let z : History = history_after I y (Foreign (guard barrier b)) in
      names_alike (history_after I z (Commit b)) (history_after I y (Commit b)) content (alike_commit z y b refl)
      (names_all meaning key barrier (Foreign (guard barrier b) ∷ Commit b ∷ []) y content sound
      (tt, (rw e (not_bare y.items (guard barrier b)), tt)) n)
  named_then false y b content e sound clean n =
      let empty : History = history_after I y Reset in
      let z : History = history_after I empty (Placed b) in
      let placing : MayMove I empty (Placed b) = rw e tt in
      let opening : IsOpening I z b = record { clean = clean; front = []; items = refl; others = refl } in
      let then_may : MayMove I z (Commit b) = subst (λ (f : Bool). IsAllowed Opt f I z (Commit b)) (sym e) opening in
      names_alike (history_after I z (Commit b)) (history_after I y (Commit b)) content (alike_commit z y b refl)
      (names_all meaning key barrier (Reset ∷ Placed b ∷ Commit b ∷ []) y content sound
      (reset_may meaning key barrier y e, (placing, (then_may, tt))) n)

  -- what named a position before a call names it after the call
  pub names_after : (y after : History) (b : Batch) (content : Content) → IsSound y → IsSound after → Alike y b after
      → NamesPosition I y content
      → NamesPosition I after content
  names_after y after b content sound then_sound (still e) n = names_alike y after content (sym e) n
  names_after y after b content sound then_sound (grown_by e) n =
      let clean : has_value (items_of_all y.closed) ≡ false = ap (λ (c : List (List RegisterEntry)). has_value (items_of_all c))
      (sym (same_closed y after b e))
      ∙ clean_open after then_sound (opened y after b e) in
      names_alike (history_after I y (Commit b)) after content (sym e) (named_then y.is_open y b content refl sound clean n)

  -- what the snapshot of an answer says doesn't depend on the items

  issued_bare : (flag : Bool) (y : History) → issued_place Opt flag I y ≡ issued_place Opt flag I (bare y)
  issued_bare true y = refl
  issued_bare false y = refl

  issued_is : (y : History) → content_of_issue I y ≡ content_of_issue I (bare y)
  issued_is y = λ j. record (content_of_issue I y) { place = issued_bare y.is_open y j }

  pub issued_alike : (y z : History) → bare y ≡ bare z → content_of_issue I y ≡ content_of_issue I z
  issued_alike y z e = issued_is y ∙ ap (content_of_issue I) e ∙ sym (issued_is z)

-- A snapshot that names a position names it after each move; the snapshot of an answer names the
-- last position. With it: Opt: a fresh offer lists the messages that its batch adds to the history;
-- whether an offer stands where the module stands.
use Rattle.mm_model.specs.declared.verdict.Verdict.TheVariants.{Fresh as IsFresh}
use Rattle.mm_model.specs.Messages.{is_new, place_messages}
use Rattle.mm_model.proofs.Below.{ℕ, ◌≡◌, ◌≤◌, Bool, true, false, List, [], ◌∷◌, ◌++◌, length, refl, sym, ap, ◌∙◌, ◌⊎◌, inl, inr, arith}
use Rattle.mm_model.proofs.Below.{append_assoc, length-append, append-nil, append_cancel_right, Opt, Batch, Meaning, Place, InBasic, InOpt}
use Rattle.mm_model.proofs.Below.{Content, guard, Instance, basic_instance, opt_instance, RegisterEntry, Own, Value, History, Move, Commit}
use Rattle.mm_model.proofs.Below.{Foreign, Placed, Close, items_of_all, history_after, entries_with_last_batch, has_value, IsSound, IsClean}
use Rattle.mm_model.proofs.Below.{batches_in, IsClosedPoint, IsCurrentPoint, IsPoint, at_anchor, in_closed, in_current, IsPlaceOf}
use Rattle.mm_model.proofs.Below.{NamesPosition, content_of_issue, issued_place, MayMove, length-batches_in, anchor_after, basic_stands}
use Rattle.mm_model.proofs.Below.{◌+◌, ◌&&◌, map, nat_eq, Contains, extended_message, size_of, guard_message, register_of, own_values}
use Rattle.mm_model.proofs.Below.{total_of, values_of, is_empty, are_own, Life, Live, life_of, is_last, verdict_on, verdict_by_tests}
use Rattle.mm_model.proofs.Below.{AreMessagesIn, IsClearFor, point_messages, batch_messages, at_the_end, items_taken_in, IsFreshSomehow}
use Rattle.mm_model.proofs.Below.{reads_zero, values_of-own, if◌then◌else◌, bytes_eq, Basic, zero_bytes, anchored_message, summary_of}
use Rattle.mm_model.proofs.Below.{register_value_of, cell_digest_of, Spoiled, Lost, is_lost_life, verdict_by_digests, forms_of, verdict_by}
use Rattle.mm_model.proofs.Below.{opt_verdict, IsClear, AreNoGuards, history_messages, values_in, counted_entries, basic_here}
use Rattle.mm_model.proofs.Moves.{flagged, open_current, opening_clean}
use Rattle.mm_model.proofs.OptJudge.{second_listed, Stood, stood_at, path_messages, fresh_path, held_at, live_values_at, zero_tells, told}
use Rattle.mm_model.proofs.OptJudge.{fresh_told, zero_is_lost}
use Rattle.mm_model.proofs.Paths.{clean_size, current_clean, live_clean, shut_current, LiveParts, live_parts}

-- a place in a history with these closed segments and perhaps more, where a place in the open one is a place there
module _ (i : Instance) (key : List ℕ) (y z : History) (more : List (List RegisterEntry)) (longer : z.closed ≡ y.closed ++ more)
    (named : List Batch) (a e : List ℕ) where
  point_grown : ((p : IsClosedPoint i y named a e) → (length p.taken ≤ length p.segment) ⊎ ((p.later ++ more ≡ []) × (z.current ≡ [])))
      → (IsCurrentPoint i y named a e → IsPoint (record i { key = key }) z named a e) → IsPoint i y named a e
      → IsPoint (record i { key = key }) z named a e
  point_grown within inner (at_anchor p) = at_anchor (record {
    before = p.before;
    later = p.later ++ more;
    split = longer ∙ ap (λ (v : List (List RegisterEntry)). v ++ more) p.split ∙ append_assoc p.before p.later more;
    clean = p.clean;
    counted = p.counted;
    anchor_is = p.anchor_is;
    extension_is = p.extension_is;
  })
  point_grown within inner (in_closed p) = in_closed (record {
    before = p.before;
    segment = p.segment;
    later = p.later ++ more;
    done = p.done;
    taken = p.taken;
    split = longer ∙ ap (λ (v : List (List RegisterEntry)). v ++ more) p.split ∙ append_assoc p.before (p.segment ∷ p.later) more;
    named_is = p.named_is;
    counted = p.counted;
    begun = p.begun;
    within = within p;
    anchor_is = p.anchor_is;
    extension_is = p.extension_is;
  })
  point_grown within inner (in_current p) = inner p

-- a place in a history with the same closed segments, whose open one has perhaps more batches
point_more : (i : Instance) (key : List ℕ) (y z : History) (more : List Batch) → z.closed ≡ y.closed → z.current ≡ y.current ++ more
    → z.batches ≡ y.batches ++ more → (named : List Batch) (a e : List ℕ)
    → ((p : IsClosedPoint i y named a e) → (length p.taken ≤ length p.segment) ⊎ ((p.later ≡ []) × (z.current ≡ [])))
    → IsPoint i y named a e
    → IsPoint (record i { key = key }) z named a e
point_more i key y z more closed current batches named a e within =
    point_grown i key y z [] (closed ∙ sym (append-nil y.closed)) named a e
    (λ p. elim (within p) [ inl inside ↦ inl inside | inr last ↦ inr (append-nil p.later ∙ last.0, last.1) ])
    (λ p. in_current (record {
      done = p.done;
      taken = p.taken;
      more = p.more ++ more;
      split = current ∙ ap (λ (v : List Batch). v ++ more) p.split ∙ append_assoc p.taken p.more more;
      start = batches ∙ ap (λ (v : List Batch). v ++ more) p.start ∙ append_assoc p.done y.current more
          ∙ ap (λ (v : List Batch). p.done ++ v) (sym current);
      named_is = p.named_is;
      begun = p.begun;
      anchor_is = p.anchor_is ∙ ap (anchor_after i) (sym closed);
      extension_is = p.extension_is;
    }))

-- neither the key nor the register's items are part of a place
pub point_kept : (i : Instance) (key : List ℕ) (y : History) (items : List RegisterEntry) (named : List Batch) (a e : List ℕ)
    → IsPoint i y named a e → IsPoint (record i { key = key }) (record y { items = items }) named a e
point_kept i key y items named a e p =
    point_more i key y (record y { items = items }) [] refl (sym (append-nil y.current)) (sym (append-nil y.batches)) named a e
    (λ q. q.within) p

pub point_items : (i : Instance) (y : History) (items : List RegisterEntry) (named : List Batch) (a e : List ℕ) → IsPoint i y named a e
    → IsPoint i (record y { items = items }) named a e
point_items i y items named a e p = point_kept i i.key y items named a e p

module _ (i : Instance) (y : History) (named rest : List Batch) (a e : List ℕ) (clean : IsClean y) (first : y.batches ≡ named ++ rest) where
  -- in a clean history a place in a closed segment ends within it
  ends_within : (p : IsClosedPoint i y named a e) → length p.taken ≤ length p.segment
  ends_within p = elim p.within [
    | inl within ↦ within
    | inr last ↦
        let none : length (items_of_all p.later) ≡ 0 = ap (λ (v : List (List RegisterEntry)). length (items_of_all v)) last.0 in
        let nothing : length y.current ≡ 0 = ap length last.1 in
        let size = clean_size y clean p.before p.segment p.later p.split in let all = ap length first in
        let names = ap length p.named_is in let taken = length-append p.done p.taken in
        omega (arith, size, all, names, taken, p.counted, none, nothing, length-append named rest)
  ]

  -- a batch more in the open segment, or a new one
  point_commit : (current : List Batch) (is_open : Bool) (items : List RegisterEntry) (b : Batch) → current ≡ y.current ++ b ∷ []
      → IsPoint i y named a e
      → IsPoint i (record y { batches = y.batches ++ b ∷ []; current = current; is_open = is_open; items = items }) named a e
  point_commit current is_open items b grown =
      point_more i i.key y (record y { batches = y.batches ++ b ∷ []; current = current; is_open = is_open; items = items }) (b ∷ [])
      refl grown refl named a e (λ p. inl (ends_within p))

  -- the open segment becomes the last closed one
  point_close : IsPoint i y named a e
      → IsPoint i (record y { closed = y.closed ++ y.items ∷ []; current = []; is_open = false }) named a e
  point_close =
      point_grown i i.key y (record y { closed = y.closed ++ y.items ∷ []; current = []; is_open = false }) (y.items ∷ []) refl named a e
      (λ p. inl (ends_within p)) (λ p. in_closed (record {
        before = y.closed;
        segment = y.items;
        later = [];
        done = p.done;
        taken = p.taken;
        split = refl;
        named_is = p.named_is;
        counted = ap length (append_cancel_right p.done (batches_in (items_of_all y.closed)) y.current (sym p.start ∙ clean.batches))
            ∙ length-batches_in (items_of_all y.closed) clean.clean;
        begun = p.begun;
        within = inr (refl, refl);
        anchor_is = p.anchor_is;
        extension_is = p.extension_is;
      }))

-- which batches a move adds
added : Move → List Batch
added (Commit b) = b ∷ []
added _ = []

issued_point : (i : Instance) (y : History) (flag : Bool) → IsSound y → has_value (items_of_all y.closed) ≡ false → y.is_open ≡ flag
    → IsPlaceOf Opt i y y.batches (issued_place Opt flag i y)
issued_point i y true sound clean f =
    let c = live_clean y sound clean in
    in_current (record {
      done = batches_in (items_of_all y.closed);
      taken = y.current;
      more = [];
      split = sym (append-nil y.current);
      start = c.batches;
      named_is = c.batches;
      begun = open_current y sound f;
      anchor_is = refl;
      extension_is = refl;
    })
issued_point i y false sound clean f =
    let c = live_clean y sound clean in
    at_anchor (record {
      before = y.closed;
      later = [];
      split = sym (append-nil y.closed);
      clean = clean;
      counted = ap length (opening_clean y sound clean f) ∙ length-batches_in (items_of_all y.closed) clean;
      anchor_is = refl;
      extension_is = refl;
    })

module _ (meaning : Meaning) (key barrier : List ℕ) where
  abbrev I : Instance
  I = opt_instance meaning key barrier

  -- by whether a segment is open
  point_at : (y : History) (flag : Bool) (m : Move) (named rest : List Batch) (a e : List ℕ) → IsSound (flagged y flag)
      → MayMove I (flagged y flag) m → y.batches ≡ named ++ rest → IsPoint I (flagged y flag) named a e
      → IsPoint I (history_after I (flagged y flag) m) named a e
  point_at y true (Commit b) named rest a e sound may first p =
      let z = flagged y true in
      point_commit I z named rest a e (current_clean z sound (open_current z sound refl)) first (y.current ++ b ∷ []) true
      (y.items ++ Own b ∷ []) b refl p
  point_at y false (Commit b) named rest a e sound may first p =
      let z = flagged y false in
      point_commit I z named rest a e (live_clean z sound may.clean) first (b ∷ []) true (entries_with_last_batch y.items b) b
      (ap (λ (v : List Batch). v ++ b ∷ []) (sym (shut_current z sound refl))) p
  point_at y flag (Foreign d) named rest a e sound may first p = point_items I (flagged y flag) (y.items ++ Value d ∷ []) named a e p
  point_at y flag (Placed b) named rest a e sound may first p =
      point_items I (flagged y flag) (y.items ++ Value (guard barrier b) ∷ []) named a e p
  point_at y true Close named rest a e sound may first p =
      let z = flagged y true in point_close I z named rest a e (current_clean z sound (open_current z sound refl)) first p
  point_at y false Close named rest a e sound may first p = absurd may
  point_at y flag _ named rest a e sound may first p = point_items I (flagged y flag) [] named a e p

  place_at : (y : History) (m : Move) (named rest : List Batch) (place : Place) → IsSound y → MayMove I y m → y.batches ≡ named ++ rest
      → IsPlaceOf Opt I y named place → IsPlaceOf Opt I (history_after I y m) named place
  place_at y m named rest (InBasic s) sound may first p = absurd p
  place_at y m named rest (InOpt a e) sound may first p = point_at y y.is_open m named rest a.bytes e.bytes sound may first p

  opt_batches : (y : History) (flag : Bool) (m : Move) → (history_after I (flagged y flag) m).batches ≡ y.batches ++ added m
  unfolding added
  opt_batches y true (Commit b) = refl
  opt_batches y false (Commit b) = refl
  opt_batches y flag _ = sym (append-nil y.batches)

  pub opt_names : (y : History) (m : Move) (offered : Content) → IsSound y → MayMove I y m → NamesPosition I y offered
      → NamesPosition I (history_after I y m) offered
  opt_names y m offered sound may n = record {
    named = n.named;
    rest = n.rest ++ added m;
    first = opt_batches y y.is_open m ∙ ap (λ (v : List Batch). v ++ added m) n.first ∙ append_assoc n.named n.rest (added m);
    position = n.position;
    state = n.state;
    place = place_at y m n.named n.rest offered.place sound may n.first n.place;
  }

  pub opt_issued : (y : History) → IsSound y → has_value (items_of_all y.closed) ≡ false → NamesPosition I y (content_of_issue I y)
  opt_issued y sound clean = record {
    named = y.batches;
    rest = [];
    first = sym (append-nil y.batches);
    position = refl;
    state = refl;
    place = issued_point I y y.is_open sound clean refl;
  }

module _ (meaning : Meaning) (key : List ℕ) where
  basic_batches : (y : History) (m : Move) → (history_after (basic_instance meaning key) y m).batches ≡ y.batches ++ added m
  unfolding added
  basic_batches y (Commit b) = refl
  basic_batches y _ = sym (append-nil y.batches)

  pub basic_names : (y : History) (m : Move) (offered : Content) → NamesPosition (basic_instance meaning key) y offered
      → NamesPosition (basic_instance meaning key) (history_after (basic_instance meaning key) y m) offered
  basic_names y m offered n = record {
    named = n.named;
    rest = n.rest ++ added m;
    first = basic_batches y m ∙ ap (λ (v : List Batch). v ++ added m) n.first ∙ append_assoc n.named n.rest (added m);
    position = n.position;
    state = n.state;
    place = let s = basic_stands meaning key y n.named offered.place n.place in rw s.1 s.2;
  }

  pub basic_issued : (y : History) → NamesPosition (basic_instance meaning key) y (content_of_issue (basic_instance meaning key) y)
  basic_issued y = record { named = y.batches; rest = []; first = sym (append-nil y.batches); position = refl; state = refl; place = refl }

-- Opt: a fresh offer lists the messages that its batch adds to the history.

judged_fresh : (l : Life) (x r : Bool) → verdict_by_tests l x r ≡ IsFresh → (l ≡ Live) × (x ≡ true)
judged_fresh Live true r e = (refl, refl)
judged_fresh Live false true e = absurd (cc)
judged_fresh _ _ _ e = absurd (cc)

current_values : (barrier : List ℕ) (y : History) (flag : Bool) → IsSound y → y.is_open ≡ flag
    → LiveParts flag (is_empty y.items) (are_own y.items y.current) (has_value (items_of_all y.closed))
    → items_taken_in flag (values_of barrier y.items) ≡ own_values barrier y.current
current_values barrier y true sound f live = values_of-own barrier y.items y.current (live.own refl)
current_values barrier y false sound f live = ap (own_values barrier) (sym (shut_current y sound f))

module _ (i : Instance) (y : History) (named rest : List Batch) (a e : List ℕ) (all : List (List ℕ)) (q : Stood i y named rest a e all)
  where
    -- the batch's extension, by the form that fits
    extends : (b : Batch) → AreMessagesIn (point_messages a e (guard i.barrier b)) all
        → items_taken_in y.is_open (values_of i.barrier y.items) ≡ own_values i.barrier y.current
        → IsFreshSomehow y.is_open (map (values_of i.barrier) y.closed) (values_of i.barrier y.items) q.before q.taken
        → Contains all (extended_message (register_of (own_values i.barrier y.current)) (guard i.barrier b))
    extends b call same f =
        let v = guard i.barrier b in let listed = path_messages i y named rest a e all q v call in
        elim f [
          | inl here ↦ rw (here.1, same) at listed.0
          | inr there ↦
              rw (← reads_zero, there.1.1, same) at
              (second_listed i.meaning.id all q.clears.clear q.before q.taken v q.path listed there.0).1.0
        ]

    fresh_on : (b : Batch) → IsSound y → Contains all (guard_message i.barrier b)
        → AreMessagesIn (point_messages a e (guard i.barrier b)) all
        → verdict_on Opt y (total_of named) b ≡ IsFresh → AreMessagesIn (batch_messages i y (Commit b)) all
    fresh_on b sound called call is =
        let both = judged_fresh (life_of Opt y) (nat_eq (total_of named) (total_of y.batches))
        (nat_eq (total_of named + size_of b) (total_of y.batches) && is_last y.batches b) is in
        let parts = live_parts y.is_open (is_empty y.items) (are_own y.items y.current) (has_value (items_of_all y.closed)) both.0 in
        let found = fresh_path i y named rest a e all q (held_at y.is_open y.items i.barrier parts.held)
        (ap (own_values i.barrier) ((at_the_end y.batches named rest q.first).0 both.1)
        ∙ sym (live_values_at i.barrier y y.is_open sound refl (live_clean y sound parts.clean) parts)) in
        (called, (extends b call (current_values i.barrier y y.is_open sound refl parts) found, tt))

pub fresh_lists : (meaning : Meaning) (key barrier : List ℕ) (y : History) (offered : Content) (b : Batch) (all : List (List ℕ)) → IsSound y
    → IsClearFor all (opt_instance meaning key barrier) y offered.place b → NamesPosition (opt_instance meaning key barrier) y offered
    → verdict_on Opt y offered.position b ≡ IsFresh → AreMessagesIn (batch_messages (opt_instance meaning key barrier) y (Commit b)) all
fresh_lists meaning key barrier y offered b all sound clear names e =
    let i = opt_instance meaning key barrier in
    let s = stood_at i y names.named names.rest offered.place all sound clear.clear clear.history names.first names.place in
    let call = rw s.2 at clear.call in
    fresh_on i y names.named names.rest s.0.bytes s.1.bytes all s.3 b sound call.0 call.1 (rw names.position at e)

-- Whether an offer stands where the module stands: the verdicts by digests and on the history tell the same, whatever the
-- batch, and no message of a batch is looked at.

new_by : (fresh again : Bool) → is_new (verdict_by false fresh again) ≡ fresh
new_by false true = refl
new_by _ _ = refl

new_judged : (here repeat : Bool) → is_new (verdict_by_tests Live here repeat) ≡ here
new_judged false true = refl
new_judged _ _ = refl

pub basic_stands_here : (meaning : Meaning) (key register : List ℕ) (y : History) (offered : Content) (b : Batch) (all : List (List ℕ))
    → IsClear all → AreMessagesIn (history_messages (basic_instance meaning key) y) all
    → NamesPosition (basic_instance meaning key) y offered
    → is_new (verdict_by_digests zero_bytes false (cell_digest_of (basic_instance meaning key) Basic y) register offered.place b) ≡ is_new
    (verdict_on Basic y offered.position b)
basic_stands_here meaning key register y offered b all clear history names =
    let s = basic_stands meaning key y names.named offered.place names.place in
    rw (s.1, s.2, names.position) (new_by (bytes_eq (summary_of meaning.id names.named) (summary_of meaning.id y.batches)) _
    ∙ basic_here meaning.id y.batches names.named names.rest all clear history.0 history.1 names.first
    ∙ sym (new_judged (nat_eq (total_of names.named) (total_of y.batches)) (nat_eq (total_of names.named + size_of b)
    (total_of y.batches) && is_last y.batches b)))

new_told : (life : Life) (fresh again here repeat : Bool) → (is_lost_life life ≡ false → fresh ≡ told life here)
    → is_new (verdict_by (is_lost_life life) fresh again) ≡ is_new (verdict_by_tests life here repeat)
new_told Live fresh again here repeat f = new_by fresh again ∙ f refl ∙ sym (new_judged here repeat)
new_told Spoiled fresh again here repeat f = new_by fresh again ∙ f refl
new_told Lost fresh again here repeat f = refl

opt_on : (i : Instance) (y : History) (named rest : List Batch) (a e : List ℕ) (b : Batch) (all : List (List ℕ)) → IsSound y
    → Stood i y named rest a e all → AreMessagesIn (if bytes_eq e zero_bytes then [] else anchored_message a e ∷ []) all
    → AreNoGuards i.barrier (values_in (counted_entries y)) y.batches
    → is_new (opt_verdict y.is_open (anchor_after i y.closed) (register_of (values_of i.barrier y.items)) (forms_of a e)
    (guard i.barrier b)) ≡ is_new (verdict_on Opt y (total_of named) b)
opt_on i y named rest a e b all sound q listed foreign =
    rw (zero_is_lost i y all q.clears.clear q.history.last) (new_told (life_of Opt y) _ _ (nat_eq (total_of named) (total_of y.batches))
    (nat_eq (total_of named + size_of b) (total_of y.batches) && is_last y.batches b)
    (fresh_told i y named rest a e all q sound foreign (λ some.
    let there : bytes_eq (register_of q.taken) zero_bytes ≡ false = zero_tells all q.clears.clear q.taken q.path.last ∙ some in
    (rw (q.anchor_is, q.extension_is, there) at listed).0)))

pub opt_stands_here : (meaning : Meaning) (key barrier : List ℕ) (y : History) (offered : Content) (b : Batch) (all : List (List ℕ))
    → IsSound y → IsClear all → AreMessagesIn (history_messages (opt_instance meaning key barrier) y) all
    → AreMessagesIn (place_messages offered.place) all
    → AreNoGuards barrier (values_in (counted_entries y)) y.batches → NamesPosition (opt_instance meaning key barrier) y offered
    → is_new (verdict_by_digests barrier y.is_open (cell_digest_of (opt_instance meaning key barrier) Opt y)
    (register_value_of (opt_instance meaning key barrier) y) offered.place b) ≡ is_new (verdict_on Opt y offered.position b)
opt_stands_here meaning key barrier y offered b all sound clear history listed foreign names =
    let i = opt_instance meaning key barrier in
    let s = stood_at i y names.named names.rest offered.place all sound clear history names.first names.place in
    rw (s.2, names.position) (opt_on i y names.named names.rest s.0.bytes s.1.bytes b all sound s.3 (rw s.2 at listed) foreign)

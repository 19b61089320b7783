-- Opt: from a sound history the verdict by digests is the verdict on the history. With it: Opt:
-- what the tests of the verdict by digests say of both forms of a place.
use Rattle.std.proofs.lemmas.Bool.{or_left, or_right, false_from_ne_true}
use Rattle.std.proofs.lemmas.Bool.Decides.{Decides-or}
use Rattle.std.proofs.lemmas.List.Elements.{Contains-append_left, Contains-append_right, Contains-push, Contains-push_cases}
use Rattle.mm_digest.specs.declared.digest.Digest.{Digest}
use Rattle.mm_model.proofs.Below.{ℕ, ◌≡◌, Bool, true, false, ◌||◌, List, [], ◌∷◌, ◌++◌, refl, sym, ap, ◌∙◌, subst, ◌⊎◌, if◌then◌else◌}
use Rattle.mm_model.proofs.Below.{Decides, bytes_eq, Contains, list_any, zero_bytes, anchored_message, anchored_digest_of, register_of}
use Rattle.mm_model.proofs.Below.{anchor_of, is_empty, Point, forms_of, is_fresh_form, is_repeat_form, AreMessagesIn, IsClear}
use Rattle.mm_model.proofs.Below.{register_trail, form_messages, point_messages, anchor-push, same_tests, IsFreshPath, IsFreshSomehow}
use Rattle.mm_model.proofs.Below.{IsAgainPath, IsAgainSomehow, true_not_false, HasListedMessages, IsClearFromStart, point_of, fresh_tells}
use Rattle.mm_model.proofs.Below.{again_tells, zero_register, listed_segment, reads_zero, ◌+◌, ◌&&◌, length, map, inl, inr, nat_eq}
use Rattle.mm_model.proofs.Below.{AllByRecursion, append-nil, map-append, Opt, start_digest_of, Batch, size_of, guard_message}
use Rattle.mm_model.proofs.Below.{closing_message, guard, own_values, Meaning, Place, InBasic, InOpt, Content, Instance, opt_instance}
use Rattle.mm_model.proofs.Below.{RegisterEntry, History, items_of_all, total_of, register_value_of, values_of, cell_digest_of, has_value}
use Rattle.mm_model.proofs.Below.{are_own, Life, Live, Spoiled, Lost, life_by, life_of, is_lost_life, verdict_by_digests, is_last}
use Rattle.mm_model.proofs.Below.{verdict_by, opt_verdict, verdict_on, verdict_by_tests, IsPoint, IsPlaceOf, NamesPosition, anchor_after}
use Rattle.mm_model.proofs.Below.{IsClearFor, messages_of, counted_entries, values_in, AreNoGuards, IsSound, IsClean, batches_in, each_left}
use Rattle.mm_model.proofs.Below.{each_right, each_append, trail_front, same_own_values, at_the_end, before_the_last, verdicts}
use Rattle.mm_model.proofs.Below.{items_taken_in, fresh_joins, again_joins, PathReaches, IsHeld, fresh_from, again_from, own_values-append}
use Rattle.mm_model.proofs.Below.{values_of-append, joined-values, has_value-append, values_of-clean, values_of-own, meets}
use Rattle.mm_model.proofs.Paths.{live_clean, path_of, shut_current, each_unmap, history_listed, LiveParts, live_parts, spoiled_parts}
use Rattle.mm_model.proofs.Paths.{lost_test}

-- Opt: what the tests of the verdict by digests say of both forms of a place.

or_nothing : (x : Bool) → x ≡ (x || false)
or_nothing true = refl
or_nothing false = refl

-- a test on some form of a place: there is a second one where its extension isn't zero
on_forms : (A B : Type 0) (test : Point → Bool) (first second : Point) (rest : List (List ℕ)) (is_zero : Bool) → is_zero ≡ is_empty rest
    → Decides (test first) A → (is_empty rest ≡ false → Decides (test second) B)
    → Decides (list_any test (first ∷ (if is_zero then [] else second ∷ []))) (A ⊎ (is_empty rest ≡ false) × B)
on_forms A B test first second rest true r da db =
    Decides-or (test first) false da (λ t. absurd (true_not_false (sym t)), λ q. absurd (true_not_false (r ∙ q.0)))
on_forms A B test first second rest false r da db =
    Decides-or (test first) (test second || false) da (subst (λ x. Decides x ((is_empty rest ≡ false) × B)) (or_nothing (test second))
    (λ t. (sym r, (db (sym r)).0 t), λ q. (db (sym r)).1 q.1))

pub zero_tells : (all : List (List ℕ)) → IsClear all → (rest : List (List ℕ)) → AreMessagesIn (register_trail rest) all
    → bytes_eq (register_of rest) zero_bytes ≡ is_empty rest
zero_tells all clear [] l = (zero_register all clear [] l).1 refl
zero_tells all clear (v ∷ rest) l =
    same_tests _ _ (λ t. ap is_empty ((zero_register all clear (v ∷ rest) l).0 t)) (λ e. absurd (true_not_false (sym e)))

module _ (id : ℕ) where
  -- the second form
  abbrev closed_point : List (List (List ℕ)) → List (List ℕ) → Point
  closed_point before rest = record { anchor = anchored_digest_of (anchor_of id before) (register_of rest); extension = zero_bytes }

  -- it is the point at the anchor after one more segment
  second_is : (before : List (List (List ℕ))) (rest : List (List ℕ)) → point_of id (before ++ rest ∷ []) [] ≡ closed_point before rest
  second_is before rest = λ j. record { anchor = anchor-push id before rest j; extension = reads_zero j }

  -- the messages of its place, where there is one
  pub second_listed : (all : List (List ℕ)) → IsClear all → (before : List (List (List ℕ))) (rest : List (List ℕ)) (v : List ℕ)
      → HasListedMessages id all before rest → AreMessagesIn (point_messages (anchor_of id before) (register_of rest) v) all
      → is_empty rest ≡ false
      → Contains all (anchored_message (anchor_of id before) (register_of rest))
      × AreMessagesIn (form_messages (anchored_digest_of (anchor_of id before) (register_of rest)) zero_bytes v) all
  second_listed all clear before rest v l m some =
      let there : bytes_eq (register_of rest) zero_bytes ≡ false = zero_tells all clear rest l.last ∙ some in rw there at m.1.1

module _ (id : ℕ) (all : List (List ℕ)) (clears : IsClearFromStart id all) (flag : Bool) (closed : List (List (List ℕ)))
    (items : List (List ℕ))
    (before : List (List (List ℕ))) (rest : List (List ℕ)) (k : HasListedMessages id all closed items)
    (l : HasListedMessages id all before rest) where
  pub fresh_somehow : (is_empty rest ≡ false → Contains all (anchored_message (anchor_of id before) (register_of rest)))
      → Decides (list_any (is_fresh_form flag (anchor_of id closed) (register_of items))
      (forms_of (anchor_of id before) (register_of rest)))
      (IsFreshSomehow flag closed items before rest)
  fresh_somehow closes =
      let test = is_fresh_form flag (anchor_of id closed) (register_of items) in
      on_forms (IsFreshPath flag closed items before rest) (IsFreshPath flag closed items (before ++ rest ∷ []) []) test
      (point_of id before rest)
      (closed_point id before rest) rest (bytes_eq (register_of rest) zero_bytes) (zero_tells all clears.clear rest l.last)
      (fresh_tells id all clears flag closed items before rest k l) (λ some.
      subst (λ (x : Point). Decides (test x) (IsFreshPath flag closed items (before ++ rest ∷ []) [])) (second_is id before rest)
      (fresh_tells id all clears flag closed items (before ++ rest ∷ []) [] k
      (listed_segment id all before rest l.inner l.outer l.last (closes some))))

  pub again_somehow : (v : List ℕ) → AreMessagesIn (point_messages (anchor_of id before) (register_of rest) v) all
      → Decides (list_any (is_repeat_form flag (anchor_of id closed) (register_of items) v)
      (forms_of (anchor_of id before) (register_of rest)))
      (IsAgainSomehow flag closed items v before rest)
  again_somehow v m =
      let test = is_repeat_form flag (anchor_of id closed) (register_of items) v in
      on_forms (IsAgainPath flag closed items v before rest) (IsAgainPath flag closed items v (before ++ rest ∷ []) []) test
      (point_of id before rest)
      (closed_point id before rest) rest (bytes_eq (register_of rest) zero_bytes) (zero_tells all clears.clear rest l.last)
      (again_tells id all clears flag closed items v before rest k l (m.0, (m.1.0, tt))) (λ some.
      let second = second_listed id all clears.clear before rest v l m some in
      subst (λ (x : Point). AreMessagesIn (form_messages x.anchor x.extension v) all → Decides (test x)
      (IsAgainPath flag closed items v (before ++ rest ∷ []) [])) (second_is id before rest)
      (again_tells id all clears flag closed items v (before ++ rest ∷ []) [] k
      (listed_segment id all before rest l.inner l.outer l.last second.0)) second.1)

-- Opt: from a sound history the verdict by digests is the verdict on the history.

-- the values that count, with the register's items where a segment is open
counted_values : (barrier : List ℕ) (flag : Bool) (closed : List (List RegisterEntry)) (items : List RegisterEntry)
    → items_of_all (map (values_of barrier) closed) ++ items_taken_in flag (values_of barrier items) ≡ values_of barrier
    (items_of_all closed ++ (if flag then items else []))
counted_values barrier true closed items = rw (joined-values barrier closed, values_of-append barrier (items_of_all closed) items) refl
counted_values barrier false closed items =
    rw (append-nil (items_of_all (map (values_of barrier) closed)), append-nil (items_of_all closed)) (joined-values barrier closed)

pub live_values_at : (barrier : List ℕ) (y : History) (flag : Bool) → IsSound y → y.is_open ≡ flag → IsClean y
    → LiveParts flag (is_empty y.items) (are_own y.items y.current) (has_value (items_of_all y.closed))
    → values_of barrier (items_of_all y.closed ++ (if flag then y.items else [])) ≡ own_values barrier y.batches
live_values_at barrier y true sound f h live =
    rw (values_of-append barrier (items_of_all y.closed) y.items, values_of-clean barrier (items_of_all y.closed) h.clean)
    (rw (values_of-own barrier y.items y.current (live.own refl), h.batches)
    (sym (own_values-append barrier (batches_in (items_of_all y.closed)) y.current)))
live_values_at barrier y false sound f h live =
    rw (append-nil (items_of_all y.closed), h.batches, shut_current y sound f, append-nil (batches_in (items_of_all y.closed)))
    (values_of-clean barrier (items_of_all y.closed) h.clean)

pub held_at : (flag : Bool) (items : List RegisterEntry) (barrier : List ℕ) → (flag ≡ true → is_empty items ≡ false)
    → IsHeld flag (values_of barrier items)
held_at true [] barrier h = absurd (true_not_false (h refl))
held_at true (x ∷ items) barrier h = refl
held_at false items barrier h = tt

module _ (y : History) where
  spoiled_has_at : (flag : Bool) → IsSound y → y.is_open ≡ flag → life_by flag (is_empty y.items) (are_own y.items y.current)
      (has_value (items_of_all y.closed)) ≡ Spoiled → has_value (items_of_all y.closed ++ (if flag then y.items else [])) ≡ true
  spoiled_has_at flag sound f e =
      has_value-append (items_of_all y.closed) (if flag then y.items else []) ∙
      elim (spoiled_parts flag (is_empty y.items) (are_own y.items y.current) (has_value (items_of_all y.closed)) e) [
        | inl m ↦ or_left (has_value (items_of_all y.closed)) (has_value (if flag then y.items else [])) m
        | inr o ↦
            let is : has_value y.items ≡ true = elim (sound.register (f ∙ o.0)) [
              | inl own ↦ absurd (true_not_false (sym own ∙ o.2))
              | inr (inl none) ↦ absurd (true_not_false (ap is_empty (sym none) ∙ o.1))
              | inr (inr has) ↦ has
            ] in
            or_right (has_value (items_of_all y.closed)) (has_value (if flag then y.items else []))
            (ap (λ (b : Bool). has_value (if b then y.items else [])) o.0 ∙ is)
      ]

pub zero_items : (barrier : List ℕ) (items : List RegisterEntry) → is_empty (values_of barrier items) ≡ is_empty items
zero_items barrier [] = refl
zero_items barrier (x ∷ items) = refl

-- An offered place as a path, with what a verdict on it looks at, but for the messages of a call.
pub record Stood (i : Instance) (y : History) (named rest : List Batch) (a e : List ℕ) (all : List (List ℕ)) : Type 0 where
  pub before : List (List (List ℕ))
  pub taken : List (List ℕ)
  pub later : List (List (List ℕ))
  pub anchor_is : a ≡ anchor_of i.meaning.id before
  pub extension_is : e ≡ register_of taken
  pub first : y.batches ≡ named ++ rest
  pub split : map (values_of i.barrier) y.closed ≡ before ++ later
  pub flat : items_of_all before ++ taken ≡ own_values i.barrier named
  pub reaches : PathReaches y.is_open later (length taken)
  pub filled : AllByRecursion (λ vs. is_empty vs ≡ false) later
  pub clears : IsClearFromStart i.meaning.id all
  pub history : HasListedMessages i.meaning.id all (map (values_of i.barrier) y.closed) (values_of i.barrier y.items)
  pub path : HasListedMessages i.meaning.id all before taken
  pub guards : AreMessagesIn (map (guard_message i.barrier) y.batches) all

stood_of : (i : Instance) (y : History) (named rest : List Batch) (a e : List ℕ) (all : List (List ℕ)) → IsSound y → IsClear all
    → AreMessagesIn (messages_of Opt i y) all → y.batches ≡ named ++ rest → IsPoint i y named a e → Stood i y named rest a e all
stood_of i y named rest a e all sound clear history first place =
    let h = history_listed i y all history in let p = path_of i y named rest a e sound first all h.runs place in
    let V = values_of i.barrier in let before = map V p.before in let taken = own_values i.barrier p.taken in
    let id = i.meaning.id in
    let split : map V y.closed ≡ before ++ map V p.later = ap (map V) p.split ∙ map-append V p.before p.later in
    record {
      before = before;
      taken = taken;
      later = map V p.later;
      anchor_is = p.anchor_is;
      extension_is = p.extension_is;
      first = first;
      split = split;
      flat = ap (λ (v : List (List ℕ)). v ++ taken) (joined-values i.barrier p.before) ∙ p.flat;
      reaches = p.reaches;
      filled = each_unmap (λ vs. is_empty vs ≡ false) (λ segment. is_empty segment ≡ false) V
          (λ segment some. zero_items i.barrier segment ∙ some) p.later
          (each_right (λ segment. is_empty segment ≡ false) p.before p.later (rw p.split at sound.filled));
      clears = record { clear = clear; starts = h.starts };
      history = h.listed;
      path = record {
        inner = each_left (λ vs. AreMessagesIn (register_trail vs) all) _ _ (rw split at h.listed.inner);
        outer = trail_front closing_message (start_digest_of Opt id) before (map V p.later) all (rw split at h.listed.outer);
        last = p.listed;
      };
      guards = h.guards;
    }

pub stood_at : (i : Instance) (y : History) (named rest : List Batch) (place : Place) (all : List (List ℕ)) → IsSound y → IsClear all
    → AreMessagesIn (messages_of Opt i y) all → y.batches ≡ named ++ rest → IsPlaceOf Opt i y named place
    → (a : Digest) × (e : Digest) × (place ≡ InOpt a e) × Stood i y named rest a.bytes e.bytes all
stood_at i y named rest (InBasic s) all sound clear history first is = absurd is
stood_at i y named rest (InOpt a e) all sound clear history first is =
    (a, e, refl, stood_of i y named rest a.bytes e.bytes all sound clear history first is)

-- what a test tells of a history that isn't lost: nothing holds of one that is spoiled
abbrev pub told : Life → Bool → Bool
told Live here = here
told _ here = false

verdict_told : (life : Life) (fresh again here repeat : Bool) → (is_lost_life life ≡ false → fresh ≡ told life here)
    → (is_lost_life life ≡ false → again ≡ told life repeat) → verdict_by (is_lost_life life) fresh again
    ≡ verdict_by_tests life here repeat
verdict_told Live fresh again here repeat f g = rw (f refl, g refl) (verdicts here repeat)
verdict_told Spoiled fresh again here repeat f g = rw (f refl, g refl) refl
verdict_told Lost fresh again here repeat f g = refl

-- the register reads zero under a set flag exactly where power was lost inside an open segment
pub zero_is_lost : (i : Instance) (y : History) (all : List (List ℕ)) → IsClear all
    → AreMessagesIn (register_trail (values_of i.barrier y.items)) all
    → (y.is_open && bytes_eq (register_of (values_of i.barrier y.items)) zero_bytes) ≡ is_lost_life (life_of Opt y)
zero_is_lost i y all clear items =
    ap (λ (x : Bool). y.is_open && x) (zero_tells all clear (values_of i.barrier y.items) items ∙ zero_items i.barrier y.items)
    ∙ lost_test y.is_open (is_empty y.items) (are_own y.items y.current) (has_value (items_of_all y.closed))

-- all first batches are among those of the history, and with that of a call among those and that one
pub among_all : (batches named rest : List Batch) → batches ≡ named ++ rest → (c : Batch) → Contains named c → Contains batches c
among_all batches named rest first c h = subst (λ (v : List Batch). Contains v c) (sym first) (Contains-append_left named rest c h)

among_asked : (batches named rest : List Batch) (b : Batch) → batches ≡ named ++ rest → (c : Batch) → Contains (named ++ b ∷ []) c
    → Contains (b ∷ batches) c
among_asked batches named rest b first c h = elim (Contains-push_cases named b c h) [
  | inl old ↦ Contains-append_right (b ∷ []) batches c (among_all batches named rest first c old)
  | inr new ↦ subst (λ (d : Batch). Contains (b ∷ batches) d) new (Contains-append_left (b ∷ []) batches b (Contains-push [] b))
]

module _ (i : Instance) (y : History) (named rest : List Batch) (a e : List ℕ) (all : List (List ℕ))
    (q : Stood i y named rest a e all) where
  abbrev closed_here : List (List (List ℕ))
  closed_here = map (values_of i.barrier) y.closed

  abbrev items_here : List (List ℕ)
  items_here = values_of i.barrier y.items

  abbrev counts_here : Bool
  counts_here = nat_eq (total_of named) (total_of y.batches)

  abbrev repeats_here : Batch → Bool
  repeats_here b = nat_eq (total_of named + size_of b) (total_of y.batches) && is_last y.batches b

  flat_here : items_of_all closed_here ++ items_taken_in y.is_open items_here ≡ values_of i.barrier (counted_entries y)
  flat_here = counted_values i.barrier y.is_open y.closed y.items

  pub fresh_path : IsHeld y.is_open items_here → own_values i.barrier named ≡ values_of i.barrier (counted_entries y)
      → IsFreshSomehow y.is_open closed_here items_here q.before q.taken
  fresh_path held is = fresh_from y.is_open closed_here q.before q.later items_here q.taken q.split q.filled held q.reaches
      (q.flat ∙ is ∙ sym flat_here)

  -- the messages of a call at the path
  pub path_messages : (v : List ℕ) → AreMessagesIn (point_messages a e v) all
      → AreMessagesIn (point_messages (anchor_of i.meaning.id q.before) (register_of q.taken) v) all
  path_messages v call = rw (q.anchor_is, q.extension_is) at call

  guards_of_named : AreMessagesIn (map (guard_message i.barrier) named) all
  guards_of_named = each_left (Contains all) (map (guard_message i.barrier) named) _
      (rw (q.first, map-append (guard_message i.barrier) named rest) at q.guards)

  -- A test that holds exactly where the values of these batches are all that count: by the life of the history.
  test_told : IsSound y → (batches : List Batch) (Fits : Type 0) (test here : Bool) → Decides test Fits → Decides here (batches ≡ y.batches)
      → (Fits → own_values i.barrier batches ≡ values_of i.barrier (counted_entries y))
      → (IsHeld y.is_open items_here → own_values i.barrier batches ≡ values_of i.barrier (counted_entries y) → Fits)
      → AreMessagesIn (map (guard_message i.barrier) batches) all → AreNoGuards i.barrier (values_in (counted_entries y)) batches
      → (life : Life) → life_of Opt y ≡ life → is_lost_life life ≡ false → test ≡ told life here
  test_told sound batches Fits test here df dh counts fits listed foreign Live is alive =
      let parts = live_parts y.is_open (is_empty y.items) (are_own y.items y.current) (has_value (items_of_all y.closed)) is in
      let live = live_values_at i.barrier y y.is_open sound refl (live_clean y sound parts.clean) parts in
      same_tests test here
      (λ t. dh.1 (same_own_values i.barrier all q.clears.clear batches y.batches listed q.guards (counts (df.0 t) ∙ live)))
      (λ t. df.1 (fits (held_at y.is_open y.items i.barrier parts.held) (ap (own_values i.barrier) (dh.0 t) ∙ sym live)))
  test_told sound batches Fits test here df dh counts fits listed foreign Spoiled is alive =
      let has = spoiled_has_at y y.is_open sound refl is in
      false_from_ne_true test (λ t.
      let m = meets i.barrier (counted_entries y) batches has (sym (counts (df.0 t))) in foreign m.value m.batch m.among m.asked m.same)
  test_told sound batches Fits test here df dh counts fits listed foreign Lost is alive = absurd (true_not_false alive)

  pub fresh_told : IsSound y → AreNoGuards i.barrier (values_in (counted_entries y)) y.batches
      → (is_empty q.taken ≡ false → Contains all (anchored_message (anchor_of i.meaning.id q.before) (register_of q.taken)))
      → is_lost_life (life_of Opt y) ≡ false
      → list_any (is_fresh_form y.is_open (anchor_of i.meaning.id closed_here) (register_of items_here)) (forms_of a e)
      ≡ told (life_of Opt y) counts_here
  fresh_told sound foreign closes =
      rw (q.anchor_is, q.extension_is)
      (test_told sound named (IsFreshSomehow y.is_open closed_here items_here q.before q.taken) _ counts_here
      (fresh_somehow i.meaning.id all q.clears y.is_open closed_here items_here q.before q.taken q.history q.path closes)
      (at_the_end y.batches named rest q.first)
      (λ f. sym q.flat ∙ fresh_joins y.is_open closed_here items_here q.before q.taken f ∙ flat_here) fresh_path guards_of_named
      (λ d c among asked. foreign d c among (among_all y.batches named rest q.first c asked)) (life_of Opt y) refl)

  again_told : IsSound y → (b : Batch) → AreNoGuards i.barrier (values_in (counted_entries y)) (b ∷ y.batches)
      → Contains all (guard_message i.barrier b)
      → AreMessagesIn (point_messages (anchor_of i.meaning.id q.before) (register_of q.taken) (guard i.barrier b)) all
      → is_lost_life (life_of Opt y) ≡ false
      → list_any (is_repeat_form y.is_open (anchor_of i.meaning.id closed_here) (register_of items_here) (guard i.barrier b)) (forms_of a e)
      ≡ told (life_of Opt y) (repeats_here b)
  again_told sound b foreign called listed =
      let v = guard i.barrier b in
      let more : own_values i.barrier (named ++ b ∷ []) ≡ (items_of_all q.before ++ q.taken) ++ v ∷ [] =
      own_values-append i.barrier named (b ∷ []) ∙ ap (λ (w : List (List ℕ)). w ++ v ∷ []) (sym q.flat) in
      rw (q.anchor_is, q.extension_is) (test_told sound (named ++ b ∷ [])
      (IsAgainSomehow y.is_open closed_here items_here v q.before q.taken) _ (repeats_here b)
      (again_somehow i.meaning.id all q.clears y.is_open closed_here items_here q.before q.taken q.history q.path v listed)
      (before_the_last y.batches named rest b q.first)
      (λ f. more ∙ again_joins y.is_open closed_here items_here v q.before q.taken f ∙ flat_here)
      (λ held is. again_from y.is_open closed_here q.before q.later items_here v q.taken q.split q.filled held q.reaches
      (sym more ∙ is ∙ sym flat_here))
      (rw (map-append (guard_message i.barrier) named (b ∷ [])) (each_append (Contains all) _ _ guards_of_named (called, tt)))
      (λ d c among asked. foreign d c among (among_asked y.batches named rest b q.first c asked)) (life_of Opt y) refl)

  -- the verdict, by the path that the place is
  opt_on : IsSound y → (b : Batch) → Contains all (guard_message i.barrier b) → AreMessagesIn (point_messages a e (guard i.barrier b)) all
      → AreNoGuards i.barrier (values_in (counted_entries y)) (b ∷ y.batches)
      → opt_verdict y.is_open (anchor_after i y.closed) (register_of items_here) (forms_of a e) (guard i.barrier b)
      ≡ verdict_on Opt y (total_of named) b
  opt_on sound b called call foreign =
      let v = guard i.barrier b in let listed = path_messages v call in
      rw (zero_is_lost i y all q.clears.clear q.history.last) (verdict_told (life_of Opt y) _ _ counts_here (repeats_here b)
      (fresh_told sound (λ d c among asked. foreign d c among (Contains-append_right (b ∷ []) y.batches c asked))
      (λ some. (second_listed i.meaning.id all q.clears.clear q.before q.taken v q.path listed some).0))
      (again_told sound b foreign called listed))

pub opt_is_judged : (meaning : Meaning) (key barrier : List ℕ) (y : History) (offered : Content) (b : Batch) (all : List (List ℕ))
    → IsSound y → IsClearFor all (opt_instance meaning key barrier) y offered.place b
    → NamesPosition (opt_instance meaning key barrier) y offered
    → verdict_by_digests barrier y.is_open (cell_digest_of (opt_instance meaning key barrier) Opt y)
    (register_value_of (opt_instance meaning key barrier) y)
    offered.place b ≡ verdict_on Opt y offered.position b
opt_is_judged meaning key barrier y offered b all sound clear names =
    let i = opt_instance meaning key barrier in
    let s = stood_at i y names.named names.rest offered.place all sound clear.clear clear.history names.first names.place in
    let call = rw s.2 at clear.call in
    rw (s.2, names.position) (opt_on i y names.named names.rest s.0.bytes s.1.bytes all s.3 sound b call.0 call.1 clear.foreign)

pub lost_is_zero : (meaning : Meaning) (key barrier : List ℕ) (y : History) (all : List (List ℕ)) → IsClear all
    → AreMessagesIn (messages_of Opt (opt_instance meaning key barrier) y) all
    → (y.is_open && bytes_eq (register_value_of (opt_instance meaning key barrier) y) zero_bytes) ≡ is_lost_life (life_of Opt y)
lost_is_zero meaning key barrier y all clear history =
    let i = opt_instance meaning key barrier in zero_is_lost i y all clear (history_listed i y all history).listed.last

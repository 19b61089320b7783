-- A history that went on from another: what names a position of it stands where the other rests exactly where it counts as many
-- requests.
use Rattle.mm_sides.proofs.Below.{[], ◌&&◌, ◌++◌, ◌+◌, ◌-◌, ◌∙◌, ◌∷◌, ◌≡◌, ◌≤◌, AllByRecursion, anchor_after, anchored_message, ap}
use Rattle.mm_sides.proofs.Below.{append-nil, are_own, arith, Basic, basic_instance, Batch, Bool, bytes_eq, bytes_eq-Decides, Contains}
use Rattle.mm_sides.proofs.Below.{Content, each_left, each_right, RegisterEntry, false, has_value, History, history_messages, if◌then◌else◌}
use Rattle.mm_sides.proofs.Below.{inl, inr, Instance, is_empty, is_new, IsClear, IsPlaceOf, IsPoint, items_of_all, length, length-append}
use Rattle.mm_sides.proofs.Below.{Life, life_by, List, map, map-append, Meaning, NamesPosition, nat_eq, opt_instance, Opt, place_messages}
use Rattle.mm_sides.proofs.Below.{refl, size_of, start_message, subst, sym, total_of, true, AreMessagesIn, zero_bytes, ℕ}
use Rattle.std.proofs.Common.{◌<◌, ◌||◌, ◌⊎◌, append_assoc, take, drop}
use Rattle.std.proofs.lemmas.Bool.{both_ways, false_from_ne_true, or_parts}
use Rattle.std.proofs.lemmas.Bool.Decides.{Decides-and, Decides-or, Decides-eqb}
use Rattle.std.proofs.lemmas.List.{append_cancel_left, drop-drop, length-map, take_all}
use Rattle.std.proofs.Math.Seq.{drop-append_seam}
use Rattle.std.specs.Bool.{Decides}
use Rattle.std.specs.List.{flat_map, list_any}
use Rattle.mm_digest.specs.Messages.{anchored_digest_of, extended_message, start_digest_of}
use Rattle.mm_evidence.proofs.Above.{fronts_cases, IsLonger}
use Rattle.mm_model.proofs.Above.{shut_current}
use Rattle.mm_model.specs.BatchLaws.{basic_stands, same_fronts, same_tests}
use Rattle.mm_model.specs.ListLaws.{trail_front, anchor-push, bytes_decide, register_nonzero, same_anchors, same_summaries, ends}
use Rattle.mm_model.specs.Chains.{anchor_of, closing_message, guard, guard_message, link_message, register_of, summary_of, trail}
use Rattle.mm_model.specs.Chains.{own_values}
use Rattle.mm_model.specs.FormLaws.{HasListedMessages, listed_segment}
use Rattle.mm_model.specs.History.{extension_value, cell_digest_of, values_of}
use Rattle.mm_model.specs.SegmentLaws.{batches_in-append, has_value-append, length-batches_in, own_values-append, sooner, values_of-clean}
use Rattle.mm_model.specs.SegmentLaws.{joined-append, joined-push, no_segments, not_empty, same_halves, true_not_false}
use Rattle.mm_model.specs.Verdicts.{is_repeat_form, is_fresh_form, forms_of, is_last, verdict_on, verdict_by_tests, Point, verdict_by}
use Rattle.mm_model.specs.Verdicts.{verdict_by_digests}
use Rattle.mm_model.specs.Standing.{Live, at_anchor, IsAnchorPoint, in_closed, in_current, IsClosedPoint, IsCurrentPoint, IsClean, IsSound}
use Rattle.mm_model.specs.Standing.{batches_in}
use Rattle.mm_model.specs.Messages.{closed_runs, messages_of, register_trail, runs_of}
use Rattle.mm_seal.specs.declared.snapshot.Place.{Place}
use Rattle.mm_seal.specs.declared.snapshot.Place.TheVariants.{Basic as InBasic, Opt as InOpt}

-- from one history to another that has more batches and closed segments
pub record WentOn (y z : History) : Type 0 where
  pub more : List Batch
  pub newer : List (List RegisterEntry)
  pub batches : z.batches ≡ y.batches ++ more
  pub closed : z.closed ≡ y.closed ++ newer

-- it rests, and goes on
pub record Rests (y : History) : Type 0 where
  pub shut : y.is_open ≡ false
  pub clean : has_value (items_of_all y.closed) ≡ false
  pub batches : y.batches ≡ batches_in (items_of_all y.closed)

-- as many entries as batches
rests_count : (y : History) → Rests y → length y.batches ≡ length (items_of_all y.closed)
rests_count y r = ap length r.batches ∙ length-batches_in (items_of_all y.closed) r.clean

-- the messages of a history, by kind

each_flat : {A B : Type 0} (P : B → Type 0) (f : A → List B) (xs : List A) → AllByRecursion P (flat_map f xs)
    → AllByRecursion (λ x. AllByRecursion P (f x)) xs
each_flat P f [] h = tt
each_flat P f (x ∷ xs) h = (each_left P (f x) (flat_map f xs) h, each_flat P f xs (each_right P (f x) (flat_map f xs) h))

each_map : {A B : Type 0} (P : B → Type 0) (f : A → B) (xs : List A) → AllByRecursion (λ x. P (f x)) xs → AllByRecursion P (map f xs)
each_map P f [] h = tt
each_map P f (x ∷ xs) h = (h.0, each_map P f xs h.1)

record HasListed (i : Instance) (z : History) (all : List (List ℕ)) : Type 0 where
  starts : Contains all (start_message Opt i.meaning.id)
  runs : AllByRecursion (λ run. AreMessagesIn (register_trail (own_values i.barrier run)) all) (runs_of z)
  inner : AllByRecursion (λ segment. AreMessagesIn (register_trail (values_of i.barrier segment)) all) z.closed
  outer : AreMessagesIn (trail closing_message (start_digest_of Opt i.meaning.id) (map (values_of i.barrier) z.closed)) all

listed_by : (i : Instance) (z : History) (all : List (List ℕ)) → AreMessagesIn (messages_of Opt i z) all → HasListed i z all
listed_by i z all h =
    let C = Contains all in
    let g = map (guard_message i.barrier) z.batches in
    let r = flat_map (λ run. register_trail (own_values i.barrier run)) (runs_of z) in
    let c = flat_map (λ segment. register_trail (values_of i.barrier segment)) z.closed in
    let v = register_trail (values_of i.barrier z.items) in
    let t = trail closing_message (start_digest_of Opt i.meaning.id) (map (values_of i.barrier) z.closed) in
    let three = each_left C (g ++ r ++ c) v (each_left C (g ++ r ++ c ++ v) t h.1) in
    record {
      starts = h.0;
      runs = each_flat C (λ run. register_trail (own_values i.barrier run)) (runs_of z) (each_right C g r (each_left C (g ++ r) c three));
      inner = each_flat C (λ segment. register_trail (values_of i.barrier segment)) z.closed (each_right C (g ++ r) c three);
      outer = each_right C (g ++ r ++ c ++ v) t h.1;
    }

-- what the tests of both forms of a place tell, where nothing is open

abbrev Stands : (anchor a e : List ℕ) → Type 0
Stands anchor a e = ((a ≡ anchor) × (e ≡ zero_bytes)) ⊎ ((e ≡ zero_bytes → ⊥) × (anchored_digest_of a e ≡ anchor))

forms_told : (anchor register a e : List ℕ) (none : Bool) → bytes_eq e zero_bytes ≡ none
    → (let forms : List Point = record { anchor = a; extension = e }
    ∷ (if none then [] else record { anchor = anchored_digest_of a e; extension = zero_bytes } ∷ []) in
    Decides (list_any (is_fresh_form false anchor register) forms) (Stands anchor a e))
forms_told anchor register a e true is =
    Decides-or (bytes_eq a anchor && bytes_eq e zero_bytes) false
    (Decides-and (bytes_eq a anchor) (bytes_eq e zero_bytes) (bytes_eq-Decides a anchor) (bytes_eq-Decides e zero_bytes))
    (λ t. absurd (true_not_false (sym t)), λ s. absurd (s.0 ((bytes_eq-Decides e zero_bytes).0 is)))
forms_told anchor register a e false is =
    let second : Bool = bytes_eq (anchored_digest_of a e) anchor && bytes_eq zero_bytes zero_bytes in
    let both = Decides-and (bytes_eq (anchored_digest_of a e) anchor) (bytes_eq zero_bytes zero_bytes)
    (bytes_eq-Decides (anchored_digest_of a e) anchor)
    (bytes_eq-Decides zero_bytes zero_bytes) in
    Decides-or (bytes_eq a anchor && bytes_eq e zero_bytes) (second || false)
    (Decides-and (bytes_eq a anchor) (bytes_eq e zero_bytes) (bytes_eq-Decides a anchor) (bytes_eq-Decides e zero_bytes)) (
      λ t. (λ z. both_ways (bytes_eq e zero_bytes) is ((bytes_eq-Decides e zero_bytes).1 z), (both.0 (rest_is second t)).0),
      λ s. is_rest second (both.1 (s.1, refl)),
    )
  where
    rest_is : (b : Bool) → (b || false) ≡ true → b ≡ true
    rest_is true e = refl
    rest_is false e = e

    is_rest : (b : Bool) → b ≡ true → (b || false) ≡ true
    is_rest b e = ap (λ (x : Bool). x || false) e

new_by : (fresh again : Bool) → is_new (verdict_by false fresh again) ≡ fresh
new_by false true = refl
new_by _ _ = refl

new_judged : (here repeat : Bool) → is_new (verdict_by_tests Live here repeat) ≡ here
new_judged false true = refl
new_judged _ _ = refl

pushed : (front : List (List RegisterEntry)) (last : List RegisterEntry) → is_empty (front ++ last ∷ []) ≡ false
pushed [] last = refl
pushed (x ∷ front) last = refl

-- a list with so many elements at most that begins as another begins with it
begins_with : (taken bs rest tail : List Batch) → taken ++ rest ≡ bs ++ tail → length taken ≤ length bs
    → (m : List Batch) × (bs ≡ taken ++ m)
begins_with taken bs rest tail e fits = elim (fronts_cases taken bs rest tail e) [
  | inl same ↦ ([], sym same ∙ sym (append-nil taken))
  | inr (inl l) ↦ (l.next ∷ l.more, l.is)
  | inr (inr l) ↦ absurd (let sizes = ap length l.is in omega (arith, sizes, length-append bs (l.next ∷ l.more), fits))
]

-- the run of the last closed segment has all batches from its start on
last_run : (P : List Batch → Type 0) (before : List (List RegisterEntry)) (segment : List RegisterEntry) (bs : List Batch)
    → AllByRecursion P (closed_runs (before ++ segment ∷ []) bs) → P (drop (length (items_of_all before)) bs)
last_run P [] segment bs h = h.0
last_run P (s ∷ []) segment bs h =
    subst P (ap (λ (n : ℕ). drop n bs) (let e : length s ≡ length (s ++ []) = ap length (sym (append-nil s)) in e)) h.1.0
last_run P (s ∷ t ∷ before) segment bs h =
    subst P (drop-drop (length (items_of_all (t ∷ before))) (length s) bs
    ∙ ap (λ (n : ℕ). drop n bs) (sym (length-append s (items_of_all (t ∷ before)))))
    (last_run P (t ∷ before) segment (drop (length s) bs) h.1)

module _ (i : Instance) (z : History) (all : List (List ℕ)) (sound : IsSound z) (clear : IsClear all) (h : HasListed i z all) where
  abbrev V : List RegisterEntry → List (List ℕ)
  V = values_of i.barrier

  abbrev Told : List Batch → Type 0
  Told run = AreMessagesIn (register_trail (own_values i.barrier run)) all

  told_front : (taken more : List Batch) → Told (taken ++ more) → Told taken
  told_front taken more t =
      let cut : own_values i.barrier (taken ++ more) ≡ own_values i.barrier taken ++ own_values i.barrier more =
      own_values-append i.barrier taken more in
      trail_front extended_message zero_bytes (own_values i.barrier taken) (own_values i.barrier more) all
      (subst (λ (vs : List (List ℕ)). AreMessagesIn (register_trail vs) all) cut t)

  -- first batches of a closed segment
  module _ (before : List (List RegisterEntry)) (segment : List RegisterEntry) (later : List (List RegisterEntry))
      (done taken rest : List Batch)
      (split : z.closed ≡ before ++ segment ∷ later) (all_are : z.batches ≡ done ++ (taken ++ rest))
      (counted : length done ≡ length (items_of_all before)) where
    in_clean : (between : List (List RegisterEntry)) (tail : List Batch) → has_value (items_of_all (before ++ segment ∷ between)) ≡ false
        → z.batches ≡ batches_in (items_of_all (before ++ segment ∷ between)) ++ tail
        → (length taken ≤ length segment) ⊎ ((between ≡ []) × (tail ≡ [])) → Told taken
    in_clean between tail clean batches fits =
        let parts : items_of_all (before ++ segment ∷ between) ≡ items_of_all before ++ (segment ++ items_of_all between) =
        joined-append before (segment ∷ between) in
        let whole = or_parts (has_value (items_of_all before)) (has_value (segment ++ items_of_all between))
        (sym (has_value-append (items_of_all before) (segment ++ items_of_all between)) ∙ ap has_value (sym parts) ∙ clean) in
        let inside = or_parts (has_value segment) (has_value (items_of_all between))
        (sym (has_value-append segment (items_of_all between)) ∙ whole.1) in
        let bs = batches_in segment in
        let end = batches_in (items_of_all between) ++ tail in
        let is : done ++ (taken ++ rest) ≡ batches_in (items_of_all before) ++ (bs ++ end) =
        sym all_are ∙ batches ∙ ap (λ (es : List RegisterEntry). batches_in es ++ tail) parts
        ∙ ap (λ (l : List Batch). l ++ tail) (batches_in-append (items_of_all before) (segment ++ items_of_all between)
        ∙ ap (λ (l : List Batch). batches_in (items_of_all before) ++ l) (batches_in-append segment (items_of_all between)))
        ∙ append_assoc (batches_in (items_of_all before)) (bs ++ batches_in (items_of_all between)) tail
        ∙ ap (λ (l : List Batch). batches_in (items_of_all before) ++ l) (append_assoc bs (batches_in (items_of_all between)) tail) in
        let halves = same_halves done (batches_in (items_of_all before)) (taken ++ rest) (bs ++ end)
        (counted ∙ sym (length-batches_in (items_of_all before) whole.0)) is in
        let size = length-batches_in segment inside.0 in
        let short : length taken ≤ length bs = elim fits [
          | inl le ↦ omega (arith, le, size)
          | inr none ↦
              let last : end ≡ [] = (λ j. batches_in (items_of_all (none.0 j)) ++ none.1 j) in
              let sizes = ap length halves.1 in
              omega (arith, sizes, length-append taken rest, length-append bs end, ap length last)
        ] in
        let m = begins_with taken bs rest end halves.1 short in
        let there : AreMessagesIn (register_trail (V segment)) all =
        (each_right (λ s. AreMessagesIn (register_trail (V s)) all) before (segment ∷ later)
        (subst (AllByRecursion (λ s. AreMessagesIn (register_trail (V s)) all)) split h.inner)).0 in
        told_front taken m.0 (subst (λ (vs : List (List ℕ)). AreMessagesIn (register_trail vs) all)
        (values_of-clean i.barrier segment inside.0 ∙ ap (own_values i.barrier) m.1) there)

    in_last : later ≡ [] → z.current ≡ [] → Told taken
    in_last none shut =
        let closed : z.closed ≡ before ++ segment ∷ [] = split ∙ ap (λ (l : List (List RegisterEntry)). before ++ segment ∷ l) none in
        let bs = take (length z.batches - length z.current) z.batches in
        let whole : bs ≡ done ++ (taken ++ rest) =
        (let n : length z.batches ≤ length z.batches - length z.current = omega (arith, ap length shut) in
        take_all (length z.batches - length z.current) z.batches n) ∙ all_are in
        let runs = each_left Told (closed_runs z.closed bs) (z.current ∷ []) h.runs in
        let here = last_run Told before segment bs
        (subst (λ (c : List (List RegisterEntry)). AllByRecursion Told (closed_runs c bs)) closed runs) in
        told_front taken rest (subst Told (ap (λ (l : List Batch). drop (length (items_of_all before)) l) whole
        ∙ ap (λ (n : ℕ). drop n (done ++ (taken ++ rest))) (sym counted) ∙ drop-append_seam done (taken ++ rest)) here)

    told_closed : (length taken ≤ length segment) ⊎ ((later ≡ []) × (z.current ≡ [])) → Told taken
    told_closed fits = elim sound.history [
      | inl c ↦ in_clean later z.current (ap (λ (l : List (List RegisterEntry)). has_value (items_of_all l)) (sym split) ∙ c.clean)
          (c.batches ∙ ap (λ (l : List (List RegisterEntry)). batches_in (items_of_all l) ++ z.current) split) fits
      | inr m ↦ elim (ends later) [
        | inl none ↦ in_last none (shut_current z sound m.shut)
        | inr more ↦
            let some : is_empty later ≡ false = ap is_empty more.is ∙ pushed more.front more.last in
            let s = sooner (before ++ segment ∷ []) later m.before m.last
            (append_assoc before (segment ∷ []) later ∙ sym split ∙ m.split) some in
            let front : m.before ≡ before ++ segment ∷ s.between = s.is ∙ append_assoc before (segment ∷ []) s.between in
            in_clean s.between m.rest (ap (λ (l : List (List RegisterEntry)). has_value (items_of_all l)) (sym front) ∙ m.clean)
            (m.batches ∙ ap (λ (l : List (List RegisterEntry)). batches_in (items_of_all l) ++ m.rest) front)
            (elim fits [ inl le ↦ inl le | inr none ↦ absurd (true_not_false (ap is_empty (sym none.0) ∙ some)) ])
      ]
    ]

-- a longer list of segments has more entries, where none is empty
abbrev Filled : List (List RegisterEntry) → Type 0
Filled segments = AllByRecursion (λ segment. is_empty segment ≡ false) segments

longer_counts : (f g r s : List (List RegisterEntry)) → IsLonger f g r s → Filled g
    → (length f < length g) × (length (items_of_all f) < length (items_of_all g))
longer_counts f g r s l filled =
    let next = (each_right (λ segment. is_empty segment ≡ false) f (l.next ∷ l.more) (subst Filled l.is filled)).0 in
    let some = not_empty l.next next in
    let segments : length g ≡ length f + length (l.next ∷ l.more) = ap length l.is ∙ length-append f (l.next ∷ l.more) in
    let entries : length (items_of_all g) ≡ length (items_of_all f) + length (l.next ++ items_of_all l.more) =
    ap (λ (x : List (List RegisterEntry)). length (items_of_all x)) l.is ∙ ap length (joined-append f (l.next ∷ l.more))
    ∙ length-append (items_of_all f) (l.next ++ items_of_all l.more) in
    (omega (arith, segments), omega (arith, entries, some, length-append l.next (items_of_all l.more)))

nil_by : {A : Type 0} (xs : List A) → length xs ≡ 0 → xs ≡ []
nil_by [] e = refl
nil_by (x ∷ xs) e = absurd (omega arith)

begun_longer : (taken more : List Batch) {current : List Batch} → is_empty taken ≡ false → current ≡ taken ++ more
    → is_empty current ≡ false
begun_longer [] more b is = absurd (true_not_false b)
begun_longer (x ∷ xs) more b is = ap is_empty is

current_clean : (z : History) → IsSound z → is_empty z.current ≡ false → IsClean z
current_clean z sound some = elim sound.history [ inl c ↦ c | inr m ↦ absurd (true_not_false (sym (sound.open_is some) ∙ m.shut)) ]

-- Of one history at rest and another that went on from it.
module _ (i : Instance) (y z : History) (all : List (List ℕ)) (w : WentOn y z) (r : Rests y) (sound : IsSound z) (clear : IsClear all)
    (h : HasListed i z all) where
  abbrev U : List RegisterEntry → List (List ℕ)
  U = values_of i.barrier

  abbrev id : ℕ
  id = i.meaning.id

  abbrev anchor : List ℕ
  anchor = anchor_of id (map U y.closed)

  front_listed : (before later : List (List RegisterEntry)) → z.closed ≡ before ++ later → HasListedMessages id all (map U before) []
  front_listed before later split =
      let cut : map U z.closed ≡ map U before ++ map U later = ap (map U) split ∙ map-append U before later in
      record {
        inner = each_map (λ vs. AreMessagesIn (register_trail vs) all) U before
            (each_left (λ s. AreMessagesIn (register_trail (U s)) all) before later
            (subst (AllByRecursion (λ s. AreMessagesIn (register_trail (U s)) all)) split h.inner));
        outer = trail_front closing_message (start_digest_of Opt id) (map U before) (map U later) all
            (subst (λ (vs : List (List (List ℕ))). AreMessagesIn (trail closing_message (start_digest_of Opt id) vs) all) cut h.outer);
        last = tt;
      }

  -- equal anchors are those of the same segments
  same_segments : (ls ks : List (List (List ℕ))) → HasListedMessages id all ls [] → HasListedMessages id all ks []
      → anchor_of id ls ≡ anchor_of id ks → ls ≡ ks
  same_segments ls ks l k e = same_anchors id all clear h.starts ls ks l.inner k.inner l.outer k.outer e

  filled_here : Filled y.closed
  filled_here = each_left (λ segment. is_empty segment ≡ false) y.closed w.newer (subst Filled w.closed sound.filled)

  -- first batches as many as those of the history at rest are these
  module _ (named rest : List Batch) (first : z.batches ≡ named ++ rest) where
    named_all : length named ≡ length (items_of_all y.closed) → named ≡ y.batches
    named_all e = (same_halves named y.batches rest w.more (e ∙ sym (rests_count y r)) (sym first ∙ w.batches)).0

    all_named : named ≡ y.batches → length named ≡ length (items_of_all y.closed)
    all_named e = ap length e ∙ rests_count y r

    abbrev StandsSo : (a e : List ℕ) → Type 0
    StandsSo a e = (Stands anchor a e → named ≡ y.batches) × (named ≡ y.batches → Stands anchor a e)

    -- a place at an anchor
    so_at_anchor : (a e : List ℕ) → IsAnchorPoint i z named a e → StandsSo a e
    so_at_anchor a e p =
        let filled : Filled p.before = each_left (λ s. is_empty s ≡ false) p.before p.later (subst Filled p.split sound.filled) in
        let apart : (length p.before ≡ length y.closed → ⊥) → Stands anchor a e → ⊥ = (λ differ s. elim s [
          | inl here ↦
              let same = same_segments (map U p.before) (map U y.closed) (front_listed p.before p.later p.split)
              (front_listed y.closed w.newer w.closed) (sym p.anchor_is ∙ here.0) in
              differ (sym (length-map p.before U) ∙ ap length same ∙ length-map y.closed U)
          | inr closed ↦ closed.0 p.extension_is
        ]) in
        elim (fronts_cases p.before y.closed p.later w.newer (sym p.split ∙ w.closed)) [
          | inl same ↦ (
            λ s. named_all (p.counted ∙ ap (λ (b : List (List RegisterEntry)). length (items_of_all b)) same),
            λ n. inl (p.anchor_is ∙ ap (λ (b : List (List RegisterEntry)). anchor_of id (map U b)) same, p.extension_is),
          )
          | inr (inl l) ↦
              let c = longer_counts p.before y.closed p.later w.newer l filled_here in (
                λ s. absurd (apart (λ q. omega (arith, q, c.0)) s),
                λ n. absurd (omega (arith, all_named n, p.counted, c.1)),
              )
          | inr (inr l) ↦
              let c = longer_counts y.closed p.before w.newer p.later l filled in (
                λ s. absurd (apart (λ q. omega (arith, q, c.0)) s),
                λ n. absurd (omega (arith, all_named n, p.counted, c.1)),
              )
        ]

    -- a place behind some batches of a segment, after these closed ones
    record IsInside (a e : List ℕ) : Type 0 where
      before : List (List RegisterEntry)
      later : List (List RegisterEntry)
      done : List Batch
      taken : List Batch
      split : z.closed ≡ before ++ later
      named_is : named ≡ done ++ taken
      counted : length done ≡ length (items_of_all before)
      begun : is_empty taken ≡ false
      within : (segment : List RegisterEntry) (others : List (List RegisterEntry)) → later ≡ segment ∷ others
          → (length taken ≤ length segment) ⊎ (others ≡ [])
      anchor_is : a ≡ anchor_after i before
      extension_is : e ≡ register_of (own_values i.barrier taken)
      listed : AreMessagesIn (register_trail (own_values i.barrier taken)) all

    module _ (a e : List ℕ) (p : IsInside a e)
        (closing : AreMessagesIn (if bytes_eq e zero_bytes then [] else anchored_message a e ∷ []) all) where
      abbrev own : List (List ℕ)
      own = own_values i.barrier p.taken

      own_some : own ≡ [] → ⊥
      own_some none = let n = not_empty p.taken p.begun in
          omega (arith, n, sym (length-map p.taken (guard i.barrier)), ap length none)

      extended : e ≡ zero_bytes → ⊥
      extended zero = own_some (register_nonzero all clear own p.listed (sym p.extension_is ∙ zero))

      closes : Contains all (anchored_message (anchor_of id (map U p.before)) (register_of own))
      closes =
          let P : Bool → Type 0 = λ none. AreMessagesIn (if none then [] else anchored_message a e ∷ []) all in
          let off : bytes_eq e zero_bytes ≡ false =
          false_from_ne_true (bytes_eq e zero_bytes) (λ t. extended ((bytes_eq-Decides e zero_bytes).0 t)) in
          let there : Contains all (anchored_message a e) = (subst P off closing).0 in
          subst (λ (m : List ℕ). Contains all m) (λ j. anchored_message (p.anchor_is j) (p.extension_is j)) there

      longer_listed : HasListedMessages id all (map U p.before ++ own ∷ []) []
      longer_listed = let f = front_listed p.before p.later p.split in
          listed_segment id all (map U p.before) own f.inner f.outer p.listed closes

      closed_anchor : anchored_digest_of a e ≡ anchor_of id (map U p.before ++ own ∷ [])
      closed_anchor = (λ j. anchored_digest_of (p.anchor_is j) (p.extension_is j)) ∙ sym (anchor-push id (map U p.before) own)

      -- it stands where the segments are these and then its own
      stands_closed : Stands anchor a e → map U p.before ++ own ∷ [] ≡ map U y.closed
      stands_closed (inl here) = absurd (extended here.1)
      stands_closed (inr closed) = same_segments (map U p.before ++ own ∷ []) (map U y.closed) longer_listed
          (front_listed y.closed w.newer w.closed) (sym closed_anchor ∙ closed.1)

      closed_stands : map U p.before ++ own ∷ [] ≡ map U y.closed → Stands anchor a e
      closed_stands is = inr (extended, closed_anchor ∙ ap (anchor_of id) is)

      named_count : length named ≡ length (items_of_all p.before) + length p.taken
      named_count = ap length p.named_is ∙ length-append p.done p.taken ∙ ap (λ (n : ℕ). n + length p.taken) p.counted

      closed_count : map U p.before ++ own ∷ [] ≡ map U y.closed → length p.before + 1 ≡ length y.closed
      closed_count is = omega (arith, ap length is, length-append (map U p.before) (own ∷ []), length-map p.before U, length-map y.closed U)

      -- the history rests behind more segments
      module _ (l : IsLonger p.before y.closed p.later w.newer) where
        entries : length (items_of_all y.closed) ≡ length (items_of_all p.before) + (length l.next + length (items_of_all l.more))
        entries = ap (λ (x : List (List RegisterEntry)). length (items_of_all x)) l.is
            ∙ ap length (joined-append p.before (l.next ∷ l.more))
            ∙ length-append (items_of_all p.before) (l.next ++ items_of_all l.more)
            ∙ ap (λ (n : ℕ). length (items_of_all p.before) + n) (length-append l.next (items_of_all l.more))

        rest_same : map U p.before ++ own ∷ [] ≡ map U y.closed → own ∷ [] ≡ U l.next ∷ map U l.more
        rest_same is = append_cancel_left (map U p.before) (own ∷ []) (U l.next ∷ map U l.more)
            (is ∙ ap (map U) l.is ∙ map-append U p.before (l.next ∷ l.more))

        behind_named : map U p.before ++ own ∷ [] ≡ map U y.closed → named ≡ y.batches
        behind_named is =
            let s = rest_same is in
            let none : length l.more ≡ 0 = omega (arith, ap length s, length-map l.more U) in
            let nothing : l.more ≡ [] = nil_by l.more none in
            let same : own ≡ U l.next = cc in
            let sizes : length p.taken ≡ length l.next =
            sym (length-map p.taken (guard i.barrier)) ∙ ap length same ∙ length-map l.next (extension_value i.barrier) in
            named_all (omega (arith, named_count, entries, sizes, ap (λ (x : List (List RegisterEntry)). length (items_of_all x)) nothing))

        clean_next : (has_value (items_of_all p.before) ≡ false) × (has_value l.next ≡ false)
        clean_next =
            let whole = or_parts (has_value (items_of_all p.before)) (has_value (l.next ++ items_of_all l.more))
            (sym (has_value-append (items_of_all p.before) (l.next ++ items_of_all l.more))
            ∙ ap has_value (sym (joined-append p.before (l.next ∷ l.more)))
            ∙ ap (λ (x : List (List RegisterEntry)). has_value (items_of_all x)) (sym l.is) ∙ r.clean) in (
              whole.0,
              (or_parts (has_value l.next) (has_value (items_of_all l.more))
                  (sym (has_value-append l.next (items_of_all l.more)) ∙ whole.1)).0,
            )

        behind_none : named ≡ y.batches → l.more ≡ []
        behind_none n = elim (p.within l.next (l.more ++ w.newer) l.rest) [
          | inl le ↦
              let filled = (each_right (λ s. is_empty s ≡ false) p.before (l.next ∷ l.more) (subst Filled l.is filled_here)).1 in
              no_segments l.more filled (omega (arith, all_named n, named_count, entries, le))
          | inr none ↦ nil_by l.more (omega (arith, ap length none, length-append l.more w.newer))
        ]

        behind_closed : named ≡ y.batches → map U p.before ++ own ∷ [] ≡ map U y.closed
        behind_closed n =
            let nothing = behind_none n in
            let c = clean_next in
            let is : y.closed ≡ p.before ++ l.next ∷ [] = l.is ∙ ap (λ (x : List (List RegisterEntry)). p.before ++ l.next ∷ x) nothing in
            let batches : p.done ++ p.taken ≡ batches_in (items_of_all p.before) ++ batches_in l.next =
            sym p.named_is ∙ n ∙ r.batches ∙ ap (λ (x : List (List RegisterEntry)). batches_in (items_of_all x)) is
            ∙ ap batches_in (joined-push p.before l.next) ∙ batches_in-append (items_of_all p.before) l.next in
            let taken : p.taken ≡ batches_in l.next = (same_halves p.done (batches_in (items_of_all p.before)) p.taken (batches_in l.next)
            (p.counted ∙ sym (length-batches_in (items_of_all p.before) c.0)) batches).1 in
            let same : own ≡ U l.next = ap (own_values i.barrier) taken ∙ sym (values_of-clean i.barrier l.next c.1) in
            ap (λ (vs : List (List ℕ)). map U p.before ++ vs ∷ []) same ∙ sym (map-append U p.before (l.next ∷ [])) ∙ ap (map U) (sym is)

      so_inside : StandsSo a e
      so_inside = elim (fronts_cases p.before y.closed p.later w.newer (sym p.split ∙ w.closed)) [
        | inl same ↦
            let n = not_empty p.taken p.begun in (
              λ s. absurd (omega (arith, closed_count (stands_closed s), ap length same)),
              λ m. absurd (omega (
                arith,
                all_named m,
                named_count,
                ap (λ (x : List (List RegisterEntry)). length (items_of_all x)) same,
                n,
              )),
            )
        | inr (inl l) ↦ (λ s. behind_named l (stands_closed s), λ m. closed_stands (behind_closed l m))
        | inr (inr l) ↦
            let filled : Filled p.before = each_left (λ s. is_empty s ≡ false) p.before p.later (subst Filled p.split sound.filled) in
            let c = longer_counts y.closed p.before w.newer p.later l filled in (
              λ s. absurd (omega (arith, closed_count (stands_closed s), c.0)),
              λ m. absurd (omega (arith, all_named m, named_count, c.1)),
            )
      ]

    inside_closed : (a e : List ℕ) → IsClosedPoint i z named a e → IsInside a e
    inside_closed a e p = record {
      before = p.before;
      later = p.segment ∷ p.later;
      done = p.done;
      taken = p.taken;
      split = p.split;
      named_is = p.named_is;
      counted = p.counted;
      begun = p.begun;
      within = λ segment others is.
          let head : p.segment ≡ segment = cc in
          let tail : p.later ≡ others = cc in
          elim p.within [
            | inl le ↦ inl (subst (λ (s : List RegisterEntry). length p.taken ≤ length s) head le)
            | inr none ↦ inr (sym tail ∙ none.0)
          ];
      anchor_is = p.anchor_is;
      extension_is = p.extension_is;
      listed = told_closed i z all sound clear h p.before p.segment p.later p.done p.taken rest p.split
          (first ∙ ap (λ (l : List Batch). l ++ rest) p.named_is ∙ append_assoc p.done p.taken rest) p.counted p.within;
    }

    inside_current : (a e : List ℕ) → IsCurrentPoint i z named a e → IsInside a e
    inside_current a e p =
        let clean = current_clean z sound (begun_longer p.taken p.more p.begun p.split) in
        let counts : length (batches_in (items_of_all z.closed)) ≡ length (items_of_all z.closed) =
        length-batches_in (items_of_all z.closed) clean.clean in
        record {
          before = z.closed;
          later = [];
          done = p.done;
          taken = p.taken;
          split = sym (append-nil z.closed);
          named_is = p.named_is;
          counted = omega (
            arith,
            ap length p.start,
            ap length clean.batches,
            length-append p.done z.current,
            length-append (batches_in (items_of_all z.closed)) z.current,
            counts,
          );
          begun = p.begun;
          within = λ segment others is. absurd (cc);
          anchor_is = p.anchor_is;
          extension_is = p.extension_is;
          listed =
              let k = length z.batches - length z.current in
              let last : Told i z all sound clear h z.current =
              (each_right (Told i z all sound clear h) (closed_runs z.closed (take k z.batches)) (z.current ∷ []) h.runs).0 in
              told_front i z all sound clear h p.taken p.more (subst (Told i z all sound clear h) p.split last);
        }

    -- every place stands there exactly where it is behind all batches
    so_point : (a e : List ℕ) → IsPoint i z named a e
        → AreMessagesIn (if bytes_eq e zero_bytes then [] else anchored_message a e ∷ []) all → StandsSo a e
    so_point a e (at_anchor p) closing = so_at_anchor a e p
    so_point a e (in_closed p) closing = so_inside a e (inside_closed a e p) closing
    so_point a e (in_current p) closing = so_inside a e (inside_current a e p) closing

-- the verdict on such an offer

life_rests : (y : History) (flag : Bool) → flag ≡ false → has_value (items_of_all y.closed) ≡ false
    → life_by flag (is_empty y.items) (are_own y.items y.current) (has_value (items_of_all y.closed)) ≡ Live
life_rests y true off clean = absurd (true_not_false off)
life_rests y false off clean = ap (life_by false (is_empty y.items) (are_own y.items y.current)) clean

judge_rests : (y : History) (position : ℕ) (b : Batch) → Rests y → is_new (verdict_on Opt y position b)
    ≡ nat_eq position (total_of y.batches)
judge_rests y position b r =
    let here : Bool = nat_eq position (total_of y.batches) in
    let repeat : Bool = nat_eq (position + size_of b) (total_of y.batches) && is_last y.batches b in
    ap (λ (l : Life). is_new (verdict_by_tests l here repeat)) (life_rests y y.is_open r.shut r.clean) ∙ new_judged here repeat

-- first batches count as those of the history at rest exactly where they are these
pub counts_same : (y z : History) (named rest : List Batch) → WentOn y z → z.batches ≡ named ++ rest
    → Decides (nat_eq (total_of named) (total_of y.batches)) (named ≡ y.batches)
counts_same y z named rest w first =
    let test = Decides-eqb (total_of named) (total_of y.batches) in
    (λ t. same_fronts named y.batches rest w.more (sym first ∙ w.batches) (test.0 t), λ e. test.1 (ap total_of e))

pub opt_went_on : (meaning : Meaning) (key barrier register : List ℕ) (y z : History) (offered : Content) (b : Batch) (all : List (List ℕ))
    → WentOn y z → Rests y → IsSound z → IsClear all → AreMessagesIn (history_messages (opt_instance meaning key barrier) z) all
    → AreMessagesIn (place_messages offered.place) all → NamesPosition (opt_instance meaning key barrier) z offered
    → is_new (verdict_by_digests barrier false (cell_digest_of (opt_instance meaning key barrier) Opt y) register offered.place b)
    ≡ is_new (verdict_on Opt y offered.position b)
opt_went_on meaning key barrier register y z offered b all w r sound clear history closing n =
    on offered.place n.place closing ∙ sym (judge_rests y offered.position b r)
  where
    i : Instance
    i = opt_instance meaning key barrier

    on : (place : Place) → IsPlaceOf Opt (opt_instance meaning key barrier) z n.named place → AreMessagesIn (place_messages place) all
        → is_new (verdict_by_digests barrier false (cell_digest_of (opt_instance meaning key barrier) Opt y) register place b)
        ≡ nat_eq offered.position (total_of y.batches)
    on (InBasic s) p c = absurd p
    on (InOpt a e) p c =
        let anchor : List ℕ = anchor_of meaning.id (map (values_of barrier) y.closed) in
        let fresh : Bool = list_any (is_fresh_form false anchor register) (forms_of a.bytes e.bytes) in
        let told = forms_told anchor register a.bytes e.bytes (bytes_eq e.bytes zero_bytes) refl in
        let listed = listed_by (opt_instance meaning key barrier) z all history in
        let so = so_point (opt_instance meaning key barrier) y z all w r sound clear listed n.named n.rest n.first a.bytes e.bytes p c in
        let counts = counts_same y z n.named n.rest w n.first in
        new_by fresh (list_any (is_repeat_form false anchor register (guard barrier b)) (forms_of a.bytes e.bytes))
        ∙ same_tests fresh (nat_eq (total_of n.named) (total_of y.batches)) (λ t. counts.1 (so.0 (told.0 t)))
        (λ t. told.1 (so.1 (counts.0 t)))
        ∙ ap (λ (p : ℕ). nat_eq p (total_of y.batches)) (sym n.position)

-- Basic: nothing rests, and the summary tells all batches
pub basic_went_on : (meaning : Meaning) (key register : List ℕ) (y z : History) (offered : Content) (b : Batch) (all : List (List ℕ))
    → WentOn y z → IsClear all → AreMessagesIn (history_messages (basic_instance meaning key) z) all
    → NamesPosition (basic_instance meaning key) z offered
    → is_new (verdict_by_digests zero_bytes false (cell_digest_of (basic_instance meaning key) Basic y) register offered.place b)
    ≡ is_new (verdict_on Basic y offered.position b)
basic_went_on meaning key register y z offered b all w clear history n =
    let s = basic_stands meaning key z n.named offered.place n.place in
    let here : Bool = nat_eq (total_of n.named) (total_of y.batches) in
    let fresh : Bool = bytes_eq (summary_of meaning.id n.named) (summary_of meaning.id y.batches) in
    let front : (bs rest : List Batch) → z.batches ≡ bs ++ rest
    → AreMessagesIn (trail link_message (start_digest_of Basic meaning.id) bs) all = (λ bs rest is.
    trail_front link_message (start_digest_of Basic meaning.id) bs rest all
    (subst (λ (l : List Batch). AreMessagesIn (trail link_message (start_digest_of Basic meaning.id) l) all) is history.1)) in
    let told = bytes_decide (summary_of meaning.id n.named) (summary_of meaning.id y.batches)
    (same_summaries meaning.id all clear history.0 n.named y.batches (front n.named n.rest n.first) (front y.batches w.more w.batches))
    (ap (summary_of meaning.id)) in
    let counts = counts_same y z n.named n.rest w n.first in
    rw (s.1, s.2, n.position) (new_by fresh _ ∙ same_tests fresh here (λ t. counts.1 (told.0 t)) (λ t. told.1 (counts.0 t))
    ∙ sym (new_judged here (nat_eq (total_of n.named + size_of b) (total_of y.batches) && is_last y.batches b)))

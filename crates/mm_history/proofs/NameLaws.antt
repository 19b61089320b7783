-- The test whether a content names a position of a history decides it. With it: the first batches
-- with so many requests, and tests of lists, decide what they say.
use Rattle.std.proofs.lemmas.Bool.{leb-true, ne_eqb, not-true, not_from_false}
use Rattle.std.proofs.lemmas.Slice.Eq.{bytes_eq-Decides}
use Rattle.std.proofs.Math.Seq.{drop-append_seam}
use Rattle.mm_module.specs.RunLaws.{size_of-pos}
use Rattle.mm_history.proofs.Below.{◌≡◌, ℕ, ◌-◌, ◌<◌, ◌≤◌, Bool, true, false, ◌&&◌, List, [], ◌∷◌, ◌++◌, length, Option, None, Some, refl}
use Rattle.mm_history.proofs.Below.{sym, ap, ◌∙◌, arith, le-leb, if◌then◌else◌, ◌==◌, nat_le, option_map, Decides, Decides-eqb, Decides-and}
use Rattle.mm_history.proofs.Below.{Decides-like, append-nil, Batch, size_of, total_of, is_empty, is_same_batch, is_same_batch-Decides}
use Rattle.mm_history.proofs.Below.{total-cons, first_with, same_batches, ◌+◌, drop, take, subst, inl, inr, ◌⊎◌, append_assoc}
use Rattle.mm_history.proofs.Below.{length-append, not, bytes_eq, Decides-or, Decides-ltb, take-append-drop, length-take, drop-append-le}
use Rattle.mm_history.proofs.Below.{take-append-le, length-drop, not_empty, Variant, Basic, Opt, zero_bytes, state_after, Place, InBasic}
use Rattle.mm_history.proofs.Below.{InOpt, Content, summary_of, register_of, own_values, Instance, RegisterEntry, History, requests_of}
use Rattle.mm_history.proofs.Below.{items_of_all, has_value, IsPoint, at_anchor, in_closed, in_current, IsPlaceOf, NamesPosition}
use Rattle.mm_history.proofs.Below.{anchor_after, IsDecided, is_at, is_behind, is_within, is_inside_at, some_place, is_place, is_named_at}
use Rattle.mm_history.proofs.Below.{is_named}

-- The first batches with so many requests, and tests of lists, decide what they say.

pub le-Decides : (m n : ℕ) → Decides (nat_le m n) (m ≤ n)
le-Decides m n = (leb-true m n, le-leb m n)

-- The first batches with so many requests.

first_then : (zero fits : Bool) (position : ℕ) (b : Batch) (batches named : List Batch) → (position == 0) ≡ zero
    → nat_le (size_of b) position ≡ fits → (more : Option (List Batch)) → first_with (position - size_of b) batches ≡ more
    → ((front : List Batch) → first_with (position - size_of b) batches ≡ Some front
    → (rest : List Batch) × ((batches ≡ front ++ rest) × (position - size_of b ≡ total_of front)))
    → (if zero then Some [] else if fits then option_map (λ (front : List Batch). b ∷ front) more else None) ≡ Some named
    → (rest : List Batch) × ((b ∷ batches ≡ named ++ rest) × (position ≡ total_of named))
first_then true fits position b batches named z f more m tells e =
    let none : [] ≡ named = cc
    in (b ∷ batches, (ap (λ (bs : List Batch). bs ++ b ∷ batches) none, (Decides-eqb position 0).0 z ∙ ap total_of none))
first_then false false position b batches named z f more m tells e = absurd (cc)
first_then false true position b batches named z f None m tells e = absurd (cc)
first_then false true position b batches named z f (Some front) m tells e =
    let t = tells front m in
    let same : b ∷ front ≡ named = cc in
    let fits : size_of b ≤ position = (le-Decides (size_of b) position).0 f in
    let whole : position ≡ total_of (b ∷ front) = omega (arith, t.1.1, fits, total-cons b front) in
    (t.0, (ap (λ (bs : List Batch). b ∷ bs) t.1.0 ∙ ap (λ (bs : List Batch). bs ++ t.0) same, whole ∙ ap total_of same))

pub first_tells : (position : ℕ) (batches named : List Batch) → first_with position batches ≡ Some named
    → (rest : List Batch) × ((batches ≡ named ++ rest) × (position ≡ total_of named))
first_tells position [] named e = elim (position == 0) as (λ t. (position == 0) ≡ t → (if t then Some [] else None) ≡ Some named
    → (rest : List Batch) × (([] ≡ named ++ rest) × (position ≡ total_of named))) [
      | true ↦ λ z f. let none : [] ≡ named = cc in ([], (none ∙ sym (append-nil named), (Decides-eqb position 0).0 z ∙ ap total_of none))
      | false ↦ λ z f. absurd (cc)
    ] refl e
first_tells position (b ∷ batches) named e =
    first_then (position == 0) (nat_le (size_of b) position) position b batches named refl refl (first_with (position - size_of b) batches)
    refl (first_tells (position - size_of b) batches) e

pub first_is : (named rest : List Batch) → first_with (total_of named) (named ++ rest) ≡ Some named
first_is [] [] = refl
first_is [] (b ∷ rest) = refl
first_is (b ∷ named) rest =
    let p : ℕ = total_of (b ∷ named) in
    let cons = total-cons b named in
    let some : (p == 0) ≡ false = ne_eqb p 0 (λ none. absurd (omega (arith, none, cons, size_of-pos b))) in
    let fits : nat_le (size_of b) p ≡ true = (le-Decides (size_of b) p).1 (omega (arith, cons)) in
    let left : p - size_of b ≡ total_of named = omega (arith, cons) in
    rw (some, fits, left, first_is named rest) refl

-- Lists of batches.

pub same-Decides : (bs cs : List Batch) → Decides (same_batches bs cs) (bs ≡ cs)
same-Decides [] [] = (λ e. refl, λ e. refl)
same-Decides [] (c ∷ cs) = (λ e. absurd (cc), λ e. absurd (cc))
same-Decides (b ∷ bs) [] = (λ e. absurd (cc), λ e. absurd (cc))
same-Decides (b ∷ bs) (c ∷ cs) = Decides-like (is_same_batch b c && same_batches bs cs)
    (λ (p : (b ≡ c) × (bs ≡ cs)). let h : b ≡ c = p.0 in let t : bs ≡ cs = p.1 in cc)
    (λ (e : b ∷ bs ≡ c ∷ cs). let h : b ≡ c = cc in let t : bs ≡ cs = cc in (h, t))
    (Decides-and (is_same_batch b c) (same_batches bs cs) (is_same_batch-Decides b c) (same-Decides bs cs))

pub empty-Decides : {A : Type 0} (xs : List A) → Decides (is_empty xs) (xs ≡ [])
empty-Decides [] = (λ e. refl, λ e. refl)
empty-Decides (x ∷ xs) = (λ e. absurd (cc), λ e. absurd (cc))

pub some_taken : {A : Type 0} (xs : List A) → 0 < length xs → is_empty xs ≡ false
some_taken [] lt = absurd (omega (arith, lt))
some_taken (x ∷ xs) lt = refl

-- The test whether a content names a position of a history decides it.

pub decided : {P : Type 0} (r : Bool) → Decides r P → IsDecided r P
decided true d = d.0 refl
decided false d = λ p. let clash : false ≡ true = d.1 p in absurd (cc)

-- A place, from some segments on, as a statement by the same recursion.

module _ (i : Instance) (y : History) (named : List Batch) (a e : List ℕ) where
  record IsAt (before : List (List RegisterEntry)) : Type 0 where
    clean : has_value (items_of_all before) ≡ false
    counted : length named ≡ length (items_of_all before)
    anchor : a ≡ anchor_after i before
    extension : e ≡ zero_bytes

  record IsBehind (start : ℕ) (before : List (List RegisterEntry)) : Type 0 where
    starts : start < length named
    anchor : a ≡ anchor_after i before
    extension : e ≡ register_of (own_values i.barrier (drop start named))

  abbrev IsWithin : List (List RegisterEntry) → List RegisterEntry → List (List RegisterEntry) → Type 0
  IsWithin before segment later = (length named - length (items_of_all before) ≤ length segment) ⊎ ((later ≡ []) × (y.current ≡ []))

  record IsInside (start : ℕ) : Type 0 where
    last : drop start y.batches ≡ y.current
    behind : IsBehind start y.closed

  abbrev Places : List (List RegisterEntry) → List (List RegisterEntry) → Type 0
  Places before [] = IsAt before ⊎ IsInside (length y.batches - length y.current)
  Places before (segment ∷ rest) =
      (IsAt before ⊎ (IsBehind (length (items_of_all before)) before × IsWithin before segment rest)) ⊎ Places (before ++ segment ∷ []) rest

  at-Decides : (before : List (List RegisterEntry))
      → Decides (is_at (not (has_value (items_of_all before))) (anchor_after i before) (length (items_of_all before)) named a e)
      (IsAt before)
  at-Decides before = Decides-like (is_at (not (has_value (items_of_all before))) (anchor_after i before)
      (length (items_of_all before)) named a e)
      (λ (p : ((has_value (items_of_all before) ≡ false) × (length named ≡ length (items_of_all before)))
      × ((a ≡ anchor_after i before) × (e ≡ zero_bytes))). record { clean = p.0.0; counted = p.0.1; anchor = p.1.0; extension = p.1.1 })
      (λ (p : IsAt before). ((p.clean, p.counted), (p.anchor, p.extension)))
      (Decides-and _ _ (Decides-and _ _ (not-true (has_value (items_of_all before)), not_from_false (has_value (items_of_all before)))
      (Decides-eqb (length named) (length (items_of_all before))))
      (Decides-and _ _ (bytes_eq-Decides a (anchor_after i before)) (bytes_eq-Decides e zero_bytes)))

  behind-Decides : (start : ℕ) (before : List (List RegisterEntry))
      → Decides (is_behind i.barrier (anchor_after i before) start named a e) (IsBehind start before)
  behind-Decides start before =
      let there : List ℕ = register_of (own_values i.barrier (drop start named)) in
      Decides-like (is_behind i.barrier (anchor_after i before) start named a e)
      (λ (p : (start < length named) × ((a ≡ anchor_after i before) × (e ≡ there))).
      record { starts = p.0; anchor = p.1.0; extension = p.1.1 }) (λ (p : IsBehind start before). (p.starts, (p.anchor, p.extension)))
      (Decides-and _ _ (Decides-ltb start (length named))
      (Decides-and _ _ (bytes_eq-Decides a (anchor_after i before)) (bytes_eq-Decides e there)))

  within-Decides : (before : List (List RegisterEntry)) (segment : List RegisterEntry) (later : List (List RegisterEntry))
      → Decides (is_within (length (items_of_all before)) named (length segment) (is_empty later && is_empty y.current))
      (IsWithin before segment later)
  within-Decides before segment later =
      Decides-or _ _ (le-Decides (length named - length (items_of_all before)) (length segment))
      (Decides-and _ _ (empty-Decides later) (empty-Decides y.current))

  inside-Decides : Decides (is_inside_at i.barrier (anchor_after i y.closed) y named a e) (IsInside (length y.batches - length y.current))
  inside-Decides =
      let start : ℕ = length y.batches - length y.current in
      Decides-like (is_inside_at i.barrier (anchor_after i y.closed) y named a e)
      (λ (p : (drop start y.batches ≡ y.current) × IsBehind start y.closed). record { last = p.0; behind = p.1 })
      (λ (p : IsInside start). (p.last, p.behind))
      (Decides-and _ _ (same-Decides (drop start y.batches) y.current) (behind-Decides start y.closed))

  places-Decides : (before rest : List (List RegisterEntry))
      → Decides (some_place i.meaning.id i.barrier y named a e before rest) (Places before rest)
  places-Decides before [] = Decides-or _ _ (at-Decides before) inside-Decides
  places-Decides before (segment ∷ rest) =
      Decides-or _ _ (Decides-or _ _ (at-Decides before)
      (Decides-and _ _ (behind-Decides (length (items_of_all before)) before) (within-Decides before segment rest)))
      (places-Decides (before ++ segment ∷ []) rest)

  -- from the statement to a place

  point_at : (before rest : List (List RegisterEntry)) → y.closed ≡ before ++ rest → IsAt before → IsPoint i y named a e
  point_at before rest is p = at_anchor (record {
    before = before;
    later = rest;
    split = is;
    clean = p.clean;
    counted = p.counted;
    anchor_is = p.anchor;
    extension_is = p.extension;
  })

  point_closed : (before : List (List RegisterEntry)) (segment : List RegisterEntry) (rest : List (List RegisterEntry)) → y.closed ≡ before
      ++ segment ∷ rest
      → IsBehind (length (items_of_all before)) before → IsWithin before segment rest → IsPoint i y named a e
  point_closed before segment rest is p within =
      let start : ℕ = length (items_of_all before) in
      let parts : take start named ++ drop start named ≡ named = take-append-drop start named in
      let sized : length (take start named) ≡ start = omega (arith, length-take start named, p.starts) in
      let taken : length (drop start named) ≡ length named - start = length-drop start named in
      in_closed (record {
        before = before;
        segment = segment;
        later = rest;
        done = take start named;
        taken = drop start named;
        split = is;
        named_is = sym parts;
        counted = sized;
        begun = some_taken (drop start named) (omega (arith, taken, p.starts));
        within = elim within [
          | inl le ↦ inl (omega (arith, taken, le))
          | inr ends ↦ inr ends
        ];
        anchor_is = p.anchor;
        extension_is = p.extension;
      })

  point_current : (rest : List Batch) → y.batches ≡ named ++ rest → IsInside (length y.batches - length y.current) → IsPoint i y named a e
  point_current rest first p =
      let start : ℕ = length y.batches - length y.current in
      let q = p.behind in
      let within : start ≤ length named = omega (arith, q.starts) in
      let current : y.current ≡ drop start named ++ rest = sym p.last ∙ ap (drop start) first ∙ drop-append-le start named rest within in
      let done : take start y.batches ≡ take start named = ap (take start) first ∙ take-append-le start named rest within in
      in_current (record {
        done = take start named;
        taken = drop start named;
        more = rest;
        split = current;
        start = sym (take-append-drop start y.batches) ∙ ap (λ (bs : List Batch). take start y.batches ++ bs) p.last
            ∙ ap (λ (bs : List Batch). bs ++ y.current) done;
        named_is = sym (take-append-drop start named);
        begun = some_taken (drop start named) (omega (arith, length-drop start named, q.starts));
        anchor_is = q.anchor;
        extension_is = q.extension;
      })

  places_tell : (rest_batches : List Batch) → y.batches ≡ named ++ rest_batches → (before rest : List (List RegisterEntry))
      → y.closed ≡ before ++ rest → Places before rest → IsPoint i y named a e
  places_tell more first before [] is (inl here) = point_at before [] is here
  places_tell more first before [] is (inr inside) = point_current more first inside
  places_tell more first before (segment ∷ rest) is (inl (inl here)) = point_at before (segment ∷ rest) is here
  places_tell more first before (segment ∷ rest) is (inl (inr p)) = point_closed before segment rest is p.0 p.1
  places_tell more first before (segment ∷ rest) is (inr later) =
      places_tell more first (before ++ segment ∷ []) rest (is ∙ sym (append_assoc before (segment ∷ []) rest)) later

  -- and back

  places_here : (before later : List (List RegisterEntry)) → IsAt before → Places before later
  places_here before [] p = inl p
  places_here before (s ∷ later) p = inl (inl p)

  -- behind some more segments
  places_along : (x before later : List (List RegisterEntry)) → Places (before ++ x) later → Places before (x ++ later)
  places_along [] before later p = subst (λ (b : List (List RegisterEntry)). Places b later) (append-nil before) p
  places_along (s ∷ x) before later p =
      inr (places_along x (before ++ s ∷ []) later
      (subst (λ (b : List (List RegisterEntry)). Places b later) (sym (append_assoc before (s ∷ []) x)) p))

  place_found : IsPoint i y named a e → Places [] y.closed
  place_found (at_anchor p) = subst (Places []) (sym p.split)
      (places_along p.before [] p.later (places_here p.before p.later (record {
        clean = p.clean;
        counted = p.counted;
        anchor = p.anchor_is;
        extension = p.extension_is;
      })))
  place_found (in_closed p) =
      let start : ℕ = length (items_of_all p.before) in
      let counts : length named ≡ start + length p.taken = ap length p.named_is ∙ length-append p.done p.taken
      ∙ ap (λ (n : ℕ). n + length p.taken) p.counted in
      let taken : drop start named ≡ p.taken =
      ap (drop start) p.named_is ∙ ap (λ (n : ℕ). drop n (p.done ++ p.taken)) (sym p.counted) ∙ drop-append_seam p.done p.taken in
      let some = not_empty p.taken p.begun in
      subst (Places []) (sym p.split) (places_along p.before [] (p.segment ∷ p.later) (inl (inr (
        record {
          starts = omega (arith, counts, some);
          anchor = p.anchor_is;
          extension = p.extension_is ∙ ap (λ (bs : List Batch). register_of (own_values i.barrier bs)) (sym taken);
        },
        elim p.within [
          | inl le ↦ inl (omega (arith, counts, le))
          | inr ends ↦ inr ends
        ],
      ))))
  place_found (in_current p) =
      let counts : length y.batches ≡ length p.done + length y.current = ap length p.start ∙ length-append p.done y.current in
      let start : length y.batches - length y.current ≡ length p.done = omega (arith, counts) in
      let last : drop (length p.done) y.batches ≡ y.current = ap (drop (length p.done)) p.start ∙ drop-append_seam p.done y.current in
      let taken : drop (length p.done) named ≡ p.taken = ap (drop (length p.done)) p.named_is ∙ drop-append_seam p.done p.taken in
      let sizes : length named ≡ length p.done + length p.taken = ap length p.named_is ∙ length-append p.done p.taken in
      let some = not_empty p.taken p.begun in
      subst (Places []) (append-nil y.closed) (places_along y.closed [] [] (inr (subst IsInside (sym start) (record {
        last = last;
        behind = record {
          starts = omega (arith, sizes, some);
          anchor = p.anchor_is;
          extension = p.extension_is ∙ ap (λ (bs : List Batch). register_of (own_values i.barrier bs)) (sym taken);
        };
      }))))

  point-Decides : (rest : List Batch) → y.batches ≡ named ++ rest
      → Decides (some_place i.meaning.id i.barrier y named a e [] y.closed) (IsPoint i y named a e)
  point-Decides rest first =
      Decides-like (some_place i.meaning.id i.barrier y named a e [] y.closed) (places_tell rest first [] y.closed refl) place_found
      (places-Decides [] y.closed)

-- The test of a whole content.

place-Decides : (variant : Variant) (i : Instance) (y : History) (named rest : List Batch) (place : Place) → y.batches ≡ named ++ rest
    → Decides (is_place variant i y named place) (IsPlaceOf variant i y named place)
place-Decides Basic i y named rest (InBasic s) first = bytes_eq-Decides s.bytes (summary_of i.meaning.id named)
place-Decides Opt i y named rest (InOpt a e) first = point-Decides i y named a.bytes e.bytes rest first
place-Decides _ i y named rest place first = (λ t. absurd (cc), λ p. absurd p)

-- the first batches that are found, where another content of the same position names them
pub first_beside : (i : Instance) (y : History) (content other : Content) → content.position ≡ other.position
    → (n : NamesPosition i y other)
    → first_with content.position y.batches ≡ Some n.named
first_beside i y content other same n =
    (λ j. first_with ((same ∙ n.position) j) (n.first j)) ∙ first_is n.named n.rest

names-Decides : (i : Instance) (y : History) (content : Content) (found : Option (List Batch))
    → first_with content.position y.batches ≡ found → Decides (is_named_at i y content found) (NamesPosition i y content)
names-Decides i y content None e = (
  λ t. absurd (cc),
  λ n. let clash : Some n.named ≡ None = sym (first_beside i y content content refl n) ∙ e in absurd (cc),
)
names-Decides i y content (Some named) e =
    let t = first_tells content.position y.batches named e in
    let state : List ℕ = state_after i.meaning (requests_of named) in
    let both = Decides-and (bytes_eq content.state state) (is_place i.variant i y named content.place)
    (bytes_eq-Decides content.state state) (place-Decides i.variant i y named t.0 content.place t.1.0) in (
      λ yes. let p = both.0 yes in record { named = named; rest = t.0; first = t.1.0; position = t.1.1; state = p.0; place = p.1 },
      λ n.
          let found : Some n.named ≡ Some named = sym (first_beside i y content content refl n) ∙ e in
          let same : n.named ≡ named = cc in
          both.1 (subst (λ (bs : List Batch). (content.state ≡ state_after i.meaning (requests_of bs))
          × IsPlaceOf i.variant i y bs content.place) same (n.state, n.place)),
    )

-- by what the test gave
pub named_by : (i : Instance) (y : History) (content : Content) (r : Bool) → r ≡ is_named i y content
    → IsDecided r (NamesPosition i y content)
named_by i y content r e =
    let whole = names-Decides i y content (first_with content.position y.batches) refl in
    subst (λ (t : Bool). IsDecided t (NamesPosition i y content)) (sym e) (decided (is_named i y content) whole)

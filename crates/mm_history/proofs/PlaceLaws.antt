-- The loops that look for a named position.
use Rattle.mm_history.proofs.Below.{◌≡◌, ℕ, ◌+◌, ◌-◌, ◌<◌, ◌≤◌, Bool, true, false, List, [], ◌∷◌, ◌++◌, length, take, drop, get_or, Option}
use Rattle.mm_history.proofs.Below.{None, Some, refl, sym, ap, ◌∙◌, subst, arith, length-append, length-drop, Vec, not, ◌==◌, bytes_eq}
use Rattle.mm_history.proofs.Below.{option_map, Decides-eqb, take-map, drop-map, take_all, length-map, Batch, Meaning, state_after, Variant}
use Rattle.mm_history.proofs.Below.{Place, InBasic, Content, Instance, NamesPosition, Basic, Opt, register_of, RegisterEntry}
use Rattle.mm_history.proofs.Below.{History, requests_of, items_of_all, is_empty, has_value, joined-push, KeptBatch}
use Rattle.mm_history.proofs.Below.{KeptEntry, kept_batch, kept_batches, kept_entry, kept_entries, kept_segments, first_with}
use Rattle.mm_history.proofs.Below.{anchor_at, is_at, is_behind, is_here, is_inside_at, some_place, is_place_in, is_place, is_named_at}
use Rattle.mm_history.proofs.Below.{instance_by, IsDecided, and_true, zero_bytes, nat_lt}
use Rattle.std.specs.Prelude.{◌&&◌}
use Rattle.mm_history.proofs.NameLaws.{named_by, le-Decides, same-Decides}
use Rattle.mm_history.specs.Naming.{BeginsBefore, EndsWithCurrent, IsStage, stage_at}
use Rattle.mm_history.proofs.Below.{◌||◌, append-nil, append_assoc, inl, inr, is_within, nat_le}
use Rattle.mm_history.specs.declared.waymarks.SegmentStart.{SegmentStart}
use Rattle.std.specs.List.{AllByRecursion}
use Rattle.std.proofs.Math.Seq.{drop-append_seam}
use Rattle.mm_history.proofs.Below.{suc, own_values, map, map-append, take-append-drop}
use Rattle.std.proofs.lemmas.Bool.{and_left, and_right, ne_eqb, le-ltb}
use Rattle.std.proofs.lemmas.List.{nil_from_length}
use Rattle.mm_history.proofs.TakenLaws.{segments_left, taken}

-- all from a place on
pub back_is : (xs : List KeptBatch) (n : ℕ) → take (length xs - n) (drop n xs) ≡ drop n xs
back_is xs n = take_all (length xs - n) (drop n xs) (omega (arith, length-drop n xs))

pub own_from : (barrier : List ℕ) (start : ℕ) (named : List KeptBatch)
    → register_of (own_values barrier (kept_batches (take (length named - start) (drop start named))))
    ≡ register_of (own_values barrier (drop start (kept_batches named)))
own_from barrier start named = ap (λ (bs : List KeptBatch). register_of (own_values barrier (kept_batches bs))) (back_is named start)
    ∙ ap (λ (bs : List Batch). register_of (own_values barrier bs)) (sym (drop-map kept_batch start named))

-- The test inside the open segment, whose batches are the last.
pub last_are : (y : History) → EndsWithCurrent y → drop (length y.batches - length y.current) y.batches ≡ y.current
last_are y ends =
    let counts : length y.batches ≡ length ends.done + length y.current = ap length ends.is ∙ length-append ends.done y.current in
    let start : length y.batches - length y.current ≡ length ends.done = omega (arith, counts) in
    (λ j. drop (start j) (ends.is j)) ∙ drop-append_seam ends.done y.current

pub inside_by : (barrier last : List ℕ) (y : History) (named : List Batch) (a e : List ℕ) (bs cs : List KeptBatch) {start : ℕ} {r : Bool}
    → kept_batches bs ≡ y.batches → kept_batches cs ≡ y.current → start ≡ length bs - length cs → EndsWithCurrent y
    → r ≡ is_behind barrier last start named a e → r ≡ is_inside_at barrier last y named a e
inside_by barrier last y named a e bs cs {start} all current at ends is =
    let begins : start ≡ length y.batches - length y.current =
    at ∙ (λ j. (sym (length-map bs kept_batch) ∙ ap length all) j - (sym (length-map cs kept_batch) ∙ ap length current) j) in
    let behind = is_behind barrier last (length y.batches - length y.current) named a e in
    is ∙ ap (λ (n : ℕ). is_behind barrier last n named a e) begins
    ∙ ap (λ (b : Bool). b && behind)
    (sym ((same-Decides (drop (length y.batches - length y.current) y.batches) y.current).1 (last_are y ends)))

not_none : (xs : List (List RegisterEntry)) → 0 < length xs → is_empty xs ≡ false
not_none [] some = absurd (omega (arith, some))
not_none (x ∷ xs) some = refl

not_le : (n m : ℕ) → m < n → nat_le n m ≡ false
not_le n m lt = elim (nat_le n m) as (λ t. nat_le n m ≡ t → t ≡ false) [
  | true ↦ λ t. let fits = (le-Decides n m).0 t in absurd (omega (arith, fits, lt))
  | false ↦ λ t. refl
] refl

is_empty_by : (xs : List (List RegisterEntry)) (n : ℕ) → n ≡ length xs → (n == 0) ≡ is_empty xs
is_empty_by [] n same = (Decides-eqb n 0).1 same
is_empty_by (x ∷ xs) n same = ne_eqb n 0 (λ z. absurd (omega (arith, same, z)))

-- a stage from which a walk may begin is behind some first segments, of no more entries than there are named batches
pub begins_within : (id : ℕ) (barrier : List ℕ) (closed : List (List RegisterEntry)) (size : ℕ) (stage : SegmentStart)
    → BeginsBefore id barrier closed size stage → stage.count ≤ length closed
begins_within id barrier closed size stage b = elim b.early [ inl none ↦ omega (arith, none) | inr more ↦ omega (arith, more.0) ]

pub begins_fits : (id : ℕ) (barrier : List ℕ) (closed : List (List RegisterEntry)) (size : ℕ) (stage : SegmentStart)
    → BeginsBefore id barrier closed size stage → stage.entries ≤ size
begins_fits id barrier closed size stage b = elim b.early [
  | inl none ↦
      let is : stage.entries ≡ 0 = ap (λ (s : SegmentStart). s.entries) b.is
      ∙ ap (λ (n : ℕ). length (items_of_all (take n closed))) none in
      omega (arith, is)
  | inr more ↦ omega (arith, more.1)
]

-- How far the walk over the closed segments has come.
module _ (id : ℕ) (barrier : List ℕ) (y : History) (named : List Batch) (a e : List ℕ) where
  pub record Reached (front all before rest : List (List RegisterEntry)) (here : SegmentStart) (entries later : ℕ) : Type 0 where
    pub here_is : here ≡ stage_at id barrier before
    pub entries_is : entries ≡ length (items_of_all before)
    pub fits : entries ≤ length named
    pub left : later ≡ length rest
    pub same : some_place id barrier y named a e before rest ≡ some_place id barrier y named a e front all

  not_at : (here : List ℕ) (start : ℕ) (t : Bool) → length named < start → is_at t here start named a e ≡ false
  not_at here start t lt = and_left (t && (length named == start)) (bytes_eq a here && bytes_eq e zero_bytes)
      (and_right t (length named == start) (ne_eqb (length named) start (λ s. absurd (omega (arith, lt, s)))))

  not_behind : (here : List ℕ) (start : ℕ) → length named < start → is_behind barrier here start named a e ≡ false
  not_behind here start lt = and_left (nat_lt start (length named)) _ (le-ltb start (length named) (omega (arith, lt)))

  -- behind more entries than there are named batches, only the open segment is left
  past : (before rest : List (List RegisterEntry)) → length named < length (items_of_all before)
      → is_inside_at barrier (anchor_at id barrier y.closed) y named a e ≡ some_place id barrier y named a e before rest
  past before [] lt = rw (not_at (anchor_at id barrier before) (length (items_of_all before)) (not (has_value (items_of_all before))) lt)
      refl
  past before (segment ∷ rest) lt =
      rw (
        not_at (anchor_at id barrier before) (length (items_of_all before)) (not (has_value (items_of_all before))) lt,
        not_behind (anchor_at id barrier before) (length (items_of_all before)) lt,
      ) (past (before ++ segment ∷ []) rest
      (omega (arith, lt, ap length (joined-push before segment), length-append (items_of_all before) segment)))

  entries_grow : (before mid : List (List RegisterEntry)) → length (items_of_all before) ≤ length (items_of_all (before ++ mid))
  entries_grow before [] = omega (arith, ap (λ (s : List (List RegisterEntry)). length (items_of_all s)) (append-nil before))
  entries_grow before (segment ∷ mid) =
      omega (
        arith,
        entries_grow (before ++ segment ∷ []) mid,
        ap length (joined-push before segment),
        length-append (items_of_all before) segment,
        ap (λ (s : List (List RegisterEntry)). length (items_of_all s)) (append_assoc before (segment ∷ []) mid),
      )

  more_left : (mid rest : List (List RegisterEntry)) → is_empty rest ≡ false → is_empty (mid ++ rest) ≡ false
  more_left [] rest some = some
  more_left (segment ∷ mid) rest some = refl

  -- segments behind which fewer entries are than there are named batches don't have the place
  pub skipped : (before mid rest : List (List RegisterEntry)) → length (items_of_all (before ++ mid)) < length named → is_empty rest ≡ false
      → some_place id barrier y named a e (before ++ mid) rest ≡ some_place id barrier y named a e before (mid ++ rest)
  skipped before [] rest lt some = ap (λ (s : List (List RegisterEntry)). some_place id barrier y named a e s rest) (append-nil before)
  skipped before (segment ∷ mid) rest lt some =
      let start = length (items_of_all before) in
      let here = anchor_at id barrier before in
      let clean = not (has_value (items_of_all before)) in
      let joins = append_assoc before (segment ∷ []) mid in
      let more : length (items_of_all (before ++ segment ∷ [])) ≡ start + length segment =
      ap length (joined-push before segment) ∙ length-append (items_of_all before) segment in
      let less : length (items_of_all ((before ++ segment ∷ []) ++ mid)) < length named =
      subst (λ (s : List (List RegisterEntry)). length (items_of_all s) < length named) (sym joins) lt in
      let over : start + length segment < length named = omega (arith, less, more, entries_grow (before ++ segment ∷ []) mid) in
      let at : is_at clean here start named a e ≡ false =
      and_left (clean && (length named == start)) (bytes_eq a here && bytes_eq e zero_bytes)
      (and_right clean (length named == start) (ne_eqb (length named) start (λ s. absurd (omega (arith, over, s))))) in
      let size : nat_le (length named - start) (length segment) ≡ false =
      not_le (length named - start) (length segment) (omega (arith, over)) in
      let within : is_within start named (length segment) (is_empty (mid ++ rest) && is_empty y.current) ≡ false =
      rw (size, more_left mid rest some) refl in
      let none : is_here clean barrier here start named (length segment) (is_empty (mid ++ rest) && is_empty y.current) a e ≡ false =
      rw (at, within) (and_right (is_behind barrier here start named a e) false refl) in
      ap (λ (s : List (List RegisterEntry)). some_place id barrier y named a e s rest) (sym joins)
      ∙ skipped (before ++ segment ∷ []) mid rest less some
      ∙ sym (ap (λ (t : Bool). t || some_place id barrier y named a e (before ++ segment ∷ []) (mid ++ rest)) none)

  -- so a walk may begin at a stage before the place
  pub begins_same : (size : ℕ) (stage : SegmentStart) → size ≡ length named → BeginsBefore id barrier y.closed size stage
      → some_place id barrier y named a e (take stage.count y.closed) (drop stage.count y.closed) ≡ some_place id barrier y named a e []
      y.closed
  begins_same size stage sized b = elim b.early [
    | inl none ↦ λ j. some_place id barrier y named a e (take (none j) y.closed) (drop (none j) y.closed)
    | inr more ↦
        let front = take stage.count y.closed in
        let back = drop stage.count y.closed in
        let few : length (items_of_all front) < length named =
        omega (arith, more.1, sized, ap (λ (s : SegmentStart). s.entries) b.is) in
        let some : is_empty back ≡ false = not_none back (omega (arith, more.0, length-drop stage.count y.closed)) in
        skipped [] front back few some ∙ ap (some_place id barrier y named a e []) (take-append-drop stage.count y.closed)
  ]

-- The walk, over owned segments and batches.
module _ (id : ℕ) (barrier : List ℕ) (y : History) (named : List KeptBatch) (a e : List ℕ) where
  abbrev pub Walked : {A : Type 0} → (front : List (List RegisterEntry)) → List (Vec KeptEntry A) → ℕ → (here : SegmentStart)
      (entries later : ℕ) → Type 0
  Walked front closed k here entries later =
      Reached id barrier y (kept_batches named) a e front (kept_segments closed) (front ++ kept_segments (take k closed))
      (kept_segments (drop k closed))
      here entries later

  pub walk_begins : {A : Type 0} (front : List (List RegisterEntry)) (closed : List (Vec KeptEntry A)) (here : SegmentStart)
      → here ≡ stage_at id barrier front
      → here.entries ≤ length named
      → Reached id barrier y (kept_batches named) a e front (kept_segments closed) (front ++ []) (kept_segments closed) here here.entries
      (length closed)
  walk_begins {A} front closed here is fits =
      subst (λ (s : List (List RegisterEntry)). Reached id barrier y (kept_batches named) a e front (kept_segments closed) s
      (kept_segments closed) here here.entries (length closed)) (sym (append-nil front)) (record {
        here_is = is;
        entries_is = ap (λ (s : SegmentStart). s.entries) is;
        fits = omega (arith, fits, length-map named kept_batch);
        left = sym (length-map closed (λ (v : Vec KeptEntry A). kept_entries v.items));
        same = refl;
      })

pub segments_are : {A : Type 0} (closed : List (Vec KeptEntry A)) {all : List (List RegisterEntry)} → kept_segments closed ≡ all
    → length closed ≡ length all
segments_are {A} closed is = sym (length-map closed (λ (v : Vec KeptEntry A). kept_entries v.items)) ∙ ap length is

pub segments_on : {A : Type 0} (closed : List (Vec KeptEntry A)) (n : ℕ) {all : List (List RegisterEntry)} {rest : List (Vec KeptEntry A)}
    → kept_segments closed ≡ all → rest ≡ drop n closed → kept_segments rest ≡ drop n all
segments_on {A} closed n is on = ap (λ (s : List (Vec KeptEntry A)). kept_segments s) on
    ∙ sym (drop-map (λ (v : Vec KeptEntry A). kept_entries v.items) n closed) ∙ ap (drop n) is

-- at a segment: the place is there, or the walk goes on
module _ {A : Type 0} {id : ℕ} {barrier : List ℕ} {y : History} {a e : List ℕ} {here : SegmentStart} {entries later size : ℕ}
    {shut ends tested : Bool} (named : List KeptBatch) (front whole : List (List RegisterEntry)) (closed : List (Vec KeptEntry A)) (k : ℕ)
    (segment : Vec KeptEntry A)
    (l : k < length closed) (is : segment ≡ get_or closed k segment)
    (w : Walked id barrier y named a e front closed k here entries later) (sized : size ≡ length segment.items)
    (clear : shut ≡ is_empty y.current) (ended : ends ≡ ((later - 1 == 0) && shut))
    (test : tested ≡ is_here here.is_clean barrier here.anchor.bytes entries (kept_batches named) size ends a e)
    (all : kept_segments closed ≡ whole) where
  abbrev before : List (List RegisterEntry)
  before = front ++ kept_segments (take k closed)

  abbrev rest : List (List RegisterEntry)
  rest = kept_segments (drop (k + 1) closed)

  abbrev items : List RegisterEntry
  items = kept_entries segment.items

  cut : Reached id barrier y (kept_batches named) a e front (kept_segments closed) before (items ∷ rest) here entries later
  cut = subst (λ (s : List (List RegisterEntry)). Reached id barrier y (kept_batches named) a e front (kept_segments closed) before s here
      entries
      later) (segments_left closed k segment l is) w

  sizes : size ≡ length items
  sizes = sized ∙ sym (length-map segment.items kept_entry)

  -- the test, as the walk makes it
  here_by : tested ≡ is_here (not (has_value (items_of_all before))) barrier (anchor_at id barrier before) (length (items_of_all before))
      (kept_batches named) (length items) (is_empty rest && is_empty y.current) a e
  here_by =
      let x = cut in
      let last : ends ≡ (is_empty rest && is_empty y.current) = ended ∙ ap (λ (b : Bool). (later - 1 == 0) && b) clear
      ∙ ap (λ (b : Bool). b && is_empty y.current) (is_empty_by rest (later - 1) (omega (arith, x.left))) in
      test ∙ (λ j. is_here (x.here_is j).is_clean barrier (x.here_is j).anchor.bytes (x.entries_is j) (kept_batches named)
      (sizes j) (last j) a e)

  pub walk_here : tested ≡ true → true ≡ some_place id barrier y (kept_batches named) a e front whole
  walk_here found =
      let x = cut in
      let is_some : true ≡ some_place id barrier y (kept_batches named) a e front (kept_segments closed) =
      rw (sym here_by ∙ found) at x.same in
      is_some ∙ ap (some_place id barrier y (kept_batches named) a e front) all

  on_then : tested ≡ false → some_place id barrier y (kept_batches named) a e (before ++ items ∷ []) rest
      ≡ some_place id barrier y (kept_batches named) a e front (kept_segments closed)
  on_then not_here = let x = cut in rw (sym here_by ∙ not_here) at x.same

  pub walk_past : {last : List ℕ} {r : Bool} → tested ≡ false → length named - entries < size
      → last ≡ anchor_at id barrier y.closed → r ≡ is_inside_at barrier last y (kept_batches named) a e
      → r ≡ some_place id barrier y (kept_batches named) a e front whole
  walk_past {last} {r} not_here over reads inside =
      let x = cut in
      let more : length (items_of_all (before ++ items ∷ [])) ≡ length (items_of_all before) + length items =
      ap length (joined-push before items) ∙ length-append (items_of_all before) items in
      inside ∙ ap (λ (l : List ℕ). is_inside_at barrier l y (kept_batches named) a e) reads
      ∙ past id barrier y (kept_batches named) a e (before ++ items ∷ []) rest
      (omega (arith, over, sizes, x.entries_is, x.fits, more, length-map named kept_batch)) ∙ on_then not_here
      ∙ ap (some_place id barrier y (kept_batches named) a e front) all

  -- the segments, cut here
  parted : front ++ kept_segments closed ≡ before ++ items ∷ rest
  parted =
      let f : Vec KeptEntry A → List RegisterEntry = λ v. kept_entries v.items in
      ap (λ (s : List (List RegisterEntry)). front ++ s)
      (ap (map f) (sym (take-append-drop k closed)) ∙ map-append f (take k closed) (drop k closed)
      ∙ ap (λ (s : List (List RegisterEntry)). kept_segments (take k closed) ++ s) (segments_left closed k segment l is))
      ∙ sym (append_assoc front (kept_segments (take k closed)) (items ∷ rest))

  pub walk_on : tested ≡ false → (stages : List SegmentStart) {lent : List KeptEntry} {next : SegmentStart} {count of : ℕ}
      → size ≤ length named - entries
      → lent ≡ segment.items → y.closed ≡ front ++ whole → AllByRecursion (IsStage id barrier y.closed) stages
      → of ≡ length y.closed
      → count ≡ of - (later - 1)
      → ((n : ℕ) (front back : List (List RegisterEntry)) → here ≡ stage_at n barrier front → count ≡ length front + 1
      → entries + size ≡ length (items_of_all (front ++ kept_entries lent ∷ []))
      → AllByRecursion (IsStage n barrier (front ++ kept_entries lent ∷ back)) stages
      → next ≡ stage_at n barrier (front ++ kept_entries lent ∷ []))
      → Walked id barrier y named a e front closed (k + 1) next (entries + size) (later - 1)
  walk_on not_here stages {lent = lent} {next = next} {count = count} room items_are split are whole_size counted behind =
      let x = cut in
      let f : Vec KeptEntry A → List RegisterEntry = λ v. kept_entries v.items in
      let joins : items_of_all (before ++ items ∷ []) ≡ items_of_all before ++ items = joined-push before items in
      let cuts : y.closed ≡ before ++ items ∷ rest = split ∙ ap (λ (s : List (List RegisterEntry)). front ++ s) (sym all) ∙ parted in
      let sizes_all : length y.closed ≡ length before + suc (length rest) = ap length cuts ∙ length-append before (items ∷ rest) in
      let one : count ≡ length before + 1 = omega (arith, counted, whole_size, sizes_all, x.left) in
      let entries_are : entries + size ≡ length (items_of_all (before ++ items ∷ [])) =
      omega (arith, x.entries_is, sizes, ap length joins, length-append (items_of_all before) items) in
      let cuts_here : y.closed ≡ before ++ kept_entries lent ∷ rest =
      cuts ∙ ap (λ (es : List KeptEntry). before ++ kept_entries es ∷ rest) (sym items_are) in
      subst (λ (done : List (List RegisterEntry)). Reached id barrier y (kept_batches named) a e front (kept_segments closed) done rest next
      (entries + size) (later - 1))
      (append_assoc front (kept_segments (take k closed)) (items ∷ [])
      ∙ ap (λ (s : List (List RegisterEntry)). front ++ s) (taken f closed k segment l is)) (record {
        here_is = behind id before rest x.here_is one
            (entries_are
            ∙ ap (λ (es : List KeptEntry). length (items_of_all (before ++ kept_entries es ∷ []))) (sym items_are))
            (subst (λ (s : List (List RegisterEntry)). AllByRecursion (IsStage id barrier s) stages) cuts_here are)
            ∙ ap (λ (es : List KeptEntry). stage_at id barrier (before ++ kept_entries es ∷ [])) items_are;
        entries_is = entries_are;
        fits = omega (arith, room, x.fits, length-map named kept_batch);
        left = omega (arith, x.left);
        same = on_then not_here;
      })

-- behind all segments the place is at the last anchor
pub walk_at : {A : Type 0} {id : ℕ} {barrier : List ℕ} {y : History} {a e : List ℕ} {here : SegmentStart} {entries later : ℕ}
    {tested : Bool}
    (named : List KeptBatch) (front whole : List (List RegisterEntry)) (closed : List (Vec KeptEntry A)) (k : ℕ) → length closed ≤ k
    → Walked id barrier y named a e front closed k here entries later
    → tested ≡ is_at here.is_clean here.anchor.bytes entries (kept_batches named) a e → tested ≡ true → kept_segments closed ≡ whole
    → true ≡ some_place id barrier y (kept_batches named) a e front whole
walk_at {A} {id} {barrier} {y} {a} {e} {here} {entries} {later} named front whole closed k over w test found all =
    let none : drop k closed ≡ [] = nil_from_length (drop k closed) (omega (arith, over, length-drop k closed)) in
    let before = front ++ kept_segments (take k closed) in
    let x : Reached id barrier y (kept_batches named) a e front (kept_segments closed) before [] here entries later =
    subst (λ (s : List (Vec KeptEntry A)).
    Reached id barrier y (kept_batches named) a e front (kept_segments closed) before (kept_segments s)
    here
    entries later) none w in
    let at_is : is_at (not (has_value (items_of_all before))) (anchor_at id barrier before) (length (items_of_all before))
    (kept_batches named) a e ≡ true =
    sym (test ∙ (λ j. is_at (x.here_is j).is_clean (x.here_is j).anchor.bytes (x.entries_is j) (kept_batches named) a e)) ∙ found in
    let is_some : true ≡ some_place id barrier y (kept_batches named) a e front (kept_segments closed) = rw at_is at x.same in
    is_some ∙ ap (some_place id barrier y (kept_batches named) a e front) all

-- The whole test, by what was found.

place_as : (variant : Variant) (meaning : Meaning) (key barrier : List ℕ) (y : History) (named : List Batch) (place : Place)
    → (let i = instance_by variant meaning key barrier in
    is_place_in variant meaning.id barrier y named place ≡ is_place i.variant i y named place)
place_as Basic meaning key barrier y named (InBasic s) = refl
place_as _ meaning key barrier y named place = refl

state_as : (variant : Variant) (meaning : Meaning) (key barrier : List ℕ) (requests : List (List ℕ))
    → state_after meaning requests ≡ state_after (instance_by variant meaning key barrier).meaning requests
state_as Basic meaning key barrier requests = refl
state_as Opt meaning key barrier requests = refl

abbrev Counts : List KeptBatch → ℕ → Option ℕ → Type 0
Counts batches position found =
    option_map (λ (n : ℕ). take n (kept_batches batches)) found ≡ first_with position (kept_batches batches)

module _ (variant : Variant) (meaning : Meaning) (key barrier : List ℕ) (y : History) (content : Content) (batches : List KeptBatch)
    (all : kept_batches batches ≡ y.batches) (found : Option ℕ) (counts : Counts batches content.position found) where
  abbrev i : Instance
  i = instance_by variant meaning key barrier

  counted : first_with content.position y.batches ≡ option_map (λ (n : ℕ). take n (kept_batches batches)) found
  counted = ap (first_with content.position) (sym all) ∙ sym counts

  pub not_counted : found ≡ None → IsDecided false (NamesPosition i y content)
  not_counted none = named_by i y content false
      (sym (ap (is_named_at i y content) (counted ∙ ap (option_map (λ (n : ℕ). take n (kept_batches batches))) none)))

  module _ {count id : ℕ} {placed : Bool} (some : found ≡ Some count) (ids : id ≡ meaning.id)
      (tested : placed ≡ is_place_in variant id barrier y (kept_batches (take count batches)) content.place) where
    abbrev named : List Batch
    named = kept_batches (take count batches)

    named_is : first_with content.position y.batches ≡ Some named
    named_is = counted ∙ ap (option_map (λ (n : ℕ). take n (kept_batches batches))) some
        ∙ ap (λ (bs : List Batch). Some bs) (take-map kept_batch count batches)

    placed_is : is_place i.variant i y named content.place ≡ placed
    placed_is = sym (tested ∙ ap (λ (n : ℕ). is_place_in variant n barrier y named content.place) ids
        ∙ place_as variant meaning key barrier y named content.place)

    pub other_place : placed ≡ false → IsDecided false (NamesPosition i y content)
    other_place off =
        let s = bytes_eq content.state (state_after i.meaning (requests_of named)) in
        named_by i y content false
        (sym (ap (is_named_at i y content) named_is ∙ ap (λ (b : Bool). s && b) (placed_is ∙ off) ∙ and_right s false refl))

    pub stated_by : {state : List ℕ} {s : Bool} → placed ≡ true → state ≡ state_after meaning (requests_of named)
        → s ≡ bytes_eq content.state state → IsDecided s (NamesPosition i y content)
    stated_by {state} {s} on run test =
        let t = bytes_eq content.state (state_after i.meaning (requests_of named)) in
        named_by i y content s
        (test ∙ ap (bytes_eq content.state) (run ∙ state_as variant meaning key barrier (requests_of named))
        ∙ sym (ap (is_named_at i y content) named_is ∙ ap (λ (b : Bool). t && b) (placed_is ∙ on) ∙ and_true t))

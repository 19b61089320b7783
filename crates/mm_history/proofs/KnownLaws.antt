-- What is kept of a position decides what names it.
use Rattle.mm_history.proofs.Below.{◌≡◌, ℕ, ◌+◌, ◌-◌, ◌<◌, ◌≤◌, Bool, true, false, ◌&&◌, List, [], ◌∷◌, ◌++◌, length, take, drop}
use Rattle.mm_history.proofs.Below.{None, Some, refl, sym, ap, ◌∙◌, arith, length-append, bytes_eq, append-nil, inl, inr, ◌==◌}
use Rattle.mm_history.proofs.Below.{option_map, Decides-eqb, take-map, length-map, length-take, take_all, Batch, size_of, total_of, Meaning}
use Rattle.mm_history.proofs.Below.{Variant, Basic, Opt, zero_bytes, register_of, own_values, History, KeptBatch, kept_batch, kept_batches}
use Rattle.mm_history.proofs.Below.{first_with, total-cons, nat_le, reads_zero, requests_of, state_after}
use Rattle.std.specs.List.{AllByRecursion, slice_get}
use Rattle.std.specs.Prelude.{nat_lt, IfSome, Vec}
use Rattle.std.specs.Option.{SomeIff}
use Rattle.mm_history.proofs.Below.{anchor_at, kept_entries, kept_segments, KeptEntry, Option}
use Rattle.std.proofs.lemmas.Bool.{ne_eqb}
use Rattle.std.proofs.lemmas.Slice.Eq.{bytes_eq-Decides}
use Rattle.std.proofs.Math.Seq.{take-append_seam, drop-length}
use Rattle.mm_model.specs.BatchLaws.{same_tests}
use Rattle.mm_history.proofs.NameLaws.{first_is, le-Decides}
use Rattle.mm_history.specs.Naming.{IsBetween, IsWaymark, digest_behind, marks_of, EndsWithCurrent, BeginsBefore, IsStage, stage_at}
use Rattle.mm_history.specs.declared.marks.HistoryMarks.{HistoryMarks}
use Rattle.mm_digest.specs.declared.digest.Digest.{Digest}
use Rattle.mm_model.specs.Chains.{Instance}
use Rattle.mm_model.specs.History.{cell_digest_of}
use Rattle.mm_history.proofs.PlaceLaws.{last_are}
use Rattle.mm_history.proofs.Below.{RegisterEntry, anchored_digest_of, append_assoc, has_value, has_value-append, items_of_all, joined-push}
use Rattle.mm_history.proofs.Below.{not, values_of}
use Rattle.mm_model.specs.Standing.{digest_of}
use Rattle.mm_history.proofs.Below.{Decides-ltb}
use Rattle.std.proofs.lemmas.Bool.{and_parts}
use Rattle.std.proofs.lemmas.List.{nil_from_length}
use Rattle.mm_model.specs.BatchLaws.{total-push}
use Rattle.mm_model.specs.SegmentLaws.{same_halves}
use Rattle.mm_history.proofs.TakenLaws.{anchor_more, not_or}
use Rattle.mm_history.specs.declared.waymarks.SegmentStart.{SegmentStart}
use Rattle.mm_history.specs.MarkLaws.{each_found}
use Rattle.mm_history.specs.declared.waymarks.Waymark.{Waymark}

-- behind no batch left out the register is zero
pub none_known : (barrier : List ℕ) (named : List KeptBatch) → zero_bytes
    ≡ register_of (own_values barrier (drop (length named) (kept_batches named)))
none_known barrier named =
    sym (ap (λ (n : ℕ). register_of (own_values barrier (drop n (kept_batches named)))) (sym (length-map named kept_batch))
    ∙ ap (λ (bs : List Batch). register_of (own_values barrier bs)) (drop-length (kept_batches named)) ∙ reads_zero)

-- no batch ends inside another
absent_inside : (front : List Batch) (b : Batch) (rest : List Batch) (position : ℕ) → total_of front < position
    → position < total_of front + size_of b → first_with position (front ++ b ∷ rest) ≡ None
absent_inside [] b rest position lt gt =
    let some : (position == 0) ≡ false = ne_eqb position 0 (λ none. absurd (omega (arith, none, lt))) in
    let over : nat_le (size_of b) position ≡ false = elim (nat_le (size_of b) position) as (λ t. nat_le (size_of b) position ≡ t
    → t ≡ false) [
      | true ↦ λ t. let fits = (le-Decides (size_of b) position).0 t in absurd (omega (arith, fits, gt))
      | false ↦ λ t. refl
    ] refl in
    rw (some, over) refl
absent_inside (c ∷ front) b rest position lt gt =
    let cons = total-cons c front in
    let some : (position == 0) ≡ false = ne_eqb position 0 (λ none. absurd (omega (arith, none, lt))) in
    let fits : nat_le (size_of c) position ≡ true = (le-Decides (size_of c) position).1 (omega (arith, cons, lt)) in
    rw (some, fits, absent_inside front b rest (position - size_of c) (omega (arith, cons, lt)) (omega (arith, cons, lt, gt))) refl

absent_behind : (batches : List Batch) (position : ℕ) → total_of batches < position → first_with position batches ≡ None
absent_behind [] position lt = let some : (position == 0) ≡ false = ne_eqb position 0 (λ none. absurd (omega (arith, none, lt))) in
    rw some refl
absent_behind (c ∷ batches) position lt =
    let cons = total-cons c batches in
    let some : (position == 0) ≡ false = ne_eqb position 0 (λ none. absurd (omega (arith, none, lt))) in
    let fits : nat_le (size_of c) position ≡ true = (le-Decides (size_of c) position).1 (omega (arith, cons, lt)) in
    rw (some, fits, absent_behind batches (position - size_of c) (omega (arith, cons, lt))) refl

-- What is kept of the position where a history stands.

abbrev pub digest_in : Variant → HistoryMarks → Digest
digest_in Basic m = m.cell
digest_in Opt m = m.own

digest_kept : (variant : Variant) (i : Instance) (y : History) (m : HistoryMarks) (start : ℕ) → variant ≡ i.variant → m ≡ marks_of i y
    → (variant ≡ Opt → drop start y.batches ≡ y.current)
    → (digest_in variant m).bytes ≡ digest_behind variant i.meaning.id i.barrier start y.batches
digest_kept Basic i y m start v e last = ap (λ (n : HistoryMarks). n.cell.bytes) e ∙ ap (λ (w : Variant). cell_digest_of i w y) (sym v)
digest_kept Opt i y m start v e last = ap (λ (n : HistoryMarks). n.own.bytes) e
    ∙ ap (λ (bs : List Batch). register_of (own_values i.barrier bs)) (sym (last refl))

pub kept_mark : (i : Instance) (y : History) (variant : Variant) (m : HistoryMarks) (mark : Waymark)
    (bs cs : List KeptBatch) {state : List ℕ}
    → variant ≡ i.variant → m ≡ marks_of i y → state ≡ state_after i.meaning (requests_of y.batches)
    → (i.variant ≡ Opt → EndsWithCurrent y) → kept_batches bs ≡ y.batches → kept_batches cs ≡ y.current → mark.count ≡ length bs
    → mark.position ≡ m.total → mark.digest ≡ digest_in variant m → mark.start ≡ length bs - length cs
    → mark.state ≡ take mark.limit state → IsWaymark i.variant i.meaning i.barrier y.batches mark
kept_mark i y variant m mark bs cs v e run ends all current counts total digest start kept =
    let begins : mark.start ≡ length y.batches - length y.current =
    start ∙ (λ j. (sym (length-map bs kept_batch) ∙ ap length all) j - (sym (length-map cs kept_batch) ∙ ap length current) j) in
    let last : variant ≡ Opt → drop mark.start y.batches ≡ y.current =
    λ opt. ap (λ (n : ℕ). drop n y.batches) begins ∙ last_are y (ends (sym v ∙ opt)) in
    record {
      front = y.batches;
      rest = [];
      split = sym (append-nil y.batches);
      count_is = counts ∙ sym (length-map bs kept_batch) ∙ ap length all;
      position_is = total ∙ ap (λ (n : HistoryMarks). n.total) e;
      digest_is = ap (λ (d : Digest). d.bytes) digest ∙ digest_kept variant i y m mark.start v e last
          ∙ ap (λ (w : Variant). digest_behind w i.meaning.id i.barrier mark.start y.batches) v;
      state_is = kept ∙ ap (take mark.limit) run;
    }

-- What a waymark shows.

module _ {variant : Variant} {meaning : Meaning} {barrier : List ℕ} {batches : List Batch} {mark : Waymark} (bs : List KeptBatch)
    (all : kept_batches bs ≡ batches) (m : IsWaymark variant meaning barrier batches mark) where
  pub front_is : kept_batches (take mark.count bs) ≡ m.front
  front_is = sym (take-map kept_batch mark.count bs) ∙ (λ j. take (m.count_is j) ((all ∙ m.split) j)) ∙ take-append_seam m.front m.rest

  pub front_counts : {position : ℕ} → position ≡ mark.position
      → option_map (λ (n : ℕ). take n (kept_batches bs)) (Some mark.count) ≡ first_with position (kept_batches bs)
  front_counts {position} at = ap (λ (xs : List Batch). Some xs) (take-map kept_batch mark.count bs ∙ front_is)
      ∙ sym (first_is m.front m.rest) ∙ (λ j. first_with (sym (at ∙ m.position_is) j) (sym (all ∙ m.split) j))

  pub front_digest : {id : ℕ} → id ≡ meaning.id
      → mark.digest.bytes ≡ digest_behind variant id barrier mark.start (kept_batches (take mark.count bs))
  front_digest ids = m.digest_is ∙ (λ j. digest_behind variant (sym ids j) barrier mark.start (sym front_is j))

  pub front_state : mark.state ≡ take mark.limit (state_after meaning (requests_of (kept_batches (take mark.count bs))))
  front_state = m.state_is ∙ ap (λ (xs : List Batch). take mark.limit (state_after meaning (requests_of xs))) (sym front_is)

-- What a stage shows.

pub stage_found : (id : ℕ) (barrier : List ℕ) (before later : List (List RegisterEntry)) (items : List RegisterEntry)
    (stages : List SegmentStart) (n : ℕ)
    (stage : SegmentStart) → slice_get stages n ≡ Some stage → stage.count ≡ length before + 1
    → AllByRecursion (IsStage id barrier (before ++ items ∷ later)) stages → stage ≡ stage_at id barrier (before ++ items ∷ [])
stage_found id barrier before later items stages n stage found counts are =
    let s = each_found (IsStage id barrier (before ++ items ∷ later)) stages n stage are found in
    let size : length (before ++ items ∷ []) ≡ length s.before =
    omega (arith, length-append before (items ∷ []), counts, ap (λ (x : SegmentStart). x.count) s.is) in
    let same = (same_halves (before ++ items ∷ []) s.before later s.later size (append_assoc before (items ∷ []) later ∙ s.split)).0 in
    s.is ∙ ap (stage_at id barrier) (sym same)

pub stage_made : (id : ℕ) (barrier : List ℕ) (before : List (List RegisterEntry)) (es : List RegisterEntry) {count entries : ℕ}
    {here : SegmentStart} {anchor : Digest}
    {register : List ℕ} {marred clean : Bool} → here ≡ stage_at id barrier before → count ≡ length before + 1
    → entries ≡ length (items_of_all (before ++ es ∷ []))
    → register ≡ register_of (values_of barrier es) → anchor.bytes ≡ anchored_digest_of here.anchor.bytes register → marred ≡ has_value es
    → clean ≡ (here.is_clean && not marred)
    → ◌≡◌ {A = SegmentStart} (record { count = count; entries = entries; anchor = anchor; is_clean = clean })
    (stage_at id barrier (before ++ es ∷ []))
stage_made id barrier before es {here = here} is counts all reads n v t =
    let joins : items_of_all (before ++ es ∷ []) ≡ items_of_all before ++ es = joined-push before es in
    let size : _ ≡ length (before ++ es ∷ []) = counts ∙ sym (length-append before (es ∷ [])) in
    let there = n ∙ (λ j. anchored_digest_of (is j).anchor.bytes (reads j)) ∙ sym (anchor_more id barrier before es) in
    let cleans = t ∙ (λ j. (is j).is_clean && not (v j))
    ∙ sym (ap (λ (xs : List RegisterEntry). not (has_value xs)) joins ∙ ap not (has_value-append (items_of_all before) es)
    ∙ not_or (has_value (items_of_all before)) (has_value es)) in
    λ j. record { count = size j; entries = all j; anchor = digest_of (there j); is_clean = cleans j }

-- how many entries there are with one more segment
pub entries_more : (id : ℕ) (barrier : List ℕ) (before : List (List RegisterEntry)) (last : List RegisterEntry) (stages : List SegmentStart)
    (n : ℕ) (stage : SegmentStart) {all : ℕ} → slice_get stages n ≡ Some stage → stage.count ≡ length before
    → AllByRecursion (IsStage id barrier (before ++ last ∷ [])) stages → all ≡ stage.entries + length last
    → all ≡ length (items_of_all (before ++ last ∷ []))
entries_more id barrier before last stages n stage found counts are sum =
    let s = each_found (IsStage id barrier (before ++ last ∷ [])) stages n stage are found in
    let size : length before ≡ length s.before = omega (arith, counts, ap (λ (x : SegmentStart). x.count) s.is) in
    let same = (same_halves before s.before (last ∷ []) s.later size s.split).0 in
    let entries : stage.entries ≡ length (items_of_all before) =
    ap (λ (x : SegmentStart). x.entries) s.is ∙ ap (λ (ss : List (List RegisterEntry)). length (items_of_all ss)) (sym same) in
    omega (arith, sum, entries, ap length (joined-push before last), length-append (items_of_all before) last)

-- the place where the next segment begins
pub kept_stage : {A : Type 0} (i : Instance) (y : History) (m : HistoryMarks) (cs : List (Vec KeptEntry A)) {entries : ℕ} → i.variant ≡ Opt
    → m ≡ marks_of i y → kept_segments cs ≡ y.closed → entries ≡ length (items_of_all (kept_segments cs))
    → IsStage i.meaning.id i.barrier y.closed
    (record { count = length cs; entries = entries; anchor = m.cell; is_clean = not m.is_marred })
kept_stage {A} i y m cs opt marks all counts =
    let size : length cs ≡ length y.closed = sym (length-map cs (λ (v : Vec KeptEntry A). kept_entries v.items)) ∙ ap length all in
    let entries_are = counts ∙ ap (λ (s : List (List RegisterEntry)). length (items_of_all s)) all in
    let cell : m.cell ≡ digest_of (anchor_at i.meaning.id i.barrier y.closed) =
    ap (λ (n : HistoryMarks). n.cell) marks ∙ ap (λ (v : Variant). digest_of (cell_digest_of i v y)) opt in
    let marred : m.is_marred ≡ has_value (items_of_all y.closed) = ap (λ (n : HistoryMarks). n.is_marred) marks in
    record {
      before = y.closed;
      later = [];
      split = sym (append-nil y.closed);
      is = λ j. record { count = size j; entries = entries_are j; anchor = cell j; is_clean = not (marred j) };
    }

pub sum_then : (P : Type 0) (r : Option ℕ) {v n : ℕ} → SomeIff r P v → v ≡ n → IfSome r (λ x. x ≡ n)
sum_then P None r e = tt
sum_then P (Some x) r e = r.1 ∙ e

-- the first stage of all
pub begins_first : (id : ℕ) (barrier : List ℕ) (closed : List (List RegisterEntry)) (size : ℕ) (stage : SegmentStart)
    → stage ≡ stage_at id barrier [] → BeginsBefore id barrier closed size stage
begins_first id barrier closed size stage is =
    let none : stage.count ≡ 0 = ap (λ (x : SegmentStart). x.count) is in
    record { is = is ∙ ap (λ (n : ℕ). stage_at id barrier (take n closed)) (sym none); early = inl none }

-- a kept stage with fewer entries before it
pub begins_at : (id : ℕ) (barrier : List ℕ) (closed : List (List RegisterEntry)) (size : ℕ) (stages : List SegmentStart) (n : ℕ)
    (stage : SegmentStart) → slice_get stages n ≡ Some stage → AllByRecursion (IsStage id barrier closed) stages
    → stage.count < length closed → stage.entries < size → BeginsBefore id barrier closed size stage
begins_at id barrier closed size stages n stage found are more less =
    let s = each_found (IsStage id barrier closed) stages n stage are found in
    let front : take stage.count closed ≡ s.before =
    (λ j. take ((ap (λ (x : SegmentStart). x.count) s.is) j) (s.split j)) ∙ take-append_seam s.before s.later in
    record { is = s.is ∙ ap (stage_at id barrier) (sym front); early = inr (more, less) }

-- none ends between two that are a batch apart
inside_next : (f r g s : List Batch) (position : ℕ) → f ++ r ≡ g ++ s → length g ≡ length f + 1 → total_of f < position
    → position < total_of g → first_with position (f ++ r) ≡ None
inside_next f [] g s position e l lt gt = absurd (omega (arith, l, ap length e, length-append f [], length-append g s))
inside_next f (b ∷ rest) g s position e l lt gt =
    let size : length (f ++ b ∷ []) ≡ length g = omega (arith, length-append f (b ∷ []), l) in
    let same = (same_halves (f ++ b ∷ []) g rest s size (append_assoc f (b ∷ []) rest ∙ e)).0 in
    absent_inside f b rest position lt (omega (arith, gt, ap total_of same, total-push f b))

-- Waymarks show that a position has no batches.
pub nowhere : (variant : Variant) (meaning : Meaning) (barrier : List ℕ) {batches : List Batch} (marks : List Waymark) (bs : List KeptBatch)
    {position : ℕ} → kept_batches bs ≡ batches → AllByRecursion (IsWaymark variant meaning barrier batches) marks
    → IsBetween marks (length bs) position → first_with position (kept_batches bs) ≡ None
nowhere variant meaning barrier {batches} marks bs {position} all are between =
    let P = IsWaymark variant meaning barrier batches in
    let m = each_found P marks between.at between.before are between.among in
    let parts : kept_batches bs ≡ m.front ++ m.rest = all ∙ m.split in
    let counts : length bs ≡ length m.front + length m.rest = sym (length-map bs kept_batch) ∙ ap length parts
    ∙ length-append m.front m.rest in
    elim between.shown [
      | inl last ↦
          let both = and_parts (between.before.count == length bs) (nat_lt between.before.position position) last in
          let all_of : between.before.count ≡ length bs = (Decides-eqb between.before.count (length bs)).0 both.0 in
          let none : m.rest ≡ [] = nil_from_length m.rest (omega (arith, all_of, counts, m.count_is)) in
          let front : kept_batches bs ≡ m.front = parts ∙ ap (λ (xs : List Batch). m.front ++ xs) none ∙ append-nil m.front in
          let lt : between.before.position < position = (Decides-ltb between.before.position position).0 both.1 in
          ap (first_with position) front ∙ absent_behind m.front position (omega (arith, lt, m.position_is))
      | inr next ↦
          let n = each_found P marks next.1 next.0 are next.2 in
          let tests = and_parts _ (nat_lt position next.0.position) next.3 in
          let inner = and_parts _ (nat_lt between.before.position position) tests.0 in
          let counted = and_parts (nat_lt between.before.count next.0.count) (next.0.count - between.before.count == 1) inner.0 in
          let one : next.0.count - between.before.count ≡ 1 = (Decides-eqb (next.0.count - between.before.count) 1).0 counted.1 in
          let more : between.before.count < next.0.count = (Decides-ltb between.before.count next.0.count).0 counted.0 in
          let lt : between.before.position < position = (Decides-ltb between.before.position position).0 inner.1 in
          let gt : position < next.0.position = (Decides-ltb position next.0.position).0 tests.1 in
          ap (first_with position) parts ∙ inside_next m.front m.rest n.front n.rest position (sym m.split ∙ n.split)
          (omega (arith, one, more, m.count_is, n.count_is)) (omega (arith, lt, m.position_is)) (omega (arith, gt, n.position_is))
    ]

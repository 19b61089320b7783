-- What a history comes to goes on with its moves. With it: what is kept of positions stays of a
-- history that goes on.
use Rattle.std.specs.List.{AllByRecursion, slice_get}
use Rattle.std.specs.Prelude.{nat_le}
use Rattle.std.proofs.Common.{ℕ, suc, ◌≡◌, Bool, true, false, ◌&&◌, List, [], ◌∷◌, ◌++◌, length, map, refl, sym, ap, ◌∙◌, arith, zero, Some}
use Rattle.std.proofs.Common.{subst, append_assoc}
use Rattle.std.proofs.lemmas.Bool.{and_right}
use Rattle.std.proofs.lemmas.Bool.Decides.{nat_tests}
use Rattle.std.proofs.lemmas.List.{map-append, append-nil}
use Rattle.mm_digest.specs.Messages.{extended_digest_of}
use Rattle.mm_digest.specs.declared.variant.Variant.{Variant}
use Rattle.mm_digest.specs.declared.variant.Variant.TheVariants.{Basic, Opt}
use Rattle.mm_module.specs.Batch.{Batch, size_of}
use Rattle.mm_module.specs.Meaning.{Meaning}
use Rattle.mm_model.specs.BatchLaws.{is_same_batch-Decides, total-push}
use Rattle.mm_model.specs.Chains.{link, guard, register_of, anchor_of, summary_of, own_values, Instance}
use Rattle.mm_model.specs.FormLaws.{reads_zero}
use Rattle.mm_model.specs.History.{RegisterEntry, Own, Value, History, items_of_all, entries_with_last_batch, history_after_commit}
use Rattle.mm_model.specs.History.{values_of, cell_digest_of}
use Rattle.mm_model.specs.ListLaws.{summary-push, register-push, anchor-push}
use Rattle.mm_model.specs.SegmentLaws.{own_values-append, has_value-append, register_more, joined-push}
use Rattle.mm_model.specs.Standing.{is_empty, has_value, are_own, is_same_batch, digest_of}
use Rattle.mm_history.specs.declared.waymarks.SegmentStart.{SegmentStart}
use Rattle.mm_history.specs.declared.waymarks.Waymark.{Waymark}
use Rattle.mm_history.specs.declared.waymarks.Waymarks.{Waymarks}
use Rattle.mm_history.specs.Naming.{marks_of, with_value, emptied_marks, closed_digest, closed_marks, linked_marks, grown_marks}
use Rattle.mm_history.specs.Naming.{opened_marks, AreWaymarks, EndsWithCurrent, IsStage, IsWaymark}

pub own_more : (barrier : List ℕ) (batches : List Batch) (b : Batch)
    → register_of (own_values barrier (batches ++ b ∷ [])) ≡ extended_digest_of (register_of (own_values barrier batches)) (guard barrier b)
own_more barrier batches b =
    ap register_of (own_values-append barrier batches (b ∷ [])) ∙ register-push (own_values barrier batches) (guard barrier b)

-- entries and batches

pub and_true : (b : Bool) → (b && true) ≡ b
and_true true = refl
and_true false = refl

not_own_with : (items : List RegisterEntry) (v : List ℕ) (current : List Batch) → are_own (items ++ Value v ∷ []) current ≡ false
not_own_with [] v current = refl
not_own_with (Own b ∷ items) v [] = refl
not_own_with (Own b ∷ items) v (c ∷ current) =
    ap (λ x. is_same_batch b c && x) (not_own_with items v current) ∙ and_right (is_same_batch b c) false refl
not_own_with (Value d ∷ items) v current = refl

own_none : (current : List Batch) → are_own [] current ≡ is_empty current
own_none [] = refl
own_none (b ∷ current) = refl

own_of_none : (items : List RegisterEntry) → are_own items [] ≡ is_empty items
own_of_none [] = refl
own_of_none (Own b ∷ items) = refl
own_of_none (Value d ∷ items) = refl

own_no_more : (items : List RegisterEntry) (b : Batch) → are_own (items ++ Own b ∷ []) [] ≡ false
own_no_more [] b = refl
own_no_more (Own c ∷ items) b = refl
own_no_more (Value d ∷ items) b = refl

own_alone : (b : Batch) (c : Batch) (current : List Batch) → are_own (Own b ∷ []) (c ∷ (current ++ b ∷ [])) ≡ false
own_alone b c [] = and_right (is_same_batch b c) false refl
own_alone b c (d ∷ current) = and_right (is_same_batch b c) false refl

-- both grow by the same batch
own_grown : (items : List RegisterEntry) (current : List Batch) (b : Batch)
    → are_own (items ++ Own b ∷ []) (current ++ b ∷ []) ≡ are_own items current
own_grown [] [] b = and_true (is_same_batch b b) ∙ (is_same_batch-Decides b b).1 refl
own_grown [] (c ∷ current) b = own_alone b c current
own_grown (Own c ∷ []) [] b = and_right (is_same_batch c b) false refl
own_grown (Own c ∷ d ∷ items) [] b = ap (λ x. is_same_batch c b && x) (own_no_more (d ∷ items) b) ∙ and_right (is_same_batch c b) false refl
own_grown (Own c ∷ items) (d ∷ current) b = ap (λ x. is_same_batch c d && x) (own_grown items current b)
own_grown (Value d ∷ items) current b = refl

still_some : (y z : RegisterEntry) (items : List RegisterEntry) (b : Batch) → is_empty (entries_with_last_batch (y ∷ z ∷ items) b) ≡ false
still_some y z items b = refl

two_many : (n : ℕ) → nat_le (suc (suc n)) 1 ≡ false
two_many n = grind (arith, nat_tests)

-- the items of a batch that opens a segment are its own where it had at most one
own_opened : (items : List RegisterEntry) (b : Batch) → are_own (entries_with_last_batch items b) (b ∷ []) ≡ nat_le (length items) 1
own_opened [] b = and_true (is_same_batch b b) ∙ (is_same_batch-Decides b b).1 refl
own_opened (x ∷ []) b = and_true (is_same_batch b b) ∙ (is_same_batch-Decides b b).1 refl
own_opened (Own c ∷ y ∷ []) b = and_right (is_same_batch c b) false refl
own_opened (Own c ∷ y ∷ z ∷ items) b =
    ap (λ x. is_same_batch c b && x) (own_of_none (entries_with_last_batch (y ∷ z ∷ items) b) ∙ still_some y z items b)
    ∙ and_right (is_same_batch c b) false refl
    ∙ sym (two_many (suc (length items)))
own_opened (Value d ∷ y ∷ []) b = refl
own_opened (Value d ∷ y ∷ z ∷ items) b = sym (two_many (suc (length items)))

-- the cell's digest looks at the batches and the closed segments alone
pub cell_same : (i : Instance) (v : Variant) (y z : History) → y.batches ≡ z.batches → y.closed ≡ z.closed
    → cell_digest_of i v y ≡ cell_digest_of i v z
cell_same i Basic y z b c = ap (summary_of i.meaning.id) b
cell_same i Opt y z b c = ap (λ (s : List (List RegisterEntry)). anchor_of i.meaning.id (map (values_of i.barrier) s)) c

cell_shut : (i : Instance) (v : Variant) (y : History)
    → cell_digest_of i v (record y { closed = y.closed ++ y.items ∷ []; current = []; is_open = false })
    ≡ closed_digest v (record (marks_of i y) { cell = digest_of (cell_digest_of i v y) })
cell_shut i Basic y = refl
cell_shut i Opt y = ap (anchor_of i.meaning.id) (map-append (values_of i.barrier) y.closed (y.items ∷ []))
    ∙ anchor-push i.meaning.id (map (values_of i.barrier) y.closed) (values_of i.barrier y.items)

pub marks_value : (i : Instance) (y : History) (v : List ℕ)
    → marks_of i (record y { items = y.items ++ Value v ∷ [] }) ≡ with_value (marks_of i y) v
marks_value i y v = λ j. record (marks_of i y) {
  cell = digest_of (cell_same i i.variant (record y { items = y.items ++ Value v ∷ [] }) y refl refl j);
  register = digest_of (register_more i.barrier y.items (Value v) j);
  is_own = not_own_with y.items v y.current j;
}

pub marks_emptied : (i : Instance) (y : History) → marks_of i (record y { items = [] }) ≡ emptied_marks (marks_of i y) (is_empty y.current)
marks_emptied i y = λ j. record (marks_of i y) {
  cell = digest_of (cell_same i i.variant (record y { items = [] }) y refl refl j);
  register = digest_of (reads_zero j);
  is_own = own_none y.current j;
}

pub marks_shut : (i : Instance) (y : History) → marks_of i (record y { closed = y.closed ++ y.items ∷ []; current = []; is_open = false })
    ≡ closed_marks i.variant (marks_of i y) (has_value y.items) (is_empty y.items)
marks_shut i y = λ j. record (marks_of i y) {
  cell = digest_of (cell_shut i i.variant y j);
  own = digest_of (reads_zero j);
  is_own = own_of_none y.items j;
  is_marred = (ap has_value (joined-push y.closed y.items) ∙ has_value-append (items_of_all y.closed) y.items) j;
}

pub marks_linked : (i : Instance) (y : History) (b : Batch) → i.variant ≡ Basic
    → marks_of i (history_after_commit Basic y.is_open y b) ≡ linked_marks (marks_of i y) b
marks_linked i y b e = λ j. record (marks_of i y) {
  total = total-push y.batches b j;
  cell = digest_of ((ap (λ v. cell_digest_of i v (history_after_commit Basic y.is_open y b)) e ∙ summary-push i.meaning.id y.batches b
      ∙ ap (λ v. link (cell_digest_of i v y) b) (sym e)) j);
}

opt_cell : (i : Instance) (y z : History) → i.variant ≡ Opt → y.closed ≡ z.closed
    → cell_digest_of i i.variant y ≡ cell_digest_of i i.variant z
opt_cell i y z e c =
    ap (λ v. cell_digest_of i v y) e ∙ ap (λ (s : List (List RegisterEntry)). anchor_of i.meaning.id (map (values_of i.barrier) s)) c
    ∙ ap (λ v. cell_digest_of i v z) (sym e)

pub marks_grown : (i : Instance) (y : History) (b : Batch) → i.variant ≡ Opt
    → marks_of i (history_after_commit Opt true y b) ≡ grown_marks (marks_of i y) (size_of b) (guard i.barrier b)
marks_grown i y b e = λ j. record (marks_of i y) {
  total = total-push y.batches b j;
  cell = digest_of (opt_cell i (history_after_commit Opt true y b) y e refl j);
  own = digest_of (own_more i.barrier y.current b j);
  register = digest_of (register_more i.barrier y.items (Own b) j);
  is_own = own_grown y.items y.current b j;
}

pub marks_opened : (i : Instance) (y : History) (b : Batch) → i.variant ≡ Opt → marks_of i (history_after_commit Opt false y b)
    ≡ opened_marks (marks_of i y) (size_of b) (guard i.barrier b) (register_of (values_of i.barrier (entries_with_last_batch y.items b)))
    (nat_le (length y.items) 1)
marks_opened i y b e = λ j. record (marks_of i y) {
  total = total-push y.batches b j;
  cell = digest_of (opt_cell i (history_after_commit Opt false y b) y e refl j);
  own = digest_of ((register-push [] (guard i.barrier b) ∙ ap (λ r. extended_digest_of r (guard i.barrier b)) reads_zero) j);
  register = digest_of (register_of (values_of i.barrier (entries_with_last_batch y.items b)));
  is_own = own_opened y.items b j;
}

-- What is kept of positions stays of a history that goes on.

pub each_then : {A : Type 0} {P Q : A → Type 0} → ((x : A) → P x → Q x) → (xs : List A) → AllByRecursion P xs → AllByRecursion Q xs
each_then f [] h = tt
each_then f (x ∷ xs) h = (f x h.0, each_then f xs h.1)

pub each_found : {A : Type 0} (P : A → Type 0) (xs : List A) (n : ℕ) (x : A) → AllByRecursion P xs → slice_get xs n ≡ Some x → P x
each_found P [] n x h e = absurd (cc)
each_found P (z ∷ xs) zero x h e = subst P (let same : z ≡ x = cc in same) h.0
each_found P (z ∷ xs) (suc n) x h e = each_found P xs n x h.1 e

stage_on : {id : ℕ} {barrier : List ℕ} (closed more : List (List RegisterEntry)) (stage : SegmentStart) → IsStage id barrier closed stage
    → IsStage id barrier (closed ++ more) stage
stage_on closed more stage s = record {
  before = s.before;
  later = s.later ++ more;
  split = ap (λ (ss : List (List RegisterEntry)). ss ++ more) s.split ∙ append_assoc s.before s.later more;
  is = s.is;
}

module _ {variant : Variant} {meaning : Meaning} {barrier : List ℕ} where
  mark_on : (batches more : List Batch) (mark : Waymark) → IsWaymark variant meaning barrier batches mark
      → IsWaymark variant meaning barrier (batches ++ more) mark
  mark_on batches more mark m = record {
    front = m.front;
    rest = m.rest ++ more;
    split = ap (λ (bs : List Batch). bs ++ more) m.split ∙ append_assoc m.front m.rest more;
    count_is = m.count_is;
    position_is = m.position_is;
    digest_is = m.digest_is;
    state_is = m.state_is;
  }

  -- more batches and closed segments
  pub ways_on : {y z : History} {ways : Waymarks} (more : List Batch) (segments : List (List RegisterEntry)) → z.batches ≡ y.batches ++ more
      → z.closed ≡ y.closed ++ segments → (variant ≡ Opt → EndsWithCurrent z) → AreWaymarks variant meaning barrier y ways
      → AreWaymarks variant meaning barrier z ways
  ways_on {y} {z} {ways} more segments batches closed ends w = record {
    marks = subst (λ (bs : List Batch). AllByRecursion (IsWaymark variant meaning barrier bs) ways.marks.items) (sym batches)
        (each_then (mark_on y.batches more) ways.marks.items w.marks);
    stages = λ opt. subst (λ (ss : List (List RegisterEntry)). AllByRecursion (IsStage meaning.id barrier ss) ways.stages.items)
        (sym closed)
        (each_then (stage_on y.closed segments) ways.stages.items (w.stages opt));
    ends = ends;
  }

  -- the same batches and segments
  pub ways_still : {y z : History} {ways : Waymarks} → z.batches ≡ y.batches → z.closed ≡ y.closed → z.current ≡ y.current
      → AreWaymarks variant meaning barrier y ways → AreWaymarks variant meaning barrier z ways
  ways_still {y} {z} {ways} batches closed current w =
      ways_on [] [] (batches ∙ sym (append-nil y.batches)) (closed ∙ sym (append-nil y.closed)) (λ opt. record {
        done = (w.ends opt).done;
        is = batches ∙ (w.ends opt).is ∙ ap (λ (bs : List Batch). (w.ends opt).done ++ bs) (sym current);
      }) w

pub each_of_none : {A : Type 0} (P : A → Type 0) (xs : List A) → xs ≡ [] → AllByRecursion P xs
each_of_none P xs e = subst (AllByRecursion P) (sym e) tt

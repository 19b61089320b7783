-- One more of a list that is walked over. With it: messages that are listed one behind another.
use Rattle.std.specs.Prelude.{◌&&◌}
use Rattle.std.proofs.Common.{OnOk, Result, Ok, Err}
use Rattle.std.proofs.lemmas.Bool.{false_from_ne_true}
use Rattle.std.proofs.lemmas.List.{take_more}
use Rattle.mm_bytes.specs.declared.fault.Memory.{Memory}
use Rattle.mm_module.specs.Meaning.{state_from}
use Rattle.mm_model.specs.BatchLaws.{requests-push}
use Rattle.mm_model.specs.Chains.{anchor_of}
use Rattle.mm_model.specs.ListLaws.{anchor-push}
use Rattle.mm_history.proofs.Below.{◌≡◌, ◌≢◌, ℕ, zero, suc, ◌+◌, ◌<◌, Bool, true, false, ◌||◌, List, [], ◌∷◌, ◌++◌, length, map, take, drop}
use Rattle.mm_history.proofs.Below.{get_or, Some, refl, sym, ap, ◌∙◌, arith, Vec, not, nat_lt, bytes_eq, list_any, option_map, or_parts}
use Rattle.mm_history.proofs.Below.{or_from, Decides-ltb, append-nil, map-append, take-map, drop_more, length-map, Batch, members_of}
use Rattle.mm_history.proofs.Below.{Meaning, state_after, state_after-append, anchored_digest_of, register_of, own_values, RegisterEntry}
use Rattle.mm_history.proofs.Below.{requests_of, values_of, is_long, KeptBatch, KeptEntry, kept_batch, kept_batches, kept_entries}
use Rattle.mm_history.proofs.Below.{kept_segments, first_with, same_batches, anchor_at, is_behind, append_assoc}
use Rattle.mm_history.proofs.NameLaws.{same-Decides}

-- one more of a list, as contracts see it
pub taken : {K E : Type 0} (kept : K → E) (xs : List K) (i : ℕ) (x : K) → i < length xs → x ≡ get_or xs i x
    → map kept (take i xs) ++ kept x ∷ [] ≡ map kept (take (i + 1) xs)
taken kept xs i x l is = ap (λ y. map kept (take i xs) ++ kept y ∷ []) is
    ∙ sym (ap (map kept) (take_more xs i x l) ∙ map-append kept (take i xs) (get_or xs i x ∷ []))

-- what goes on by each of a list has gone on by one more
pub more_taken : {K E S : Type 0} (kept : K → E) (found : List E → S) (on : S → E → S)
    → ((es : List E) (e : E) → found (es ++ e ∷ []) ≡ on (found es) e) → (xs : List K) (i : ℕ) (x : K) {s next : S} → i < length xs
    → x ≡ get_or xs i x → s ≡ found (map kept (take i xs)) → next ≡ on s (kept x) → next ≡ found (map kept (take (i + 1) xs))
more_taken kept found on push xs i x l is so_far n = n ∙ ap (λ y. on y (kept x)) so_far
    ∙ sym (push (map kept (take i xs)) (kept x)) ∙ ap found (taken kept xs i x l is)

pub state_more : (meaning : Meaning) (batches : List Batch) (b : Batch) → state_after meaning (requests_of (batches ++ b ∷ []))
    ≡ state_from meaning (state_after meaning (requests_of batches)) (members_of b)
state_more meaning batches b =
    ap (state_after meaning) (requests-push batches b) ∙ state_after-append meaning (requests_of batches) (members_of b)

-- the first batches aren't long either, nor is each
pub short_front : (n : ℕ) (batches : List KeptBatch) → list_any is_long (kept_batches batches) ≡ false
    → list_any is_long (kept_batches (take n batches)) ≡ false
short_front zero batches short = refl
short_front (suc n) [] short = refl
short_front (suc n) (x ∷ batches) short =
    let p = or_parts (is_long (kept_batch x)) (list_any is_long (kept_batches batches)) short in
    or_from (is_long (kept_batch x)) (list_any is_long (kept_batches (take n batches))) p.0 (short_front n batches p.1)

pub short_at : (batches : List KeptBatch) (i : ℕ) (batch : KeptBatch) → i < length batches → batch ≡ get_or batches i batch
    → list_any is_long (kept_batches batches) ≡ false → is_long (kept_batch batch) ≡ false
short_at [] i batch l is short = absurd (omega (arith, l))
short_at (x ∷ batches) zero batch l is short = ap (λ (b : KeptBatch). is_long (kept_batch b)) is
    ∙ (or_parts (is_long (kept_batch x)) (list_any is_long (kept_batches batches)) short).0
short_at (x ∷ batches) (suc i) batch l is short =
    short_at batches i batch (omega (arith, l)) is (or_parts (is_long (kept_batch x)) (list_any is_long (kept_batches batches)) short).1

-- no batch is left to count
none_left : (batches : List Batch) → first_with 0 batches ≡ Some []
none_left [] = refl
none_left (b ∷ batches) = refl

pub first_stops : (batches : List KeptBatch) (i count left position : ℕ) → count ≡ i → left ≡ 0
    → option_map (λ (front : List Batch). kept_batches (take i batches) ++ front)
    (first_with left (kept_batches (drop i batches))) ≡ first_with position (kept_batches batches)
    → Some (take count (kept_batches batches)) ≡ first_with position (kept_batches batches)
first_stops batches i count left position same empty so_far = ap (λ (n : ℕ). Some (take n (kept_batches batches))) same
    ∙ ap (λ (bs : List Batch). Some bs) (take-map kept_batch i batches ∙ sym (append-nil (kept_batches (take i batches))))
    ∙ ap (option_map (λ (front : List Batch). kept_batches (take i batches) ++ front))
    (sym (ap (λ (n : ℕ). first_with n (kept_batches (drop i batches))) empty ∙ none_left (kept_batches (drop i batches)))) ∙ so_far

pub not_or : (s t : Bool) → not (s || t) ≡ (not s && not t)
not_or true t = refl
not_or false t = refl

pub behind_found : (barrier here : List ℕ) (start : ℕ) (named : List KeptBatch) (a e : List ℕ) {register : List ℕ} {r s : Bool}
    → start < length named → r ≡ bytes_eq a here → r ≡ true
    → register ≡ register_of (own_values barrier (drop start (kept_batches named))) → s ≡ bytes_eq e register
    → s ≡ is_behind barrier here start (kept_batches named) a e
behind_found barrier here start named a e lt is on reads ext =
    let less : nat_lt start (length (kept_batches named)) ≡ true = (Decides-ltb start (length (kept_batches named))).1
    (omega (arith, lt, length-map named kept_batch)) in
    ext ∙ ap (bytes_eq e) reads
    ∙ sym (ap (λ (b : Bool). b && (bytes_eq a here && bytes_eq e (register_of (own_values barrier (drop start (kept_batches named)))))) less
    ∙ ap (λ (b : Bool). b && bytes_eq e (register_of (own_values barrier (drop start (kept_batches named))))) (sym is ∙ on))

-- one more segment
pub segments_left : {A : Type 0} (closed : List (Vec KeptEntry A)) (k : ℕ) (segment : Vec KeptEntry A) → k < length closed
    → segment ≡ get_or closed k segment → kept_segments (drop k closed) ≡ kept_entries segment.items ∷ kept_segments (drop (k + 1) closed)
segments_left {A} closed k segment l is =
    let f : Vec KeptEntry A → List RegisterEntry = λ v. kept_entries v.items in
    ap (map f) (drop_more closed k segment l) ∙ ap (λ (v : Vec KeptEntry A). f v ∷ map f (drop (k + 1) closed)) (sym is)

pub anchor_more : (id : ℕ) (barrier : List ℕ) (before : List (List RegisterEntry)) (segment : List RegisterEntry)
    → anchor_at id barrier (before ++ segment ∷ []) ≡ anchored_digest_of (anchor_at id barrier before)
    (register_of (values_of barrier segment))
anchor_more id barrier before segment = ap (anchor_of id) (map-append (values_of barrier) before (segment ∷ []))
    ∙ anchor-push id (map (values_of barrier) before) (values_of barrier segment)

-- Messages that are listed one behind another.

-- those behind others, where the last call's result is handed on
pub listed_behind : (result : Result (Unit {0}) Memory) (old between new first more whole : List (List ℕ)) → between ≡ old ++ first
    → first ++ more ≡ whole → OnOk result (new ≡ between ++ more) → OnOk result (new ≡ old ++ whole)
listed_behind (Ok done) old between new first more whole before all is =
    is ∙ ap (λ (xs : List (List ℕ)). xs ++ more) before ∙ append_assoc old first more ∙ ap (λ (xs : List (List ℕ)). old ++ xs) all
listed_behind (Err fault) old between new first more whole before all is = tt

-- Opt: a place of a sound history as a path, some first closed segments and some batches after
-- them. With it: the messages of a history of Opt, by kind, and what its life tells of its four
-- tests.
use Rattle.std.proofs.Math.Seq.{take-append-add}
use Rattle.mm_model.proofs.Below.{ℕ, ◌≡◌, ◌+◌, ◌-◌, ◌≤◌, Bool, true, false, List, [], ◌∷◌, ◌++◌, length, map, take, drop, refl, sym, ap}
use Rattle.mm_model.proofs.Below.{◌∙◌, subst, ◌⊎◌, inl, inr, arith, append_assoc, length-append, append-nil, append_cancel_right}
use Rattle.mm_model.proofs.Below.{length-map, length-drop, drop-append-le, or_parts, AllByRecursion, zero_bytes, extended_message, Batch}
use Rattle.mm_model.proofs.Below.{guard, register_of, own_values, Instance, RegisterEntry, History, items_of_all, extension_value}
use Rattle.mm_model.proofs.Below.{values_of, is_empty, has_value, IsClosedPoint, IsPoint, at_anchor, in_closed, in_current, anchor_after}
use Rattle.mm_model.proofs.Below.{AreMessagesIn, register_trail, closed_runs, runs_of, IsSound, IsClean, IsMarred, batches_in, each_left}
use Rattle.mm_model.proofs.Below.{each_right, trail_front, same_halves, joined-append, joined-push, true_not_false, nil_from_length}
use Rattle.mm_model.proofs.Below.{PathReaches, reads_zero, own_values-append, has_value-append, batches_in-append, length-batches_in}
use Rattle.mm_model.proofs.Below.{values_of-clean, sooner, ◌&&◌, Contains, flat_map, Opt, start_message, guard_message, Live, Spoiled}
use Rattle.mm_model.proofs.Below.{life_by, is_lost_life, messages_of, HasListedMessages}

-- the batches begin with those of these segments, which hold no value that stands for none
pub record Begins (y : History) (before : List (List RegisterEntry)) : Type 0 where
  pub clean : has_value (items_of_all before) ≡ false
  pub tail : List Batch
  pub is : y.batches ≡ batches_in (items_of_all before) ++ tail

-- a list is empty or it isn't
pub empty_cases : {A : Type 0} (xs : List A) → (xs ≡ []) ⊎ (is_empty xs ≡ false)
empty_cases [] = inl refl
empty_cases (x ∷ xs) = inr refl

pub shut_current : (y : History) → IsSound y → y.is_open ≡ false → y.current ≡ []
shut_current y sound shut =
    elim (empty_cases y.current) [ inl none ↦ none | inr some ↦ absurd (true_not_false (sym (sound.open_is some) ∙ shut)) ]

module _ (y : History) where
  begins_by : (before between whole : List (List RegisterEntry)) (rest : List Batch) → whole ≡ before ++ between
      → has_value (items_of_all whole) ≡ false
      → y.batches ≡ batches_in (items_of_all whole) ++ rest → Begins y before
  begins_by before between whole rest split clean batches =
      let all : items_of_all whole ≡ items_of_all before ++ items_of_all between = ap items_of_all split ∙ joined-append before between in
      let tests = or_parts (has_value (items_of_all before)) (has_value (items_of_all between))
      (sym (has_value-append (items_of_all before) (items_of_all between)) ∙ ap has_value (sym all) ∙ clean) in
      record {
        clean = tests.0;
        tail = batches_in (items_of_all between) ++ rest;
        is = rw (batches, all, batches_in-append (items_of_all before) (items_of_all between))
            (append_assoc (batches_in (items_of_all before)) (batches_in (items_of_all between)) rest);
      }

  pub begins_clean : (before later : List (List RegisterEntry)) → IsClean y → y.closed ≡ before ++ later → Begins y before
  begins_clean before later h split = begins_by before later y.closed y.current split h.clean h.batches

  begins_marred : (before later : List (List RegisterEntry)) → IsMarred y → y.closed ≡ before ++ later → is_empty later ≡ false
      → Begins y before
  begins_marred before later h split some =
      let s = sooner before later h.before h.last (sym split ∙ h.split) some in
      begins_by before s.between h.before h.rest s.is h.clean h.batches

  -- a marred history's closed segments hold a value that stands for no batch
  pub marred_has : IsMarred y → has_value (items_of_all y.closed) ≡ true
  marred_has h =
      rw (h.split, joined-push h.before h.last, has_value-append (items_of_all h.before) h.last, h.clean) h.marred

  pub live_clean : IsSound y → has_value (items_of_all y.closed) ≡ false → IsClean y
  live_clean sound clean = elim sound.history [ inl h ↦ h | inr h ↦ absurd (true_not_false (sym (marred_has h) ∙ clean)) ]

  begins : (before later : List (List RegisterEntry)) → IsSound y → y.closed ≡ before ++ later → (has_value (items_of_all before) ≡ false)
      ⊎ (is_empty later ≡ false) → Begins y before
  begins before later sound split why = elim sound.history [
    | inl h ↦ begins_clean before later h split
    | inr h ↦ elim (empty_cases later) [
      | inr some ↦ begins_marred before later h split some
      | inl none ↦ absurd (elim why [
        | inl clean ↦
            true_not_false (sym (marred_has h) ∙ ap (λ (v : List (List RegisterEntry)). has_value (items_of_all v)) (split
            ∙ ap (λ v. before ++ v) none ∙ append-nil before) ∙ clean)
        | inr some ↦ true_not_false (ap is_empty (sym none) ∙ some)
      ])
    ]
  ]

  -- first batches as many as the entries of these segments are the segments' batches
  done_is : (before : List (List RegisterEntry)) (done more : List Batch) → Begins y before → y.batches ≡ done ++ more
      → length done ≡ length (items_of_all before) → done ≡ batches_in (items_of_all before)
  done_is before done more h e l =
      (same_halves done (batches_in (items_of_all before)) more h.tail (l ∙ sym (length-batches_in (items_of_all before) h.clean))
      (sym e ∙ h.is)).0

flat_is : (barrier : List ℕ) (y : History) (before : List (List RegisterEntry)) (done taken named : List Batch) → Begins y before
    → done ≡ batches_in (items_of_all before) → named ≡ done ++ taken → values_of barrier (items_of_all before)
    ++ own_values barrier taken ≡ own_values barrier named
flat_is barrier y before done taken named h d n =
    rw (values_of-clean barrier (items_of_all before) h.clean, n, own_values-append barrier done taken, d) refl

pub record Path (i : Instance) (y : History) (named : List Batch) (a e : List ℕ) (all : List (List ℕ)) : Type 0 where
  pub before : List (List RegisterEntry)
  pub later : List (List RegisterEntry)
  pub taken : List Batch
  pub split : y.closed ≡ before ++ later
  pub anchor_is : a ≡ anchor_after i before
  pub extension_is : e ≡ register_of (own_values i.barrier taken)
  pub flat : values_of i.barrier (items_of_all before) ++ own_values i.barrier taken ≡ own_values i.barrier named
  pub reaches : PathReaches y.is_open (map (values_of i.barrier) later) (length (own_values i.barrier taken))
  pub listed : AreMessagesIn (register_trail (own_values i.barrier taken)) all

-- the messages of the batches of each segment are listed
abbrev pub RunsListed : List ℕ → List (List ℕ) → List Batch → Type 0
RunsListed barrier all run = AreMessagesIn (register_trail (own_values barrier run)) all

pub listed_front : (barrier : List ℕ) (all : List (List ℕ)) (taken more : List Batch) → RunsListed barrier all (taken ++ more)
    → RunsListed barrier all taken
listed_front barrier all taken more w =
    trail_front extended_message zero_bytes (own_values barrier taken) (own_values barrier more) all
    (rw (own_values-append barrier taken more) at w)

reaches_none : (flag : Bool) (later : List (List (List ℕ))) → PathReaches flag later 0
reaches_none flag [] = tt
reaches_none flag (s ∷ ss) = inl (omega arith)

-- what a current segment tells: the history is clean
pub current_clean : (y : History) → IsSound y → is_empty y.current ≡ false → IsClean y
current_clean y sound some = elim sound.history [ inl h ↦ h | inr h ↦ absurd (true_not_false (sym (sound.open_is some) ∙ h.shut)) ]

pub begun_longer : (taken more : List Batch) → is_empty taken ≡ false → is_empty (taken ++ more) ≡ false
begun_longer [] more b = absurd (true_not_false b)
begun_longer (x ∷ xs) more b = refl

-- the batches of a closed segment, by the segments after it and the batches from its start on
abbrev run_at : List RegisterEntry → List (List RegisterEntry) → List Batch → List Batch
run_at segment [] more = more
run_at segment (next ∷ later) more = take (length segment) more

-- the batches of each segment, closed or open
pub runs_parts : (P : List Batch → Type 0) (y : History) → AllByRecursion P (runs_of y)
    → AllByRecursion P (closed_runs y.closed (take (length y.batches - length y.current) y.batches)) × P y.current
runs_parts P y runs =
    let closed = closed_runs y.closed (take (length y.batches - length y.current) y.batches) in
    (each_left P closed (y.current ∷ []) runs, (each_right P closed (y.current ∷ []) runs).0)

run_first : (P : List Batch → Type 0) (segment : List RegisterEntry) (later : List (List RegisterEntry)) (bs more : List Batch) → bs ≡ more
    → AllByRecursion P (closed_runs (segment ∷ later) bs) → P (run_at segment later more)
run_first P segment [] bs more e h = subst P e h.0
run_first P segment (next ∷ later) bs more e h = subst (λ (v : List Batch). P (take (length segment) v)) e h.0

-- the segments behind a first one
runs_behind : (P : List Batch → Type 0) (s : List RegisterEntry) (before : List (List RegisterEntry)) (segment : List RegisterEntry)
    (later : List (List RegisterEntry)) (bs : List Batch) → AllByRecursion P (closed_runs (s ∷ (before ++ segment ∷ later)) bs)
    → AllByRecursion P (closed_runs (before ++ segment ∷ later) (drop (length s) bs))
runs_behind P s [] segment later bs h = h.1
runs_behind P s (t ∷ before) segment later bs h = h.1

run_holds : (P : List Batch → Type 0) (before : List (List RegisterEntry)) (segment : List RegisterEntry)
    (later : List (List RegisterEntry))
    (bs done more : List Batch) → bs ≡ done ++ more → length done ≡ length (items_of_all before)
    → AllByRecursion P (closed_runs (before ++ segment ∷ later) bs) → P (run_at segment later more)
run_holds P [] segment later bs done more e l h =
    run_first P segment later bs more (e ∙ ap (λ (v : List Batch). v ++ more) (nil_from_length done l)) h
run_holds P (s ∷ before) segment later bs done more e l h =
    let whole = length-append s (items_of_all before) in let fits : length s ≤ length done = omega (arith, l, whole) in
    let dropped = length-drop (length s) done in
    let cut : drop (length s) bs ≡ drop (length s) done ++ more = ap (drop (length s)) e ∙ drop-append-le (length s) done more fits in
    run_holds P before segment later (drop (length s) bs) (drop (length s) done) more cut (omega (arith, l, whole, dropped))
    (runs_behind P s before segment later bs h)

-- taking at least the first part of a joined list takes it whole
takes_whole : (n : ℕ) (xs ys : List Batch) → length xs ≤ n → take n (xs ++ ys) ≡ xs ++ take (n - length xs) ys
takes_whole n xs ys l =
    let e : n ≡ length xs + (n - length xs) = omega (arith, l) in
    ap (λ (k : ℕ). take k (xs ++ ys)) e ∙ take-append-add xs ys (n - length xs)

run_listed : (barrier : List ℕ) (all : List (List ℕ)) (segment : List RegisterEntry) (later : List (List RegisterEntry))
    (taken more : List Batch)
    → (length taken ≤ length segment) ⊎ (later ≡ []) → RunsListed barrier all (run_at segment later (taken ++ more))
    → RunsListed barrier all taken
run_listed barrier all segment [] taken more fits w = listed_front barrier all taken more w
run_listed barrier all segment (next ∷ later) taken more fits w = elim fits [
  | inl within ↦
      listed_front barrier all taken (take (length segment - length taken) more)
      (subst (RunsListed barrier all) (takes_whole (length segment) taken more within) w)
  | inr none ↦ absurd (true_not_false (sym (ap is_empty none)))
]

module _ (y : History) where
  none_longer : (named rest : List Batch) → y.batches ≡ named ++ rest → y.current ≡ [] → length named ≤ length y.batches - length y.current
  none_longer named rest e none =
      let whole = ap length e in let parts = length-append named rest in
      let nothing : length y.current ≡ 0 = ap length none in
      omega (arith, whole, parts, nothing)

  -- how many batches there are, by the closed segments before one, that one and those behind it
  pub clean_size : IsClean y → (before : List (List RegisterEntry)) (segment : List RegisterEntry) (later : List (List RegisterEntry))
      → y.closed ≡ before ++ segment ∷ later → length y.batches ≡ length (items_of_all before)
      + (length segment + length (items_of_all later))
      + length y.current
  clean_size h before segment later split =
      let all = ap length h.batches in let cut = length-append (batches_in (items_of_all y.closed)) y.current in
      let count = length-batches_in (items_of_all y.closed) h.clean in let inner = length-append segment (items_of_all later) in
      let sizes = ap length (ap items_of_all split ∙ joined-append before (segment ∷ later)) in
      omega (arith, all, cut, count, inner, sizes, length-append (items_of_all before) (segment ++ items_of_all later))

module _ (i : Instance) (y : History) (named rest : List Batch) (a e : List ℕ) (sound : IsSound y) (first : y.batches ≡ named ++ rest) where
  -- a path into a closed segment ends before the open one
  ends_before_current : (p : IsClosedPoint i y named a e) → length named ≤ length y.batches - length y.current
  ends_before_current p = elim sound.history [
    | inr h ↦ none_longer y named rest first (shut_current y sound h.shut)
    | inl h ↦ elim p.within [
      | inr last ↦ none_longer y named rest first last.1
      | inl within ↦
          let size = clean_size y h p.before p.segment p.later p.split in let named_is = ap length p.named_is in
          omega (arith, size, p.counted, within, named_is, length-append p.done p.taken)
    ]
  ]

  reaches_closed : (p : IsClosedPoint i y named a e)
      → PathReaches y.is_open (map (values_of i.barrier) (p.segment ∷ p.later)) (length (own_values i.barrier p.taken))
  reaches_closed p = elim p.within [
    | inl within ↦
        let taken = length-map p.taken (guard i.barrier) in let segment = length-map p.segment (extension_value i.barrier) in
        inl (omega (arith, within, taken, segment))
    | inr last ↦ inr (ap (map (values_of i.barrier)) last.0, sound.shut_is (ap is_empty last.1))
  ]

  -- each place of a sound history is a path
  pub path_of : (all : List (List ℕ)) → AllByRecursion (RunsListed i.barrier all) (runs_of y) → IsPoint i y named a e
      → Path i y named a e all
  path_of all runs (at_anchor p) =
      let h = begins y p.before p.later sound p.split (inl p.clean) in
      record {
        before = p.before;
        later = p.later;
        taken = [];
        split = p.split;
        anchor_is = p.anchor_is;
        extension_is = p.extension_is ∙ sym reads_zero;
        flat = flat_is i.barrier y p.before named [] named h (done_is y p.before named rest h first p.counted) (sym (append-nil named));
        reaches = reaches_none y.is_open (map (values_of i.barrier) p.later);
        listed = tt;
      }
  path_of all runs (in_current p) =
      let clean = current_clean y sound (ap is_empty p.split ∙ begun_longer p.taken p.more p.begun) in
      let h = begins_clean y y.closed [] clean (sym (append-nil y.closed)) in
      let d = append_cancel_right p.done (batches_in (items_of_all y.closed)) y.current (sym p.start ∙ clean.batches) in
      record {
        before = y.closed;
        later = [];
        taken = p.taken;
        split = sym (append-nil y.closed);
        anchor_is = p.anchor_is;
        extension_is = p.extension_is;
        flat = flat_is i.barrier y y.closed p.done p.taken named h d p.named_is;
        reaches = tt;
        listed = listed_front i.barrier all p.taken p.more
            (rw p.split at (runs_parts (RunsListed i.barrier all) y runs).1);
      }
  path_of all runs (in_closed p) =
      let R = RunsListed i.barrier all in
      let h = begins y p.before (p.segment ∷ p.later) sound p.split (inr refl) in
      let first' : y.batches ≡ p.done ++ (p.taken ++ rest) =
      first ∙ ap (λ (v : List Batch). v ++ rest) p.named_is ∙ append_assoc p.done p.taken rest in
      let d = done_is y p.before p.done (p.taken ++ rest) h first' p.counted in
      let k = length y.batches - length y.current in
      let more = take (k - length named) rest in
      let bs : take k y.batches ≡ p.done ++ (p.taken ++ more) =
      ap (take k) first ∙ takes_whole k named rest (ends_before_current p)
      ∙ ap (λ (v : List Batch). v ++ more) p.named_is ∙ append_assoc p.done p.taken more in
      let run = run_holds R p.before p.segment p.later (take k y.batches) p.done (p.taken ++ more) bs p.counted
      (rw p.split at (runs_parts R y runs).0) in
      let fits : (length p.taken ≤ length p.segment) ⊎ (p.later ≡ []) = elim p.within [ inl within ↦ inl within | inr last ↦ inr last.0 ] in
      record {
        before = p.before;
        later = p.segment ∷ p.later;
        taken = p.taken;
        split = p.split;
        anchor_is = p.anchor_is;
        extension_is = p.extension_is;
        flat = flat_is i.barrier y p.before p.done p.taken named h d p.named_is;
        reaches = reaches_closed p;
        listed = run_listed i.barrier all p.segment p.later p.taken more fits run;
      }

-- The messages of a history of Opt, by kind, and what its life tells of its four tests.

each_flat : {A B : Type 0} (P : B → Type 0) (f : A → List B) (xs : List A) → AllByRecursion P (flat_map f xs)
    → AllByRecursion (λ x. AllByRecursion P (f x)) xs
each_flat P f [] h = tt
each_flat P f (x ∷ xs) h = (each_left P (f x) (flat_map f xs) h, each_flat P f xs (each_right P (f x) (flat_map f xs) h))

pub each_unmap : {A B : Type 0} (P : B → Type 0) (Q : A → Type 0) (f : A → B) → ((x : A) → Q x → P (f x)) → (xs : List A)
    → AllByRecursion Q xs → AllByRecursion P (map f xs)
each_unmap P Q f g [] h = tt
each_unmap P Q f g (x ∷ xs) h = (g x h.0, each_unmap P Q f g xs h.1)

-- the messages of a history of Opt, by kind
pub record HistoryListed (i : Instance) (y : History) (all : List (List ℕ)) : Type 0 where
  pub starts : Contains all (start_message Opt i.meaning.id)
  pub guards : AreMessagesIn (map (guard_message i.barrier) y.batches) all
  pub runs : AllByRecursion (RunsListed i.barrier all) (runs_of y)
  pub listed : HasListedMessages i.meaning.id all (map (values_of i.barrier) y.closed) (values_of i.barrier y.items)

pub history_listed : (i : Instance) (y : History) (all : List (List ℕ)) → AreMessagesIn (messages_of Opt i y) all → HistoryListed i y all
history_listed i y all h =
    let C = Contains all in
    let four = each_left C _ _ h.1 in let three = each_left C _ _ four in let two = each_left C _ _ three in
    record {
      starts = h.0;
      guards = each_left C _ _ two;
      runs = each_flat C (λ run. register_trail (own_values i.barrier run)) (runs_of y) (each_right C _ _ two);
      listed = record {
        inner = each_unmap (λ vs. AreMessagesIn (register_trail vs) all) (λ s. AreMessagesIn (register_trail (values_of i.barrier s)) all)
            (values_of i.barrier) (λ s h. h) y.closed
            (each_flat C (λ segment. register_trail (values_of i.barrier segment)) y.closed (each_right C _ _ three));
        outer = each_right C _ _ h.1;
        last = each_right C _ _ four;
      };
    }

-- what life tells of its four tests
pub record LiveParts (is_open is_bare is_own is_marred : Bool) : Type 0 where
  pub clean : is_marred ≡ false
  pub own : is_open ≡ true → is_own ≡ true
  pub held : is_open ≡ true → is_bare ≡ false

pub live_parts : (f p o m : Bool) → life_by f p o m ≡ Live → LiveParts f p o m
live_parts true false true false e = record { clean = refl; own = λ _. refl; held = λ _. refl }
live_parts false p o false e =
    record { clean = refl; own = λ t. absurd (true_not_false (sym t)); held = λ t. absurd (true_not_false (sym t)) }
live_parts _ _ _ _ e = absurd (cc)

pub spoiled_parts : (f p o m : Bool) → life_by f p o m ≡ Spoiled → (m ≡ true) ⊎ ((f ≡ true) × (p ≡ false) × (o ≡ false))
spoiled_parts true false true true e = inl refl
spoiled_parts true false false m e = inr (refl, refl, refl)
spoiled_parts false p o true e = inl refl
spoiled_parts _ _ _ _ e = absurd (cc)

pub lost_test : (f p o m : Bool) → (f && p) ≡ is_lost_life (life_by f p o m)
lost_test true false true false = refl
lost_test false p o false = refl
lost_test _ _ _ _ = refl

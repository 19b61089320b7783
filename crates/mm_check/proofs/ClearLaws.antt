-- The messages of a run are clear exactly where the numbers tell nothing of their digests, and no
-- value of others is a guard exactly where no event is told. With it: one premise alone is told of
-- a run.
use Rattle.std.specs.List.{All, IsDistinct}
use Rattle.std.specs.Option.{is_some}
use Rattle.std.proofs.lemmas.Bool.{both_ways, false_from_ne_true, or_right}
use Rattle.std.proofs.lemmas.List.Elements.{All-contains, All-from_recursion}
use Rattle.std.proofs.lemmas.Map.Keys.{IsDistinct-head, IsDistinct-push, IsDistinct-tail}
use Rattle.std.proofs.lemmas.Map.Views.{Contains-from_any}
use Rattle.mm_check.specs.declared.verdicts.Premise.TheVariants.{Held, Shared, Zero, Secured, Forged}
use Rattle.mm_check.proofs.Below.{◌≡◌, ◌∙◌, ℕ, ◌+◌, Bool, true, false, cond, List, [], ◌∷◌, ◌++◌, map, Option, None, Some, refl, sym, ap}
use Rattle.mm_check.proofs.Below.{arith, inl, inr, ◌⊎◌, ◌||◌, append_assoc, append-nil, fold, list_any, list_any-append, Contains}
use Rattle.mm_check.proofs.Below.{option_map, bytes_eq, Contains-append_left, Contains-append_right, Contains-append_cases, Contains-push}
use Rattle.mm_check.proofs.Below.{Contains-push_cases, nat_list_eq_equiv, bytes_eq-Decides, sha256, zero_bytes, start_message, guard}
use Rattle.mm_check.proofs.Below.{own_values, Instance, History, Move, Close, history_after, first_history, IsClear, AreNoGuards}
use Rattle.mm_check.proofs.Below.{move_messages, messages_of_moves, list_level, Event, event_outcome, first_snapshots, event_messages}
use Rattle.mm_check.proofs.Below.{moves_of, messages_from, event_foreign_values, foreign_values, asked_batches, run_messages, messages_if}
use Rattle.mm_check.proofs.Below.{messages_where, numbered_event_messages, number_of_first, messages_with, message_digests}
use Rattle.mm_check.proofs.Below.{shared_pair_with, shared_pair_in, is_zero, zero_number_in, numbered_messages_from, numbered_messages}
use Rattle.mm_check.proofs.Below.{is_secured, Variant, Basic, Opt, AreApart, secured_event_by, any_in, any_some, length, subst, RunOutcome}
use Rattle.mm_check.proofs.Below.{outcome_of_events, IsGenuineEvent, AreGenuine, IsGenuineRun, IsForgedAt, DecidesPremise, Premise}
use Rattle.mm_check.proofs.Below.{IsFirstForged, premise_by, IsClearRun}

or_swap : (a b r : Bool) → (a || (b || r)) ≡ (b || (a || r))
or_swap true b r = sym (or_right b true refl)
or_swap false b r = refl

none_in : (m : List ℕ) → Contains [] m → ⊥
none_in m h = let few = h.1 in absurd (omega arith)

pub first_in : {A : Type 0} (x : A) (xs : List A) → Contains (x ∷ xs) x
first_in x xs = Contains-append_left (x ∷ []) xs x (Contains-push [] x)

-- an element is the first or among the others
cons_cases : (x : List ℕ) (xs : List (List ℕ)) (m : List ℕ) → Contains (x ∷ xs) m → (x ≡ m) ⊎ Contains xs m
cons_cases x xs m h = elim (Contains-append_cases (x ∷ []) xs m h) [
  | inl a ↦ elim (Contains-push_cases [] x m a) [ inl none ↦ absurd (none_in m none) | inr same ↦ inl same ]
  | inr b ↦ inr b
]

pub any_map : {A B : Type 0} (p : B → Bool) (f : A → B) (xs : List A) → list_any p (map f xs) ≡ list_any (λ x. p (f x)) xs
any_map p f [] = refl
any_map p f (x ∷ xs) = ap (λ (b : Bool). p (f x) || b) (any_map p f xs)

-- there is a first that passes where the list passes

some_here : (here : Bool) (o : Option ℕ)
    → (let w : Option ℕ = cond here (Some 1) (option_map (λ n. n + 1) o) in is_some w ≡ (here || is_some o))
some_here true o = refl
some_here false None = refl
some_here false (Some n) = refl

where_any : {A : Type 0} (p : A → Bool) (xs : List A) → is_some (number_of_first p xs) ≡ list_any p xs
where_any p [] = refl
where_any p (x ∷ xs) = some_here (p x) (number_of_first p xs) ∙ ap (λ (b : Bool). p x || b) (where_any p xs)

none_from : (o : Option ℕ) → is_some o ≡ false → o ≡ None
none_from None e = refl
none_from (Some n) e = absurd (cc)

pub not_any : {A : Type 0} (p : A → Bool) (xs : List A) → number_of_first p xs ≡ None → list_any p xs ≡ false
not_any p xs e = sym (where_any p xs) ∙ ap is_some e

pub no_where : {A : Type 0} (p : A → Bool) (xs : List A) → (list_any p xs ≡ true → ⊥) → number_of_first p xs ≡ None
no_where p xs h = none_from (number_of_first p xs) (where_any p xs ∙ false_from_ne_true (list_any p xs) h)

-- a test that no digest passes

found_none : (p : List ℕ → Bool) (ms : List (List ℕ)) (m : List ℕ) → Contains ms m → p (sha256 m) ≡ true
    → number_of_first p (message_digests ms) ≡ None → ⊥
found_none p ms m h pass none = both_ways (list_any p (message_digests ms)) (not_any p (message_digests ms) none)
    (any_map p sha256 ms ∙ any_in (λ x. p (sha256 x)) ms m h pass)

none_found : (p : List ℕ → Bool) (ms : List (List ℕ)) → ((m : List ℕ) → Contains ms m → p (sha256 m) ≡ true → ⊥)
    → number_of_first p (message_digests ms) ≡ None
none_found p ms h = no_where p (message_digests ms)
    (λ e. let f = any_some (λ x. p (sha256 x)) ms (sym (any_map p sha256 ms) ∙ e) in h f.0 f.1 f.2)

-- no two numbers share a digest

pairs_none : (found : Option ℕ) (later : Option (ℕ × ℕ)) → shared_pair_with found later ≡ None → (found ≡ None) × (later ≡ None)
pairs_none (Some n) later h = absurd (cc)
pairs_none None None h = (refl, refl)
pairs_none None (Some pair) h = absurd (cc)

same_digest : (a b : List ℕ) → a ≡ b → bytes_eq a b ≡ true
same_digest a b e = (bytes_eq-Decides a b).1 e

pairs_apart : (ms : List (List ℕ)) → shared_pair_in (message_digests ms) ≡ None → (m n : List ℕ) → Contains ms m → Contains ms n
    → sha256 m ≡ sha256 n → m ≡ n
pairs_apart [] none m n hm hn e = absurd (none_in m hm)
pairs_apart (x ∷ ms) none m n hm hn e =
    let parts = pairs_none (number_of_first (bytes_eq (sha256 x)) (message_digests ms)) (shared_pair_in (message_digests ms)) none in
    elim (cons_cases x ms m hm) [
      | inl xm ↦ elim (cons_cases x ms n hn) [
        | inl xn ↦ sym xm ∙ xn
        | inr ln ↦ absurd (found_none (bytes_eq (sha256 x)) ms n ln (same_digest (sha256 x) (sha256 n) (ap sha256 xm ∙ e)) parts.0)
      ]
      | inr lm ↦ elim (cons_cases x ms n hn) [
        | inl xn ↦ absurd (found_none (bytes_eq (sha256 x)) ms m lm (same_digest (sha256 x) (sha256 m) (ap sha256 xn ∙ sym e)) parts.0)
        | inr ln ↦ pairs_apart ms parts.1 m n lm ln e
      ]
    ]

clear_from : (ms : List (List ℕ)) → shared_pair_in (message_digests ms) ≡ None → zero_number_in (message_digests ms) ≡ None → IsClear ms
clear_from ms none zero = record {
  apart = λ m n hm hn e. pairs_apart ms none m n hm hn e;
  nonzero = λ m h e. found_none is_zero ms m h ((bytes_eq-Decides (sha256 m) zero_bytes).1 e) zero;
}

clear_of_fewer : (xs ys : List (List ℕ)) → ((m : List ℕ) → Contains xs m → Contains ys m) → IsClear ys → IsClear xs
clear_of_fewer xs ys within clear = record {
  apart = λ m n hm hn e. clear.apart m n (within m hm) (within n hn) e;
  nonzero = λ m h e. clear.nonzero m (within m h) e;
}

-- no message is listed twice

listed_once : (seen : List (List ℕ)) (x : List ℕ) (has : Bool) → list_any (bytes_eq x) seen ≡ has → IsDistinct bytes_eq seen
    → IsDistinct bytes_eq (cond has seen (seen ++ x ∷ []))
listed_once seen x true e once = once
listed_once seen x false e once = IsDistinct-push nat_list_eq_equiv seen x once e

pub all_once : (ms seen : List (List ℕ)) → IsDistinct bytes_eq seen → IsDistinct bytes_eq (fold messages_with seen ms)
all_once [] seen once = once
all_once (x ∷ ms) seen once = all_once ms (messages_with seen x) (listed_once seen x (list_any (bytes_eq x) seen) refl once)

clear_none : (ms : List (List ℕ)) → IsDistinct bytes_eq ms → IsClear ms → shared_pair_in (message_digests ms) ≡ None
clear_none [] once clear = refl
clear_none (x ∷ ms) once clear =
    let Other : List ℕ → Type 0 = λ m. bytes_eq x m ≡ false in
    let apart : All Other ms = All-from_recursion Other ms (IsDistinct-head bytes_eq x ms once) in
    let none = none_found (bytes_eq (sha256 x)) ms (λ m h e. both_ways (bytes_eq x m) (All-contains Other ms m apart h)
    (same_digest x m (clear.apart x m (first_in x ms) (Contains-append_right (x ∷ []) ms m h)
    ((bytes_eq-Decides (sha256 x) (sha256 m)).0 e)))) in
    let later = clear_none ms (IsDistinct-tail bytes_eq x ms once)
    (clear_of_fewer ms (x ∷ ms) (λ m h. Contains-append_right (x ∷ []) ms m h) clear) in rw (none, later) refl

-- two lists of the same elements
abbrev Same : List (List ℕ) → List (List ℕ) → Type 0
Same xs ys = (m : List ℕ) → list_any (bytes_eq m) xs ≡ list_any (bytes_eq m) ys

pub same_in : (xs ys : List (List ℕ)) → Same xs ys → (m : List ℕ) → Contains xs m → Contains ys m
same_in xs ys same m h =
    Contains-from_any (λ a b. (bytes_eq-Decides a b).0) m ys (sym (same m) ∙ any_in (bytes_eq m) xs m h (same_digest m m refl))

same_append : (a b c d : List (List ℕ)) → Same a b → Same c d → Same (a ++ c) (b ++ d)
same_append a b c d f g m = list_any-append (bytes_eq m) a c ∙ (λ j. f m j || g m j) ∙ sym (list_any-append (bytes_eq m) b d)

-- each message is listed

listed_too : (s t : Bool) → (t ≡ true → s ≡ true) → s ≡ (s || (t || false))
listed_too true t h = refl
listed_too false true h = h refl
listed_too false false h = refl

listed_same : (seen : List (List ℕ)) (x : List ℕ) (has : Bool) → list_any (bytes_eq x) seen ≡ has
    → Same (cond has seen (seen ++ x ∷ [])) (seen ++ x ∷ [])
listed_same seen x false e m = refl
listed_same seen x true e m = listed_too (list_any (bytes_eq m) seen) (bytes_eq m x)
    (λ t. ap (λ (l : List ℕ). list_any (bytes_eq l) seen) ((bytes_eq-Decides m x).0 t) ∙ e)
    ∙ sym (list_any-append (bytes_eq m) seen (x ∷ []))

all_same : (ms seen : List (List ℕ)) → Same (fold messages_with seen ms) (seen ++ ms)
all_same [] seen m = ap (list_any (bytes_eq m)) (sym (append-nil seen))
all_same (x ∷ ms) seen m = all_same ms (messages_with seen x) m
    ∙ same_append (messages_with seen x) (seen ++ x ∷ []) ms ms (listed_same seen x (list_any (bytes_eq x) seen) refl) (λ n. refl) m
    ∙ ap (list_any (bytes_eq m)) (append_assoc seen (x ∷ []) ms)

-- the messages of moves are those that extend the register and those that close segments

move_same : (i : Instance) (y : History) (v : Move) (ext clo later : List (List ℕ)) → Same (ext ++ clo) later
    → Same (messages_if false i y v ++ ext ++ (messages_if true i y v ++ clo)) (move_messages i y v ++ later)
move_same i y Close ext clo later same m =
    let here = move_messages i y Close in
    let s : list_any (bytes_eq m) (ext ++ clo) ≡ list_any (bytes_eq m) later = same m in
    rw (
      list_any-append (bytes_eq m) ext (here ++ clo),
      list_any-append (bytes_eq m) here clo,
      list_any-append (bytes_eq m) here later,
      ← s,
      list_any-append (bytes_eq m) ext clo,
    )
    (or_swap (list_any (bytes_eq m) ext) (list_any (bytes_eq m) here) (list_any (bytes_eq m) clo))
move_same i y v ext clo later same m = ap (list_any (bytes_eq m)) (append_assoc (move_messages i y v) ext clo)
    ∙ same_append (move_messages i y v) (move_messages i y v) (ext ++ clo) later (λ n. refl) same m

moves_same : (i : Instance) (moves : List Move) (y : History)
    → Same (messages_where false i y moves ++ messages_where true i y moves) (messages_of_moves i y moves)
moves_same i [] y m = refl
moves_same i (v ∷ moves) y m =
    move_same i y v (messages_where false i (history_after i y v) moves) (messages_where true i (history_after i y v) moves)
    (messages_of_moves i (history_after i y v) moves) (moves_same i moves (history_after i y v)) m

events_same : (i : Instance) (events : List Event) (y : History) (issued : List (List ℕ))
    → Same (numbered_messages_from i y issued events) (messages_from i y issued events)
events_same i [] y issued m = refl
events_same i (event ∷ events) y issued m =
    let o = event_outcome i (list_level i) y issued event in
    let asks = event_messages i issued event in
    let moves = moves_of i y issued event in
    same_append (numbered_event_messages i y issued event) (asks ++ messages_of_moves i y moves)
    (numbered_messages_from i o.state o.issued events)
    (messages_from i o.state o.issued events)
    (same_append asks asks (messages_where false i y moves ++ messages_where true i y moves) (messages_of_moves i y moves) (λ n. refl)
    (moves_same i moves y)) (events_same i events o.state o.issued) m

pub run_same : (i : Instance) (events : List Event) → Same (numbered_messages i events) (run_messages i events)
run_same i events m =
    let start = start_message i.variant i.meaning.id in
    all_same (numbered_messages_from i first_history (first_snapshots i) events) (start ∷ []) m
    ∙ ap (λ (b : Bool). bytes_eq m start || b) (events_same i events first_history (first_snapshots i) m)

-- the run is clear where the numbers tell nothing else
pub clear_run : (i : Instance) (events : List Event) → shared_pair_in (message_digests (numbered_messages i events)) ≡ None
    → zero_number_in (message_digests (numbered_messages i events)) ≡ None → IsClear (run_messages i events)
clear_run i events none zero =
    clear_of_fewer (run_messages i events) (numbered_messages i events)
    (same_in (run_messages i events) (numbered_messages i events) (λ m. sym (run_same i events m)))
    (clear_from (numbered_messages i events) none zero)

-- and they tell nothing else where it is clear
module _ (i : Instance) (events : List Event) (clear : IsClear (run_messages i events)) where
  numbers_clear : IsClear (numbered_messages i events)
  numbers_clear = clear_of_fewer (numbered_messages i events) (run_messages i events)
      (same_in (numbered_messages i events) (run_messages i events) (run_same i events)) clear

  pub unshared : shared_pair_in (message_digests (numbered_messages i events)) ≡ None
  unfolding IsDistinct
  unshared =
      let start = start_message i.variant i.meaning.id in
      clear_none (numbered_messages i events) (all_once (numbered_messages_from i first_history (first_snapshots i) events) (start ∷ [])
      (tt, tt)) numbers_clear

  pub no_zero : zero_number_in (message_digests (numbered_messages i events)) ≡ None
  no_zero =
      none_found is_zero (numbered_messages i events) (λ m h e. numbers_clear.nonzero m h ((bytes_eq-Decides (sha256 m) zero_bytes).0 e))

-- the values that others bring, and the guards

foreign_any : (q : List ℕ → Bool) (es : List Event) → list_any q (foreign_values es)
    ≡ list_any (λ e. list_any q (event_foreign_values e)) es
foreign_any q [] = refl
foreign_any q (e ∷ es) = list_any-append q (event_foreign_values e) (foreign_values es)
    ∙ ap (λ (b : Bool). list_any q (event_foreign_values e) || b) (foreign_any q es)

module _ (barrier : List ℕ) (es : List Event) where
  abbrev guards : List (List ℕ)
  guards = own_values barrier (asked_batches es)

  no_guards : number_of_first (is_secured guards) es ≡ None → AreNoGuards barrier (foreign_values es) (asked_batches es)
  no_guards none d b hd hb same =
      let known = any_map (bytes_eq d) (guard barrier) (asked_batches es)
      ∙ any_in (λ c. bytes_eq d (guard barrier c)) (asked_batches es) b hb (same_digest d (guard barrier b) same) in
      both_ways (list_any (is_secured guards) es) (not_any (is_secured guards) es none)
      (sym (foreign_any (λ v. list_any (bytes_eq v) guards) es)
      ∙ any_in (λ v. list_any (bytes_eq v) guards) (foreign_values es) d hd known)

  none_secured : AreNoGuards barrier (foreign_values es) (asked_batches es) → number_of_first (is_secured guards) es ≡ None
  none_secured apart = no_where (is_secured guards) es (λ e.
      let f = any_some (λ v. list_any (bytes_eq v) guards) (foreign_values es) (foreign_any (λ v. list_any (bytes_eq v) guards) es ∙ e) in
      let g = any_some (λ c. bytes_eq f.0 (guard barrier c)) (asked_batches es)
      (sym (any_map (bytes_eq f.0) (guard barrier) (asked_batches es)) ∙ f.2) in
      apart f.0 g.0 f.1 g.1 ((bytes_eq-Decides f.0 (guard barrier g.0)).0 g.2))

-- in either variant
pub none_apart : (variant : Variant) (i : Instance) (es : List Event) → secured_event_by variant i.barrier es ≡ None → AreApart variant i es
none_apart Basic i es none = λ is. cc
none_apart Opt i es none = λ is. no_guards i.barrier es none

pub apart_none : (variant : Variant) (i : Instance) (es : List Event) → AreApart variant i es → secured_event_by variant i.barrier es ≡ None
apart_none Basic i es apart = refl
apart_none Opt i es apart = none_secured i.barrier es (apart refl)

-- One premise alone is told of a run.

-- the first event that isn't genuine

module _ (i : Instance) where
  -- behind these events this one isn't genuine
  abbrev IsForged : History → List (List ℕ) → List Event → Event → Type 0
  IsForged y issued before e =
      (let f : RunOutcome History = outcome_of_events i (list_level i) y issued before in IsGenuineEvent i f.state f.issued e) → ⊥

  not_genuine : (before : List Event) (e : Event) (after : List Event) (y : History) (issued : List (List ℕ))
      → AreGenuine i y issued (before ++ e ∷ after) → IsForged y issued before e → ⊥
  not_genuine [] e after y issued h forged = forged h.0
  not_genuine (x ∷ before) e after y issued h forged =
      let o = event_outcome i (list_level i) y issued x in not_genuine before e after o.state o.issued h.1 forged

  -- two such events behind genuine ones stand at one place
  one_place : (b c : List Event) (e x : Event) (a d : List Event) (y : History) (issued : List (List ℕ)) → b ++ e ∷ a ≡ c ++ x ∷ d
      → AreGenuine i y issued b → IsForged y issued b e → AreGenuine i y issued c → IsForged y issued c x → length b ≡ length c
  one_place [] [] e x a d y issued split g f h k = refl
  one_place [] (z ∷ c) e x a d y issued split g f h k =
      let same : z ≡ e = cc in absurd (f (subst (λ (v : Event). IsGenuineEvent i y issued v) same h.0))
  one_place (z ∷ b) [] e x a d y issued split g f h k =
      let same : z ≡ x = cc in absurd (k (subst (λ (v : Event). IsGenuineEvent i y issued v) same g.0))
  one_place (z ∷ b) (w ∷ c) e x a d y issued split g f h k =
      let same : w ≡ z = cc in
      let o = event_outcome i (list_level i) y issued z in
      let rest : b ++ e ∷ a ≡ c ++ x ∷ d = cc in
      let genuine = subst (λ (v : Event). AreGenuine i y issued (v ∷ c)) same h in
      let forged = subst (λ (v : Event). IsForged y issued (v ∷ c) x) same k in
      omega (arith, one_place b c e x a d o.state o.issued rest g.1 f genuine.1 forged)

  not_forged : (es : List Event) (n : ℕ) → IsGenuineRun i es → IsForgedAt i es n → ⊥
  not_forged es n genuine h = not_genuine h.before h.event h.after first_history (first_snapshots i)
      (subst (λ (l : List Event). AreGenuine i first_history (first_snapshots i) l) h.split genuine) h.forged

  first_same : (es : List Event) (f g : Option ℕ) → IsFirstForged i es f → IsFirstForged i es g → f ≡ g
  first_same es None None h k = refl
  first_same es None (Some n) h k = absurd (not_forged es n h k)
  first_same es (Some m) None h k = absurd (not_forged es m k h)
  first_same es (Some m) (Some n) h k = ap Some (omega (
    arith,
    h.place,
    k.place,
    one_place h.before k.before h.event k.event h.after k.after
        first_history (first_snapshots i) (sym h.split ∙ k.split) h.genuine h.forged k.genuine k.forged,
  ))

some_none : {A : Type 0} (o : Option A) (x : A) → o ≡ Some x → o ≡ None → ⊥
some_none o x s n = cc

same_premise : (pair : Option (ℕ × ℕ)) (nought secured f g : Option ℕ) → (pair ≡ None → nought ≡ None → secured ≡ None → f ≡ g)
    → premise_by pair nought secured f ≡ premise_by pair nought secured g
same_premise (Some pair) nought secured f g h = refl
same_premise None (Some message) secured f g h = refl
same_premise None None (Some event) f g h = refl
same_premise None None None f g h = ap (premise_by None None None) (h refl refl refl)

module _ (i : Instance) (es : List Event) where
  abbrev pair : Option (ℕ × ℕ)
  pair = shared_pair_in (message_digests (numbered_messages i es))

  abbrev nought : Option ℕ
  nought = zero_number_in (message_digests (numbered_messages i es))

  abbrev secured : Option ℕ
  secured = secured_event_by i.variant i.barrier es

  -- what is told follows from these facts
  record Facts (p : Premise) : Type 0 where
    forged : Option ℕ
    is : premise_by pair nought secured forged ≡ p
    first : pair ≡ None → nought ≡ None → secured ≡ None → IsFirstForged i es forged

  clear_facts : (forged : Option ℕ) → IsClearRun i es → IsFirstForged i es forged → Facts (premise_by None None None forged)
  clear_facts forged h first = record {
    forged = forged;
    is = λ j. premise_by (unshared i es h.clear j) (no_zero i es h.clear j) (apart_none i.variant i es h.apart j) forged;
    first = λ s z g. first;
  }

  facts_of : (p : Premise) → DecidesPremise i es p → Facts p
  facts_of (Shared first second) h = record {
    forged = None;
    is = λ j. premise_by (h j) nought secured None;
    first = λ s z g. absurd (some_none pair (first, second) h s);
  }
  facts_of (Zero message) h = record {
    forged = None;
    is = λ j. premise_by (h.0 j) (h.1 j) secured None;
    first = λ s z g. absurd (some_none nought message h.1 z);
  }
  facts_of (Secured event) h =
      let sec : secured ≡ Some event = ap (λ (v : Variant). secured_event_by v i.barrier es) h.1 ∙ h.2 in
      record {
        forged = None;
        is = λ j. premise_by (unshared i es h.0 j) (no_zero i es h.0 j) (sec j) None;
        first = λ s z g. absurd (some_none secured event sec g);
      }
  facts_of (Forged event) h = clear_facts (Some event) h.0 h.1
  facts_of Held h = clear_facts None h.0 h.1

  pub premise_fixed : (p q : Premise) → DecidesPremise i es p → DecidesPremise i es q → p ≡ q
  premise_fixed p q hp hq =
      let a = facts_of p hp in
      let b = facts_of q hq in
      sym a.is ∙ same_premise pair nought secured a.forged b.forged
      (λ s z g. first_same i es a.forged b.forged (a.first s z g) (b.first s z g)) ∙ b.is

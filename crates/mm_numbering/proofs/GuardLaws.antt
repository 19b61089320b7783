-- The values of the batches of a run, and those that others bring: what the loops have gathered of
-- them. With it: byte lists that stand in one text, once it is longer.
use Rattle.std.specs.Prelude.{slice_range, slice_get}
use Rattle.std.proofs.Common.{◌-◌, ◌≤◌, drop, subst}
use Rattle.std.proofs.lemmas.List.{length-append, length-drop, drop-append-le, take-append-le, drop_at, take_all}
use Rattle.std.proofs.lemmas.Option.{slice_get_read}
use Rattle.mm_model.specs.Chains.{guard}
use Rattle.mm_numbering.specs.declared.texts.Span.{Span}
use Rattle.mm_numbering.specs.TextList.{bytes_in, parts_at, AreWithin}
use Rattle.mm_numbering.proofs.Below.{◌≡◌, ℕ, zero, suc, ◌+◌, ◌<◌, Bool, true, false, cond, List, [], ◌∷◌, ◌++◌, length, map, take, get_or}
use Rattle.mm_numbering.proofs.Below.{Option, None, Some, refl, sym, ap, ◌∙◌, arith, append-nil, ◌||◌, BTreeSet, flat_map-append, contains}
use Rattle.mm_numbering.proofs.Below.{slice_cmp, list_any, option_map, nat_cmp, is_eq, bytes_eq, take_more, map-append, nat_list_eq_equiv}
use Rattle.mm_numbering.proofs.Below.{list_any-append, is_eq-slice_cmp, Meddle, CodeEvent, Event, event_of, own_values}
use Rattle.mm_numbering.proofs.Below.{event_foreign_values, Batch, batches_of, asked_batches, number_of_first, events_of, has_foreign_value}
use Rattle.mm_numbering.proofs.Below.{is_secured, HasAll}
use Rattle.mm_numbering.proofs.ListingLaws.{number_of_first-push}

-- a value among those that others bring
pub any_value : (p : List ℕ → Bool) (meddles : List Meddle)
    → list_any p (map (λ (m : Meddle). m.value.bytes) meddles) ≡ list_any (λ (m : Meddle). p m.value.bytes) meddles
any_value p [] = refl
any_value p (m ∷ meddles) = ap (λ (b : Bool). p m.value.bytes || b) (any_value p meddles)

or_is : (here rest : Bool) → cond here true rest ≡ (here || rest)
or_is true rest = refl
or_is false rest = refl

-- one digest more in a set
pub put_at : (digest d : List ℕ) (new old : Bool) → new ≡ cond (is_eq (slice_cmp nat_cmp digest d)) true old
    → new ≡ (bytes_eq d digest || old)
put_at digest d new old e =
    e ∙ ap (λ (b : Bool). cond b true old) (is_eq-slice_cmp digest d ∙ nat_list_eq_equiv.symm digest d) ∙ or_is (bytes_eq d digest) old

or_flip : (a b : Bool) → (a || b) ≡ (b || (a || false))
or_flip true true = refl
or_flip true false = refl
or_flip false true = refl
or_flip false false = refl

pub has_more : (known : List (List ℕ)) (old new : BTreeSet (List ℕ)) (g : List ℕ) (more : List (List ℕ)) → HasAll known old
    → ((d : List ℕ) → contains (slice_cmp nat_cmp) new d ≡ (bytes_eq d g || contains (slice_cmp nat_cmp) old d)) → g ∷ [] ≡ more
    → HasAll (known ++ more) new
has_more known old new g more h goes is d =
    goes d ∙ ap (λ (b : Bool). bytes_eq d g || b) (h d) ∙ or_flip (bytes_eq d g) (list_any (bytes_eq d) known)
    ∙ sym (list_any-append (bytes_eq d) known (g ∷ [])) ∙ ap (λ (l : List (List ℕ)). list_any (bytes_eq d) (known ++ l)) is

-- one event more

pub events_more : (es : List CodeEvent) (i : ℕ) (e : CodeEvent) → i < length es → e ≡ get_or es i e
    → events_of (take i es) ++ event_of e ∷ [] ≡ events_of (take (i + 1) es)
events_more es i e h is = ap (λ (x : CodeEvent). events_of (take i es) ++ event_of x ∷ []) is
    ∙ sym (ap events_of (take_more es i e h) ∙ map-append event_of (take i es) (get_or es i e ∷ []))

pub guards_more : (barrier : List ℕ) (before : List Event) (e : Event)
    → own_values barrier (asked_batches before) ++ own_values barrier (batches_of e) ≡ own_values barrier (asked_batches (before ++ e ∷ []))
guards_more barrier before e =
    sym (ap (own_values barrier) (flat_map-append batches_of before (e ∷ [])
    ∙ ap (λ (l : List Batch). asked_batches before ++ l) (append-nil (batches_of e)))
    ∙ map-append (guard barrier) (asked_batches before) (batches_of e))

-- the first event that passes

none_before : (o : Option ℕ) → option_map (λ n. n + 1) o ≡ None → o ≡ None
none_before None h = refl
none_before (Some n) h = absurd (cc)

first_none : (here : Bool) (o : Option ℕ) → (let w : Option ℕ = cond here (Some 1) (option_map (λ n. n + 1) o) in w ≡ None)
    → (here ≡ false) × (o ≡ None)
first_none true o h = absurd (cc)
first_none false o h = (refl, none_before o h)

pub first_at : (p : Event → Bool) (es : List CodeEvent) (i : ℕ) (e : CodeEvent) → i < length es → e ≡ get_or es i e
    → number_of_first p (events_of (take i es)) ≡ None → p (event_of e) ≡ true → Some (i + 1) ≡ number_of_first p (events_of es)
first_at p [] i e h is none here = absurd (omega arith)
first_at p (x ∷ es) zero e h is none here = rw (sym (ap (λ (y : CodeEvent). p (event_of y)) is) ∙ here) refl
first_at p (x ∷ es) (suc i) e h is none here =
    let parts = first_none (p (event_of x)) (number_of_first p (events_of (take i es))) none in
    rw (parts.0, ← first_at p es i e (omega arith) is parts.1 here) (ap Some (omega arith))

pub none_more : (p : Event → Bool) (before : List Event) (e : Event) → number_of_first p before ≡ None → p e ≡ false
    → number_of_first p (before ++ e ∷ []) ≡ None
none_more p before e none here = number_of_first-push p before e ∙ rw (none, here) refl

-- a set that has these digests finds them
pub secured_same : (known : List (List ℕ)) (set : BTreeSet (List ℕ)) (values : List (List ℕ)) → HasAll known set
    → list_any (contains (slice_cmp nat_cmp) set) values ≡ list_any (λ v. list_any (bytes_eq v) known) values
secured_same known set [] h = refl
secured_same known set (v ∷ values) h =
    ap (λ (b : Bool). b || list_any (contains (slice_cmp nat_cmp) set) values) (h v)
    ∙ ap (λ (b : Bool). list_any (bytes_eq v) known || b) (secured_same known set values h)

-- where others bring nothing, they bring no guard

none_of : (p : List ℕ → Bool) (values : List (List ℕ)) → list_any (λ (v : List ℕ). true) values ≡ false → list_any p values ≡ false
none_of p [] h = refl
none_of p (v ∷ values) h = absurd (cc)

or_neither : (a b : Bool) → (a || b) ≡ false → (a ≡ false) × (b ≡ false)
or_neither true b h = absurd (cc)
or_neither false b h = (refl, h)

pub none_bring : (known : List (List ℕ)) (es : List CodeEvent)
    → list_any (λ (event : CodeEvent). has_foreign_value (event_of event)) es ≡ false
    → number_of_first (is_secured known) (events_of es) ≡ None
none_bring known [] h = refl
none_bring known (e ∷ es) h =
    let parts = or_neither (has_foreign_value (event_of e)) (list_any (λ (event : CodeEvent). has_foreign_value (event_of event)) es) h in
    rw (none_of (λ v. list_any (bytes_eq v) known) (event_foreign_values (event_of e)) parts.0, none_bring known es parts.1) refl

-- Byte lists that stand in one text, once it is longer.

pub within-more : (n m : ℕ) (spans : List Span) → n ≤ m → AreWithin n spans → AreWithin m spans
within-more n m [] le h = tt
within-more n m (s ∷ ss) le h = (h.0, omega (arith, h.1, le), within-more n m ss le h.2)

pub within-push : (n : ℕ) (spans : List Span) (s : Span) → AreWithin n spans → s.start ≤ s.end → s.end ≤ n → AreWithin n (spans ++ s ∷ [])
within-push n [] s h rises ends = (rises, ends, tt)
within-push n (x ∷ xs) s h rises ends = (h.0, h.1, within-push n xs s h.2 rises ends)

-- a part of a text is a part of a longer one
same_part : (text more : List ℕ) (a b : ℕ) → a ≤ b → b ≤ length text → slice_range (text ++ more) a b ≡ slice_range text a b
same_part text more a b rises ends =
    ap (take (b - a)) (drop-append-le a text more (omega (arith, rises, ends)))
    ∙ take-append-le (b - a) (drop a text) more (omega (arith, length-drop a text, rises, ends))

pub same_parts : (text more : List ℕ) (spans : List Span) → AreWithin (length text) spans
    → parts_at (text ++ more) spans ≡ parts_at text spans
same_parts text more [] h = refl
same_parts text more (s ∷ ss) h = λ j. same_part text more s.start s.end h.0 h.1 j ∷ same_parts text more ss h.2 j

-- what was put behind a text
last_part : (text more : List ℕ) → slice_range (text ++ more) (length text) (length (text ++ more)) ≡ more
last_part text more =
    ap (take (length (text ++ more) - length text)) (drop_at text more (length text) refl)
    ∙ take_all (length (text ++ more) - length text) more (omega (arith, length-append text more))

pub parts-pushed : (text line : List ℕ) (spans : List Span) (s : Span) → AreWithin (length text) spans → s.start ≡ length text
    → s.end ≡ length (text ++ line) → parts_at (text ++ line) (spans ++ s ∷ []) ≡ parts_at text spans ++ line ∷ []
parts-pushed text line spans s h start end =
    map-append (bytes_in (text ++ line)) spans (s ∷ [])
    ∙ (λ j. same_parts text line spans h j ++ slice_range (text ++ line) (start j) (end j) ∷ [])
    ∙ ap (λ (l : List ℕ). parts_at text spans ++ l ∷ []) (last_part text line)

pub slice_get-map : {A B : Type 0} (f : A → B) (xs : List A) (i : ℕ) → slice_get (map f xs) i ≡ option_map f (slice_get xs i)
slice_get-map f [] i = refl
slice_get-map f (x ∷ xs) zero = refl
slice_get-map f (x ∷ xs) (suc i) = slice_get-map f xs i

some_same : (x y : Span) → Some x ≡ Some y → x ≡ y
some_same x y is = cc

pub within_at : (n : ℕ) (spans : List Span) (i : ℕ) (s : Span) → AreWithin n spans → slice_get spans i ≡ Some s
    → (s.start ≤ s.end) × (s.end ≤ n)
within_at n [] i s h is = absurd (cc)
within_at n (x ∷ xs) zero s h is = subst (λ (z : Span). (z.start ≤ z.end) × (z.end ≤ n)) (some_same x s is) (h.0, h.1)
within_at n (x ∷ xs) (suc i) s h is = within_at n xs i s h.2 is

pub found_at : (spans lent : List Span) (i : ℕ) (s : Span) → lent ≡ spans → i < length lent → s ≡ get_or lent i s
    → slice_get spans i ≡ Some s
found_at spans lent i s same within is =
    ap (λ (l : List Span). slice_get l i) (sym same) ∙ slice_get_read lent (length lent) i s refl within is

-- a text with a line more, and with its span
module _ (text line new : List ℕ) (spans news : List Span) (h : AreWithin (length text) spans) (longer : new ≡ text ++ line) where
  pub within-longer : news ≡ spans → AreWithin (length new) news
  within-longer same =
      rw (longer, same) (within-more (length text) (length (text ++ line)) spans (omega (arith, length-append text line)) h)

  module _ (a b : ℕ) (start : a ≡ length text) (end : b ≡ length new) (more : news ≡ spans ++ record { start = a; end = b } ∷ []) where
    pub within-pushed : AreWithin (length new) news
    within-pushed =
        rw more (within-push (length new) spans (record { start = a; end = b })
        (within-more (length text) (length new) spans (omega (arith, ap length longer, length-append text line)) h)
        (omega (arith, start, end, ap length longer, length-append text line)) (omega (arith, end)))

    pub parts-with : parts_at new news ≡ parts_at text spans ++ line ∷ []
    parts-with =
        (λ j. parts_at (longer j) (more j))
        ∙ parts-pushed text line spans (record { start = a; end = b }) h start (end ∙ ap length longer)

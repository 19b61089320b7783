-- Lists of segments, one after another: when two ways to cut one list are the same. With it:
-- histories as lists.
use Rattle.std.specs.List.{AllByRecursion, Contains}
use Rattle.std.proofs.Common.{◌≡◌, ◌+◌, ◌≤◌, ◌++◌, length, refl, sym, ap, ◌∙◌, ◌⊎◌, inl, inr, arith, append_assoc, length-append, ℕ, Bool}
use Rattle.std.proofs.Common.{true, false, List, [], ◌∷◌, ◌||◌, map}
use Rattle.std.proofs.lemmas.Bool.{and_parts}
use Rattle.std.proofs.lemmas.Bool.Decides.{leb_tells}
use Rattle.std.proofs.lemmas.List.{append-nil, append_cancel_left, map-append, same_from_push}
use Rattle.std.proofs.lemmas.List.Elements.{Contains-append_right}
use Rattle.mm_model.specs.BatchLaws.{is_same_batch-Decides}
use Rattle.mm_model.specs.Below.{extended_digest_of, Batch}
use Rattle.mm_model.specs.Chains.{guard, register_of, own_values}
use Rattle.mm_model.specs.History.{items_of_all, RegisterEntry, Own, Value, extension_value, entries_with_last_batch, values_of}
use Rattle.mm_model.specs.ListLaws.{ends, register-push}
use Rattle.mm_model.specs.Messages.{values_in}
use Rattle.mm_model.specs.Standing.{is_empty, has_value, are_own, is_same_batch, batches_in}

pub true_not_false : true ≡ false → ⊥
true_not_false e = cc

-- two joined lists with first parts of one length have the same parts
pub same_halves : {A : Type 0} (s t x y : List A) → length s ≡ length t → s ++ x ≡ t ++ y → (s ≡ t) × (x ≡ y)
same_halves [] [] x y l e = (refl, e)
same_halves [] (b ∷ t) x y l e = absurd (omega (arith, l))
same_halves (a ∷ s) [] x y l e = absurd (omega (arith, l))
same_halves (a ∷ s) (b ∷ t) x y l e =
    let heads : a ≡ b = cc in
    let tails : s ++ x ≡ t ++ y = cc in
    let shorter : length s ≡ length t = omega (arith, l) in
    let both = same_halves s t x y shorter tails in
    (let p : s ≡ t = both.0 in cc, both.1)

pub joined-append : {A : Type 0} (xs ys : List (List A)) → items_of_all (xs ++ ys) ≡ items_of_all xs ++ items_of_all ys
joined-append [] ys = refl
joined-append (x ∷ xs) ys = ap (λ v. x ++ v) (joined-append xs ys) ∙ sym (append_assoc x (items_of_all xs) (items_of_all ys))

pub joined-push : {A : Type 0} (xs : List (List A)) (x : List A) → items_of_all (xs ++ x ∷ []) ≡ items_of_all xs ++ x
joined-push xs x = joined-append xs (x ∷ []) ∙ ap (λ v. items_of_all xs ++ v) (append-nil x)

pub not_empty : {A : Type 0} (xs : List A) → is_empty xs ≡ false → 1 ≤ length xs
not_empty [] e = absurd (cc)
not_empty (x ∷ xs) e = omega arith

-- segments that are not empty hold nothing only where there is none
pub no_segments : {A : Type 0} (xs : List (List A)) → AllByRecursion (λ x. is_empty x ≡ false) xs → length (items_of_all xs) ≡ 0 → xs ≡ []
no_segments [] filled e = refl
no_segments (x ∷ xs) filled e = absurd (let l = not_empty x filled.0 in let m = length-append x (items_of_all xs) in omega (arith, l, m, e))

-- what a platform has taken in after its closed segments: the register's items while a segment is open
abbrev pub items_taken_in : {A : Type 0} → Bool → List A → List A
items_taken_in true items = items
items_taken_in false items = []

-- a path to where the platform stands: after all closed segments, and all that was taken in
abbrev pub IsFreshPath : {A : Type 0} → Bool → List (List A) → List A → List (List A) → List A → Type 0
IsFreshPath flag closed items before rest = (before ≡ closed) × (rest ≡ items_taken_in flag items)

-- a path that one more value leads to where the platform stands
abbrev pub IsAgainPath : {A : Type 0} → Bool → List (List A) → List A → A → List (List A) → List A → Type 0
IsAgainPath true closed items v before rest = (before ≡ closed) × (rest ++ v ∷ [] ≡ items)
IsAgainPath false closed items v before rest = before ++ (rest ++ v ∷ []) ∷ [] ≡ closed

-- the path, or the path once its segment is closed
abbrev pub IsFreshSomehow : {A : Type 0} → Bool → List (List A) → List A → List (List A) → List A → Type 0
IsFreshSomehow flag closed items before rest =
    IsFreshPath flag closed items before rest ⊎ (is_empty rest ≡ false) × IsFreshPath flag closed items (before ++ rest ∷ []) []

abbrev pub IsAgainSomehow : {A : Type 0} → Bool → List (List A) → List A → A → List (List A) → List A → Type 0
IsAgainSomehow flag closed items v before rest =
    IsAgainPath flag closed items v before rest ⊎ (is_empty rest ≡ false) × IsAgainPath flag closed items v (before ++ rest ∷ []) []

closed_joins : {A : Type 0} (before : List (List A)) (rest : List A) → items_of_all before ++ rest ≡ items_of_all (before ++ rest ∷ [])
    ++ []
closed_joins before rest = sym (append-nil (items_of_all (before ++ rest ∷ [])) ∙ joined-push before rest)

again_here : {A : Type 0} (flag : Bool) (closed : List (List A)) (items : List A) (v : A) (before : List (List A)) (rest : List A)
    → IsAgainPath flag closed items v before rest → (items_of_all before ++ rest) ++ v ∷ [] ≡ items_of_all closed
    ++ items_taken_in flag items
again_here true closed items v before rest f =
    append_assoc (items_of_all before) rest (v ∷ []) ∙ ap (λ w. items_of_all w ++ (rest ++ v ∷ [])) f.0
    ∙ ap (λ w. items_of_all closed ++ w) f.1
again_here false closed items v before rest f =
    append_assoc (items_of_all before) rest (v ∷ []) ∙ closed_joins before (rest ++ v ∷ []) ∙ ap (λ w. items_of_all w ++ []) f

-- all that such a path leads through is all that counts
module _ {A : Type 0} (flag : Bool) (closed : List (List A)) (items : List A) where
  pub fresh_joins : (before : List (List A)) (rest : List A) → IsFreshSomehow flag closed items before rest
      → items_of_all before ++ rest ≡ items_of_all closed ++ items_taken_in flag items
  fresh_joins before rest (inl f) = ap (λ v. items_of_all v ++ rest) f.0 ∙ ap (λ v. items_of_all closed ++ v) f.1
  fresh_joins before rest (inr g) = closed_joins before rest ∙ ap (λ v. items_of_all v ++ []) g.1.0
      ∙ ap (λ v. items_of_all closed ++ v) g.1.1

  pub again_joins : (v : A) (before : List (List A)) (rest : List A) → IsAgainSomehow flag closed items v before rest
      → (items_of_all before ++ rest) ++ v ∷ [] ≡ items_of_all closed ++ items_taken_in flag items
  again_joins v before rest (inl f) = again_here flag closed items v before rest f
  again_joins v before rest (inr g) =
      ap (λ w. w ++ v ∷ []) (closed_joins before rest) ∙ again_here flag closed items v (before ++ rest ∷ []) [] g.1

-- how far a path goes into the segments after it: within the next one, or to its end where it is the last and
-- nothing is open
abbrev pub PathReaches : {A : Type 0} → Bool → List (List A) → ℕ → Type 0
PathReaches flag [] n = Unit {0}
PathReaches flag (segment ∷ later) n = (n ≤ length segment) ⊎ ((later ≡ []) × (flag ≡ false))

abbrev pub IsHeld : {A : Type 0} → Bool → List A → Type 0
IsHeld true items = is_empty items ≡ false
IsHeld false items = Unit {0}

-- a path that reaches the end of the next segment and all after it: then that segment is the last
only_one : {A : Type 0} (segment : List A) (later : List (List A)) (n : ℕ) → AllByRecursion (λ x. is_empty x ≡ false) later
    → (n ≤ length segment) ⊎ ((later ≡ []) × (false ≡ false)) → n ≡ length segment + length (items_of_all later) → later ≡ []
only_one segment later n filled reach e =
    elim reach [ inl within ↦ no_segments later filled (omega (arith, within, e)) | inr last ↦ last.0 ]

-- Where the values up to the end of the path are all that counts, it is fresh, or it is once its segment is closed.
-- By the segments after the path.
fresh_after : {A : Type 0} (flag : Bool) (before : List (List A)) (items rest : List A) (later : List (List A))
    → AllByRecursion (λ x. is_empty x ≡ false) later → IsHeld flag items → PathReaches flag later (length rest)
    → rest ≡ items_of_all later ++ items_taken_in flag items → IsFreshSomehow flag (before ++ later) items before rest
fresh_after flag before items rest [] filled held reach e = inl (sym (append-nil before), e)
fresh_after true before items rest (segment ∷ later) filled held reach e = absurd (
    let l = ap length e in
    let m = length-append (segment ++ items_of_all later) items in
    let k = length-append segment (items_of_all later) in
    let h = not_empty items held in
    elim reach [ inl within ↦ omega (arith, l, m, k, h, within) | inr last ↦ absurd (true_not_false last.1) ])
fresh_after false before items rest (segment ∷ later) filled held reach e =
    let whole : rest ≡ segment ++ items_of_all later = e ∙ append-nil (segment ++ items_of_all later) in
    let none = only_one segment later (length rest) filled.1 reach (ap length whole ∙ length-append segment (items_of_all later)) in
    let same : rest ≡ segment = whole ∙ ap (λ v. segment ++ items_of_all v) none ∙ append-nil segment in
    inr (ap is_empty same ∙ filled.0, (rw (same, none) refl, refl))

-- a path that is fresh with one more value
again_by : {A : Type 0} (flag : Bool) (closed : List (List A)) (items : List A) (v : A) (before : List (List A)) (rest : List A)
    → IsHeld flag items → IsFreshSomehow flag closed items before (rest ++ v ∷ []) → IsAgainPath flag closed items v before rest
again_by true closed items v before rest held (inl f) = f
again_by true closed items v before rest held (inr g) = absurd (true_not_false (ap is_empty g.1.1 ∙ held))
again_by false closed items v before rest held (inl f) =
    absurd (let l = ap length f.1 in let m = length-append rest (v ∷ []) in omega (arith, l, m))
again_by false closed items v before rest held (inr g) = g.1.0

reaches_one : {A : Type 0} (flag : Bool) (later : List (List A)) → AllByRecursion (λ x. is_empty x ≡ false) later → PathReaches flag later 1
reaches_one flag [] filled = tt
reaches_one flag (next ∷ later) filled = inl (not_empty next filled.0)

again_within : {A : Type 0} (flag : Bool) (before : List (List A)) (items : List A) (v : A) (rest : List A) (later : List (List A))
    → AllByRecursion (λ x. is_empty x ≡ false) later → IsHeld flag items → PathReaches flag later (length (rest ++ v ∷ []))
    → rest ++ v ∷ [] ≡ items_of_all later ++ items_taken_in flag items → IsAgainPath flag (before ++ later) items v before rest
again_within flag before items v rest later filled held reach e =
    again_by flag (before ++ later) items v before rest held (fresh_after flag before items (rest ++ v ∷ []) later filled held reach e)

-- Where one more value makes the values up to the end of the path all that counts, it leads there from the path, or
-- from the path once its segment is closed.
again_after : {A : Type 0} (flag : Bool) (before : List (List A)) (items : List A) (v : A) (rest : List A) (later : List (List A))
    → AllByRecursion (λ x. is_empty x ≡ false) later → IsHeld flag items → PathReaches flag later (length rest)
    → rest ++ v ∷ [] ≡ items_of_all later ++ items_taken_in flag items → IsAgainSomehow flag (before ++ later) items v before rest
again_after flag before items v rest [] filled held reach e = inl (again_within flag before items v rest [] filled held tt e)
again_after flag before items v rest (segment ∷ later) filled held (inr last) e =
    inl (again_within flag before items v rest (segment ∷ later) filled held (inr last) e)
again_after {A} flag before items v rest (segment ∷ later) filled held (inl within) e =
    let more : length (rest ++ v ∷ []) ≡ length rest + 1 = length-append rest (v ∷ []) in
    elim (leb_tells (length (rest ++ v ∷ [])) (length segment)) [
      | inl fits ↦ inl (again_within flag before items v rest (segment ∷ later) filled held (inl fits.1) e)
      | inr over ↦
          let size : length rest ≡ length segment = omega (arith, more, within, over.1) in
          let parts = same_halves rest segment (v ∷ []) (items_of_all later ++ items_taken_in flag items) size
          (e ∙ append_assoc segment (items_of_all later) (items_taken_in flag items)) in
          let reach = reaches_one flag later filled.1 in
          let then_on = again_within flag (before ++ segment ∷ []) items v [] later filled.1 held reach parts.1 in
          inr (ap is_empty parts.0 ∙ filled.0, rw parts.0 (rw (append_assoc before (segment ∷ []) later) at then_on))
    ]

-- what counts behind the segments before the path
behind : {A : Type 0} (before later closed : List (List A)) (rest more : List A) → closed ≡ before ++ later
    → items_of_all before ++ rest ≡ items_of_all closed ++ more → rest ≡ items_of_all later ++ more
behind before later closed rest more split e = append_cancel_left (items_of_all before) rest (items_of_all later ++ more)
    (e ∙ ap (λ v. v ++ more) (ap items_of_all split ∙ joined-append before later) ∙ append_assoc (items_of_all before)
    (items_of_all later) more)

module _ {A : Type 0} (flag : Bool) (closed before later : List (List A)) (items : List A) where
  pub fresh_from : (rest : List A) → closed ≡ before ++ later → AllByRecursion (λ x. is_empty x ≡ false) later → IsHeld flag items
      → PathReaches flag later (length rest) → items_of_all before ++ rest ≡ items_of_all closed ++ items_taken_in flag items
      → IsFreshSomehow flag closed items before rest
  fresh_from rest split filled held reach e =
      rw split
      (fresh_after flag before items rest later filled held reach (behind before later closed rest (items_taken_in flag items) split e))

  pub again_from : (v : A) (rest : List A) → closed ≡ before ++ later → AllByRecursion (λ x. is_empty x ≡ false) later → IsHeld flag items
      → PathReaches flag later (length rest) → (items_of_all before ++ rest) ++ v ∷ [] ≡ items_of_all closed ++ items_taken_in flag items
      → IsAgainSomehow flag closed items v before rest
  again_from v rest split filled held reach e =
      rw split
      (again_after flag before items v rest later filled held reach
      (behind before later closed (rest ++ v ∷ []) (items_taken_in flag items) split (sym (append_assoc (items_of_all before) rest (v ∷ []))
      ∙ e)))

-- Histories as lists: batches, entries and values, and what soundness tells of them.

pub has_value-append : (es fs : List RegisterEntry) → has_value (es ++ fs) ≡ (has_value es || has_value fs)
has_value-append [] fs = refl
has_value-append (Own b ∷ es) fs = has_value-append es fs
has_value-append (Value d ∷ es) fs = refl

pub batches_in-append : (es fs : List RegisterEntry) → batches_in (es ++ fs) ≡ batches_in es ++ batches_in fs
batches_in-append [] fs = refl
batches_in-append (Own b ∷ es) fs = ap (λ v. b ∷ v) (batches_in-append es fs)
batches_in-append (Value d ∷ es) fs = batches_in-append es fs

-- entries of batches alone are as many as these, and have their guards as values
pub length-batches_in : (es : List RegisterEntry) → has_value es ≡ false → length (batches_in es) ≡ length es
length-batches_in [] c = refl
length-batches_in (Own b ∷ es) c = let h = length-batches_in es c in omega (arith, h)
length-batches_in (Value d ∷ es) c = absurd (true_not_false c)

module _ (barrier : List ℕ) where
  pub own_values-append : (bs cs : List Batch) → own_values barrier (bs ++ cs) ≡ own_values barrier bs ++ own_values barrier cs
  own_values-append bs cs = map-append (guard barrier) bs cs

  pub values_of-append : (es fs : List RegisterEntry) → values_of barrier (es ++ fs) ≡ values_of barrier es ++ values_of barrier fs
  values_of-append es fs = map-append (extension_value barrier) es fs

  -- the values of segments, one after another
  pub joined-values : (segments : List (List RegisterEntry)) → items_of_all (map (values_of barrier) segments) ≡ values_of barrier
      (items_of_all segments)
  joined-values [] = refl
  joined-values (s ∷ ss) = rw (joined-values ss) (sym (values_of-append s (items_of_all ss)))

  pub values_of-clean : (es : List RegisterEntry) → has_value es ≡ false → values_of barrier es ≡ own_values barrier (batches_in es)
  values_of-clean [] c = refl
  values_of-clean (Own b ∷ es) c = ap (λ v. guard barrier b ∷ v) (values_of-clean es c)
  values_of-clean (Value d ∷ es) c = absurd (true_not_false c)

  pub values_of-own : (es : List RegisterEntry) (bs : List Batch) → are_own es bs ≡ true → values_of barrier es ≡ own_values barrier bs
  values_of-own [] [] o = refl
  values_of-own [] (b ∷ bs) o = absurd (true_not_false (sym o))
  values_of-own (Own b ∷ es) [] o = absurd (true_not_false (sym o))
  values_of-own (Own b ∷ es) (c ∷ bs) o =
      let both = and_parts (is_same_batch b c) (are_own es bs) o in
      rw ((is_same_batch-Decides b c).0 both.0, values_of-own es bs both.1) refl
  values_of-own (Value d ∷ es) bs o = absurd (true_not_false (sym o))

  -- a value that stands for no batch, and a batch with that guard
  pub record ValueMeetsGuard (values : List (List ℕ)) (batches : List Batch) : Type 0 where
    pub value : List ℕ
    pub batch : Batch
    pub among : Contains values value
    pub asked : Contains batches batch
    pub same : value ≡ guard barrier batch

  meets_more : (values : List (List ℕ)) (bs : List Batch) (b : Batch) → ValueMeetsGuard values bs → ValueMeetsGuard values (b ∷ bs)
  meets_more values bs b m =
      record { value = m.value; batch = m.batch; among = m.among; asked = Contains-append_right (b ∷ []) bs m.batch m.asked; same = m.same }

  -- entries whose values are guards of batches, though one stands for none: it is the guard of one of them
  pub meets : (es : List RegisterEntry) (bs : List Batch) → has_value es ≡ true → values_of barrier es ≡ own_values barrier bs
      → ValueMeetsGuard (values_in es) bs
  meets [] bs h e = absurd (true_not_false (sym h))
  meets (Own b ∷ es) [] h e = absurd (cc)
  meets (Own b ∷ es) (c ∷ bs) h e =
      let tails : values_of barrier es ≡ own_values barrier bs = cc in meets_more (values_in es) bs c (meets es bs h tails)
  meets (Value d ∷ es) [] h e = absurd (cc)
  meets (Value d ∷ es) (c ∷ bs) h e =
      let heads : d ≡ guard barrier c = cc in
      record { value = d; batch = c; among = (0, omega arith, refl); asked = (0, omega arith, refl); same = heads }

-- the segments before one that isn't the last are among those before the last
pub record IsSooner {A : Type 0} (before front : List A) : Type 0 where
  pub between : List A
  pub is : front ≡ before ++ between

pub sooner : {A : Type 0} (before later front : List A) (last : A) → before ++ later ≡ front ++ last ∷ [] → is_empty later ≡ false
    → IsSooner before front
sooner before later front last e some = elim (ends later) [
  | inl none ↦ absurd (true_not_false (ap is_empty (sym none) ∙ some))
  | inr h ↦ record {
    between = h.front;
    is = sym ((same_from_push (before ++ h.front) front h.last last
        (append_assoc before h.front (h.last ∷ []) ∙ ap (λ v. before ++ v) (sym h.is) ∙ e)).0);
  }
]

pub renamed-push : (items : List RegisterEntry) (x : RegisterEntry) (b : Batch) → entries_with_last_batch (items ++ x ∷ []) b ≡ items
    ++ Own b ∷ []
renamed-push (y ∷ z ∷ items) x b = ap (λ v. y ∷ v) (renamed-push (z ∷ items) x b)
renamed-push _ x b = refl

pub register_more : (barrier : List ℕ) (items : List RegisterEntry) (e : RegisterEntry)
    → register_of (values_of barrier (items ++ e ∷ [])) ≡ extended_digest_of (register_of (values_of barrier items))
    (extension_value barrier e)
register_more barrier items e =
    ap register_of (values_of-append barrier items (e ∷ [])) ∙ register-push (values_of barrier items) (extension_value barrier e)

pub values_renamed : (barrier : List ℕ) (front : List RegisterEntry) (b : Batch)
    → values_of barrier (entries_with_last_batch (front ++ Value (guard barrier b) ∷ []) b) ≡ values_of barrier
    (front ++ Value (guard barrier b) ∷ [])
values_renamed barrier (x ∷ y ∷ front) b = ap (λ v. extension_value barrier x ∷ v) (values_renamed barrier (y ∷ front) b)
values_renamed barrier _ b = refl

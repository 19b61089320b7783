-- One slot of many goes on, or loses its power, and the others stay. With it: what the parts of a
-- slot come to, as contracts see the slot; the other slots lose their power where a call is cut,
-- and what an event leaves of them.
use Rattle.std.specs.Prelude.{nat_lt}
use Rattle.mm_bytes.specs.declared.fault.Memory.{Memory}
use Rattle.mm_slots.proofs.Alone.{folded_more}
use Rattle.mm_slots.proofs.Below.{◌≡◌, ◌∙◌, ◌+◌, ◌≤◌, ◌<◌, ◌==◌, ℕ, zero, suc, Bool, true, false, cond, List, [], ◌∷◌, ◌++◌, length, get_or}
use Rattle.mm_slots.proofs.Below.{slice_set, Option, refl, sym, ap, append-nil, arith, eq-eqb, ne_eqb, eqb-true, nat_tests, if◌then◌else◌}
use Rattle.mm_slots.proofs.Below.{option_map_or, slice_get-get_or, SlotAction, SlotReply, SlotTurn, Meeting, Acts, Loses, turn_by_action}
use Rattle.mm_slots.proofs.Below.{Row, instance_of, row_after, items_by_place, OneRowLacksMemory, RowActs, RowLacksMemory, SlotActsAt}
use Rattle.mm_slots.proofs.Below.{rows_after_meetings, meetings_at, losses_of_others, Result, Ok, Err, IfOk, OnErr, ◌^◌, subst, Parts}
use Rattle.mm_slots.proofs.Below.{Tenant, slot_in, instance_in, row_in, PartsFit, SlotGoesOn, SlotTakes, SlotLosesPower, CanCount, At}
use Rattle.mm_slots.proofs.Below.{is_cut, is_cut_for_all, event_meetings, EventTells}

-- a row that meets more
row_more : (row : Row) (xs ys : List Meeting) → row_after (row_after row xs) ys ≡ row_after row (xs ++ ys)
row_more row xs ys = ap (λ (t : SlotTurn). record row { slot = t.slot }) (sym (folded_more (instance_of row) row.slot xs ys))

touched_from : (f g : ℕ → List Meeting) (place : ℕ) (rows : List Row)
    → items_by_place (λ k row. row_after row (g k)) place (items_by_place (λ k row. row_after row (f k)) place rows)
    ≡ items_by_place (λ k row. row_after row (f k ++ g k)) place rows
touched_from f g place [] = refl
touched_from f g place (row ∷ rows) = λ j. row_more row (f place) (g place) j ∷ touched_from f g (place + 1) rows j

pub touched_more : (f g : ℕ → List Meeting) (rows : List Row) → rows_after_meetings g (rows_after_meetings f rows) ≡ rows_after_meetings
    (λ k. f k ++ g k) rows
touched_more f g rows = touched_from f g 0 rows

same_from : (f g : ℕ → List Meeting) (place : ℕ) (rows : List Row) → ((k : ℕ) → place ≤ k → k < place + length rows → f k ≡ g k)
    → items_by_place (λ k row. row_after row (f k)) place rows ≡ items_by_place (λ k row. row_after row (g k)) place rows
same_from f g place [] same = refl
same_from f g place (row ∷ rows) same =
    let here : f place ≡ g place = same place (omega arith) (omega arith) in
    let there = same_from f g (place + 1) rows (λ k low high. same k (omega (arith, low)) (omega (arith, high))) in
    λ j. row_after row (here j) ∷ there j

pub touched_same : (f g : ℕ → List Meeting) (rows : List Row) → ((k : ℕ) → k < length rows → f k ≡ g k) → rows_after_meetings f rows
    ≡ rows_after_meetings g rows
touched_same f g rows same = same_from f g 0 rows (λ k low high. same k (omega (arith, high)))

-- none meets anything
untouched_from : (f : ℕ → List Meeting) (place : ℕ) (rows : List Row) → ((k : ℕ) → place ≤ k → f k ≡ [])
    → items_by_place (λ k row. row_after row (f k)) place rows ≡ rows
untouched_from f place [] none = refl
untouched_from f place (row ∷ rows) none =
    let here : f place ≡ [] = none place (omega arith) in
    let there = untouched_from f (place + 1) rows (λ k low. none k (omega (arith, low))) in
    λ j. row_after row (here j) ∷ there j

pub touched_none : (rows : List Row) → rows ≡ rows_after_meetings (λ _. []) rows
touched_none rows = sym (untouched_from (λ _. []) 0 rows (λ k low. refl))

-- one slot is another one, and the rest as before
set_from : (f : ℕ → List Meeting) (place n : ℕ) (rows : List Row) (row d : Row) → n < length rows
    → row ≡ row_after (get_or rows n d) (f (place + n)) → ((k : ℕ) → place ≤ k → (k ≡ place + n → ⊥) → f k ≡ [])
    → slice_set rows n row ≡ items_by_place (λ k row. row_after row (f k)) place rows
set_from f place n [] row d few here others = absurd (omega (arith, few))
set_from f place zero (x ∷ rows) row d few here others =
    let at : f (place + 0) ≡ f place = ap f (omega arith) in
    let rest = untouched_from f (place + 1) rows (λ k low. others k (omega (arith, low)) (λ e. omega (arith, low, e))) in
    λ j. (here ∙ ap (λ ms. row_after x ms) at) j ∷ sym rest j
set_from f place (suc n) (x ∷ rows) row d few here others =
    let none : f place ≡ [] = others place (omega arith) (λ e. omega (arith, e)) in
    let at : f (place + suc n) ≡ f (place + 1 + n) = ap f (omega arith) in
    let rest = set_from f (place + 1) n rows row d (omega (arith, few)) (here ∙ ap (λ ms. row_after (get_or rows n d) ms) at)
    (λ k low other. others k (omega (arith, low)) (λ e. other (omega (arith, e)))) in
    λ j. row_after x (sym none j) ∷ rest j

only_there : (n : ℕ) (met : Meeting) (k : ℕ) → (k ≡ n → ⊥) → meetings_at n met k ≡ []
only_there n met k other = rw (ne_eqb k n other) refl

only_here : (n : ℕ) (met : Meeting) → meetings_at n met n ≡ met ∷ []
only_here n met = rw (eq-eqb n n refl) refl

pub set_row : (n : ℕ) (met : Meeting) (rows : List Row) (row d : Row) → n < length rows → row ≡ row_after (get_or rows n d) (met ∷ [])
    → slice_set rows n row ≡ rows_after_meetings (meetings_at n met) rows
set_row n met rows row d few here =
    let at : meetings_at n met (0 + n) ≡ met ∷ [] = ap (meetings_at n met) (omega arith) ∙ only_here n met in
    set_from (meetings_at n met) 0 n rows row d few (here ∙ ap (λ ms. row_after (get_or rows n d) ms) (sym at))
    (λ k low other. only_there n met k (λ e. other (omega (arith, e))))

-- something happened in the slot with this number, or memory was wanting for it
pub acts_at : (number : ℕ) (what : SlotAction) (rows : List Row) (row d : Row) (said : SlotReply) → number < length rows
    → RowActs what (get_or rows number d) row said → SlotActsAt number what rows (slice_set rows number row) said
acts_at number what rows row d said few a = record {
  stands = set_row number (Acts what) rows row d few a.stands;
  says =
      ap (λ (found : Option Row). option_map_or (λ (r : Row). (turn_by_action (instance_of r) r.slot what).said) found [])
      (slice_get-get_or rows number d few) ∙ a.says;
  sayable = a.sayable;
}

pub lacks_at : (number : ℕ) (what : SlotAction) (rows : List Row) (row d : Row) → number < length rows
    → RowLacksMemory what (get_or rows number d) row → OneRowLacksMemory number what rows (slice_set rows number row)
lacks_at number what rows row d few l = record {
  row = get_or rows number d;
  slot = row.slot;
  was = slice_get-get_or rows number d few;
  wants = l.wants;
  now = ap (slice_set rows number) l.same;
}

-- slots meet something one after another

-- one slot meets its part
abbrev pub meetings_of_one : (ℕ → List Meeting) → ℕ → ℕ → List Meeting
meetings_of_one mets number k = if k == number then mets number else []

none_met : (mets : ℕ → List Meeting) (number k : ℕ) (here : Bool) → mets number ≡ [] → (k == number) ≡ here
    → cond here (mets number) [] ≡ []
none_met mets number k true none own = none
none_met mets number k false none own = refl

pub loses_none : (number but : ℕ) (rows : List Row) → number ≡ but
    → rows ≡ rows_after_meetings (meetings_of_one (losses_of_others but) number) rows
loses_none number but rows same =
    let none : losses_of_others but number ≡ [] = rw (eq-eqb number but same) refl in
    touched_none rows
    ∙ touched_same (λ _. []) (meetings_of_one (losses_of_others but) number) rows
    (λ k few. sym (none_met (losses_of_others but) number k (k == number) none refl))

pub loses_one : (number but : ℕ) (rows rows' : List Row) → (number ≡ but → ⊥) → rows' ≡ rows_after_meetings (meetings_at number Loses) rows
    → rows' ≡ rows_after_meetings (meetings_of_one (losses_of_others but) number) rows
loses_one number but rows rows' other is =
    let all : losses_of_others but number ≡ Loses ∷ [] = rw (ne_eqb number but other) refl in
    is ∙ ap (λ (ms : List Meeting). rows_after_meetings (λ k. cond (k == number) ms []) rows) (sym all)

-- so many have met theirs
abbrev pub AreMetBelow : (mets : ℕ → List Meeting) (below : ℕ) → List Row → List Row → Type 0
AreMetBelow mets below old new = new ≡ rows_after_meetings (λ k. if nat_lt k below then mets k else []) old

one_more : (mets : ℕ → List Meeting) (below k : ℕ) (less here : Bool) → nat_lt k below ≡ less → (k == below) ≡ here
    → cond less (mets k) [] ++ cond here (mets below) [] ≡ (if nat_lt k (below + 1) then mets k else [])
one_more mets below k true true l h = let e : k ≡ below = eqb-true k below h in absurd (grind (arith, nat_tests))
one_more mets below k true false l h =
    let more : nat_lt k (below + 1) ≡ true = grind (arith, nat_tests) in rw more (append-nil (mets k))
one_more mets below k false true l h =
    let e : k ≡ below = eqb-true k below h in
    let more : nat_lt k (below + 1) ≡ true = grind (arith, nat_tests) in
    rw more (ap mets (sym e))
one_more mets below k false false l h =
    let more : nat_lt k (below + 1) ≡ false = grind (arith, nat_tests) in rw more refl

pub met_more : (mets : ℕ → List Meeting) (below number : ℕ) (first rows rows' : List Row) → number ≡ below
    → AreMetBelow mets below first rows → rows' ≡ rows_after_meetings (meetings_of_one mets number) rows
    → AreMetBelow mets (below + 1) first rows'
met_more mets below number first rows rows' same b l =
    let f : ℕ → List Meeting = λ k. if nat_lt k below then mets k else [] in
    let g : ℕ → List Meeting = meetings_of_one mets below in
    l ∙ ap (λ (n : ℕ). rows_after_meetings (meetings_of_one mets n) rows) same ∙ ap (rows_after_meetings g) b ∙ touched_more f g first
    ∙ touched_same (λ k. f k ++ g k) (λ k. if nat_lt k (below + 1) then mets k else []) first
    (λ k few. one_more mets below k (nat_lt k below) (k == below) refl refl)

pub met_first : (mets : ℕ → List Meeting) (rows : List Row) → AreMetBelow mets 0 rows rows
met_first mets rows = touched_none rows
    ∙ touched_same (λ _. []) (λ k. if nat_lt k 0 then mets k else []) rows
    (λ k few. let none : nat_lt k 0 ≡ false = grind (arith, nat_tests) in rw none refl)

pub met_all : (mets : ℕ → List Meeting) (first rows : List Row) (n : ℕ) → length first ≤ n → AreMetBelow mets n first rows
    → rows ≡ rows_after_meetings mets first
met_all mets first rows n size b =
    b ∙ touched_same (λ k. if nat_lt k n then mets k else []) mets first
    (λ k few. let less : nat_lt k n ≡ true = grind (arith, nat_tests) in rw less refl)

-- what holds of an answer leads on
pub on_ok : {T E : Type 0} (r : Result T E) (p q : T → Type 0) → ((x : T) → p x → q x) → IfOk r p → IfOk r q
on_ok (Ok x) p q leads h = leads x h
on_ok (Err e) p q leads h = tt

pub on_err : {T E : Type 0} (r : Result T E) (p q : Type 0) → (p → q) → OnErr r p → OnErr r q
on_err (Ok x) p q leads h = tt
on_err (Err e) p q leads h = leads h

-- What the parts of a slot come to, as contracts see the slot.

-- the row of a slot that went on
row_on : (old new : Parts) (s : Tenant) → SlotGoesOn old new → slot_in new ≡ s → row_in new ≡ record (row_in old) { slot = s }
row_on old new s g stands = λ j. record { header = g.header j; number = g.number j; slot = stands j }

module _ (old new : Parts) (row : Row) (is : row_in old ≡ row) (what : SlotAction) where
  pub few_on : CanCount row → old.seat.committed < 2 ^ 63
  few_on few = subst CanCount (sym is) few

  pub fits_on : (r : Result SlotReply Memory) → SlotTakes what old new r → PartsFit new
  fits_on (Ok said) c = c.goes.fits
  fits_on (Err memory) l = l.goes.fits

  pub acts_on : (r : Result SlotReply Memory) → SlotTakes what old new r → IfOk r (RowActs what row (row_in new))
  acts_on (Ok said) c = subst (λ (x : Row). RowActs what x (row_in new) said) is (record {
    stands = row_on old new (turn_by_action (instance_in old) (slot_in old) what).slot c.goes c.stands;
    says = c.says;
    sayable = c.sayable;
  })
  acts_on (Err memory) l = tt

  pub lacks_on : (r : Result SlotReply Memory) → SlotTakes what old new r → OnErr r (RowLacksMemory what row (row_in new))
  lacks_on (Ok said) c = tt
  lacks_on (Err memory) l = subst (λ (x : Row). RowLacksMemory what x (row_in new)) is (record {
    same = row_on old new (slot_in new) l.goes refl;
    wants = l.wants;
  })

pub loses_on : (old new : Parts) (row : Row) → row_in old ≡ row → SlotLosesPower old new → row_in new ≡ row_after row (Loses ∷ [])
loses_on old new row is l =
    let after = (row_after (row_in old) (Loses ∷ [])).slot in
    subst (λ (x : Row). row_in new ≡ row_after x (Loses ∷ [])) is (row_on old new after l.goes l.stands)

-- The other slots lose their power where a call is cut, and what an event leaves of them.

-- where it is a cut the others lose their power

pub uncut_loses : (but : ℕ) (cuts : Bool) (rows : List Row) → cuts ≡ false
    → rows ≡ rows_after_meetings (λ k. if cuts then losses_of_others but k else []) rows
uncut_loses but true rows is = cc
uncut_loses but false rows is = touched_none rows

pub cut_loses : (but : ℕ) (cuts : Bool) (rows rows' : List Row) → cuts ≡ true → rows' ≡ rows_after_meetings (losses_of_others but) rows
    → rows' ≡ rows_after_meetings (λ k. if cuts then losses_of_others but k else []) rows
cut_loses but true rows rows' is l = l
cut_loses but false rows rows' is l = cc

-- what a slot meets where one acts, and where that is a cut
acts_then : (number k : ℕ) (what : SlotAction) (own cuts : Bool) → (k == number) ≡ own
    → meetings_at number (Acts what) k ++ cond cuts (losses_of_others number k) [] ≡ cond own (Acts what ∷ []) (cond cuts (Loses ∷ []) [])
acts_then number k what true true own = rw own refl
acts_then number k what true false own = rw own refl
acts_then number k what false true own = rw own refl
acts_then number k what false false own = rw own refl

pub tells : (number : ℕ) (what : SlotAction) (cuts : Bool) (first second last : List Row) (said : SlotReply)
    → cuts ≡ is_cut_for_all first number what
    → SlotActsAt number what first second said → last ≡ rows_after_meetings (λ k. if cuts then losses_of_others number k else []) second
    → EventTells number what first last said
tells number what cuts first second last said is a l =
    let f : ℕ → List Meeting = meetings_at number (Acts what) in
    let g : ℕ → List Meeting = λ k. if cuts then losses_of_others number k else [] in
    record {
      stands = l ∙ ap (rows_after_meetings g) a.stands ∙ touched_more f g first
          ∙ touched_same (λ k. f k ++ g k) (λ k. event_meetings k first (At number what)) first
          (λ k few. acts_then number k what (k == number) cuts refl
          ∙ ap (λ (c : Bool). cond (k == number) (Acts what ∷ []) (cond c (Loses ∷ []) [])) is);
      says = a.says;
      sayable = a.sayable;
    }

-- whether it is a cut is told by the slot
pub cuts_at : (number : ℕ) (what : SlotAction) (rows : List Row) (d : Row) (cuts : Bool) → number < length rows
    → cuts ≡ is_cut (get_or rows number d).slot.flight what → cuts ≡ is_cut_for_all rows number what
cuts_at number what rows d cuts few is =
    is ∙ sym (ap (λ (found : Option Row). option_map_or (λ (r : Row). is_cut r.slot.flight what) found false)
    (slice_get-get_or rows number d few))

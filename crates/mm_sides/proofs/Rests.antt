-- A history with no segment open: its digests, its snapshot and its verdicts don't look at the register's items, and what
-- names its positions knows neither items nor key.
use Rattle.mm_sides.proofs.Below.{ℕ, ◌≡◌, ◌+◌, Bool, true, false, ◌&&◌, List, [], ◌∷◌, refl, sym, ap, ◌∙◌, subst, nat_eq, if◌then◌else◌}
use Rattle.mm_sides.proofs.Below.{bytes_eq, AllByRecursion, Contains, bytes_eq-Decides, All-from_recursion, All-contains, Variant, Basic}
use Rattle.mm_sides.proofs.Below.{Opt, zero_bytes, anchored_message, Batch, One, size_of, Meaning, state_after, Content, Instance}
use Rattle.mm_sides.proofs.Below.{basic_instance, opt_instance, History, RegisterEntry, requests_of, total_of, items_of_all}
use Rattle.mm_sides.proofs.Below.{register_value_of, is_empty, are_own, has_value, Life, life_by, life_of, AreMessagesIn, IsClear}
use Rattle.mm_sides.proofs.Below.{AreNoGuards, history_messages, values_in, counted_entries, Digests, IsPoint, IsPlaceOf, NamesPosition}
use Rattle.mm_sides.proofs.Below.{anchor_after, issued_place, content_of_issue, is_new, place_messages, flag_of, basic_issued, opt_issued}
use Rattle.mm_sides.proofs.Below.{point_kept, basic_stands_here, opt_stands_here, IsLedTo, IsWithin, list_level, digest_level, DigestsAgree}
use Rattle.mm_sides.proofs.Below.{instance_by, plain_outside, lives, within_items, summary_in, place_at, IsSoundIn, AreApartIn}
use Rattle.mm_sides.proofs.Below.{digest_mover, is_offer_here}
use Rattle.mm_seal.specs.declared.snapshot.Place.{Place}
use Rattle.mm_seal.specs.declared.snapshot.Place.TheVariants.{Basic as InBasic, Opt as InOpt}
use Rattle.mm_model.specs.History.{cell_digest_of}
use Rattle.mm_model.specs.Standing.{Live, digest_of}
use Rattle.mm_model.specs.Verdicts.{is_last, verdict_on, verdict_by_tests, verdict_by_digests}
use Rattle.mm_model.specs.BatchLaws.{at_the_end}
use Rattle.mm_sides.proofs.Outer.{IsAlike}

-- the same with other items
abbrev pub holding : History → List RegisterEntry → History
holding y items = record y { items = items }

-- names know neither key nor items

basic_place : (meaning : Meaning) (key key' : List ℕ) (y : History) (items : List RegisterEntry) (named : List Batch) (place : Place)
    → IsPlaceOf Basic (basic_instance meaning key) y named place → IsPlaceOf Basic (basic_instance meaning key')
    (holding y items) named place
basic_place meaning key key' y items named (InBasic s) p = p
basic_place meaning key key' y items named (InOpt a e) p = absurd p

opt_point : (meaning : Meaning) (key key' barrier : List ℕ) (y : History) (items : List RegisterEntry) (named : List Batch) (a e : List ℕ)
    → IsPoint (opt_instance meaning key barrier) y named a e → IsPoint (opt_instance meaning key' barrier) (holding y items) named a e
opt_point meaning key key' barrier y items named a e p = point_kept (opt_instance meaning key barrier) key' y items named a e p

opt_place : (meaning : Meaning) (key key' barrier : List ℕ) (y : History) (items : List RegisterEntry) (named : List Batch) (place : Place)
    → IsPlaceOf Opt (opt_instance meaning key barrier) y named place → IsPlaceOf Opt (opt_instance meaning key' barrier)
    (holding y items) named place
opt_place meaning key key' barrier y items named (InBasic s) p = absurd p
opt_place meaning key key' barrier y items named (InOpt a e) p = opt_point meaning key key' barrier y items named a.bytes e.bytes p

pub names_cross : (variant : Variant) (meaning : Meaning) (key key' barrier : List ℕ) (y : History)
    (items : List RegisterEntry) (c : Content)
    → NamesPosition (instance_by variant meaning key barrier) y c → NamesPosition (instance_by variant meaning key' barrier)
    (holding y items) c
names_cross Basic meaning key key' barrier y items c n = record {
  named = n.named;
  rest = n.rest;
  first = n.first;
  position = n.position;
  state = n.state;
  place = basic_place meaning key key' y items n.named c.place n.place;
}
names_cross Opt meaning key key' barrier y items c n = record {
  named = n.named;
  rest = n.rest;
  first = n.first;
  position = n.position;
  state = n.state;
  place = opt_place meaning key key' barrier y items n.named c.place n.place;
}

pub alike_names : (variant : Variant) (meaning : Meaning) (key barrier : List ℕ) (y z : History) → IsAlike y z → (c : Content)
    → (let i = instance_by variant meaning key barrier in NamesPosition i y c → NamesPosition i z c)
alike_names variant meaning key barrier y z alike c n =
    subst (λ w. NamesPosition (instance_by variant meaning key barrier) w c) (sym alike.is)
    (names_cross variant meaning key key barrier y z.items c n)

-- nor does what an answer's snapshot says

opt_issued_place : (meaning : Meaning) (key key' barrier : List ℕ) (y : History) (items : List RegisterEntry) (flag : Bool)
    → issued_place Opt flag (opt_instance meaning key barrier) y ≡ issued_place Opt flag (opt_instance meaning key' barrier)
    (holding y items)
opt_issued_place meaning key key' barrier y items true = refl
opt_issued_place meaning key key' barrier y items false = refl

pub issued_cross : (variant : Variant) (meaning : Meaning) (key key' barrier : List ℕ) (y : History) (items : List RegisterEntry)
    → content_of_issue (instance_by variant meaning key barrier) y ≡ content_of_issue (instance_by variant meaning key' barrier)
    (holding y items)
issued_cross Basic meaning key key' barrier y items = refl
issued_cross Opt meaning key key' barrier y items = λ j. record {
  id = meaning.id;
  place = opt_issued_place meaning key key' barrier y items y.is_open j;
  position = total_of y.batches;
  state = state_after meaning (requests_of y.batches);
}

-- nor does what is asked of it

basic_cross : (meaning : Meaning) (key key' : List ℕ) (all others : List (List ℕ)) (asked : List Batch) (y : History)
    (items : List RegisterEntry)
    → IsWithin all others asked (basic_instance meaning key) y → IsWithin all others asked (basic_instance meaning key') (holding y items)
basic_cross meaning key key' all others asked y items w = record {
  sound = record { closed = w.sound.closed; shut = w.sound.shut };
  outside = plain_outside others y.closed y.is_open items w.sound.closed w.sound.shut;
  listed = w.listed;
  batches = w.batches;
}

pub within_cross : (variant : Variant) (meaning : Meaning) (key key' barrier : List ℕ) (all others : List (List ℕ)) (asked : List Batch)
    (y : History) (items : List RegisterEntry) → y.is_open ≡ false → IsWithin all others asked (instance_by variant meaning key barrier) y
    → IsWithin all others asked (instance_by variant meaning key' barrier) (holding y items)
within_cross Basic meaning key key' barrier all others asked y items shut w = basic_cross meaning key key' all others asked y items w
within_cross Opt meaning key key' barrier all others asked y items shut w =
    let v = within_items meaning key barrier all others asked y items shut w in
    record { sound = v.sound; outside = v.outside; listed = v.listed; batches = v.batches }

pub cell_cross : (variant : Variant) (meaning : Meaning) (key key' barrier : List ℕ) (y : History) (items : List RegisterEntry)
    → cell_digest_of (instance_by variant meaning key barrier) (instance_by variant meaning key barrier).variant y
    ≡ cell_digest_of (instance_by variant meaning key' barrier) (instance_by variant meaning key' barrier).variant (holding y items)
cell_cross Basic meaning key key' barrier y items = refl
cell_cross Opt meaning key key' barrier y items = refl

-- a snapshot of rest

opt_rests : (meaning : Meaning) (key barrier : List ℕ) (y : History) → y.is_open ≡ false
    → issued_place Opt y.is_open (opt_instance meaning key barrier) y
    ≡ InOpt (digest_of (anchor_after (opt_instance meaning key barrier) y.closed))
    (digest_of zero_bytes)
opt_rests meaning key barrier y shut = ap (λ f. issued_place Opt f (opt_instance meaning key barrier) y) shut

pub digest_rests : (variant : Variant) (meaning : Meaning) (key barrier : List ℕ) (y : History) → y.is_open ≡ false
    → (let i = instance_by variant meaning key barrier in (summary_in (content_of_issue i y).place).bytes ≡ cell_digest_of i i.variant y)
digest_rests Basic meaning key barrier y shut = refl
digest_rests Opt meaning key barrier y shut = ap (λ (p : Place). (summary_in p).bytes) (opt_rests meaning key barrier y shut)

-- a ticket of where a history rests says so again
pub says_again : (variant : Variant) (meaning : Meaning) (key barrier : List ℕ) (y : History) (d : Digests) (c : Content)
    → y.is_open ≡ false → (let i = instance_by variant meaning key barrier in
    d.digest ≡ cell_digest_of i i.variant y → c.position ≡ total_of y.batches → c.state ≡ state_after i.meaning (requests_of y.batches)
    → digest_mover.says i d c ≡ content_of_issue i y)
says_again Basic meaning key barrier y d c shut e p s = λ j. record {
  id = meaning.id;
  place = InBasic (digest_of (e j));
  position = p j;
  state = s j;
}
says_again Opt meaning key barrier y d c shut e p s =
    let same : place_at Opt (digest_of d.digest) ≡ issued_place Opt y.is_open (opt_instance meaning key barrier) y =
    ap (λ (a : List ℕ). InOpt (digest_of a) (digest_of zero_bytes)) e ∙ sym (opt_rests meaning key barrier y shut) in
    λ j. record { id = meaning.id; place = same j; position = p j; state = s j }

zero_is : (zero : Bool) (all : List (List ℕ)) (message : List ℕ) → zero ≡ true → AreMessagesIn (if zero then [] else message ∷ []) all
zero_is true all message e = tt
zero_is false all message e = cc

-- and its place has no further message
pub rests_listed : (variant : Variant) (meaning : Meaning) (key barrier : List ℕ) (y : History) (all : List (List ℕ)) → y.is_open ≡ false
    → AreMessagesIn (place_messages (content_of_issue (instance_by variant meaning key barrier) y).place) all
rests_listed Basic meaning key barrier y all shut = tt
rests_listed Opt meaning key barrier y all shut =
    subst (λ (p : Place). AreMessagesIn (place_messages p) all) (sym (opt_rests meaning key barrier y shut))
    (zero_is (bytes_eq zero_bytes zero_bytes) all (anchored_message (anchor_after (opt_instance meaning key barrier) y.closed) zero_bytes)
    ((bytes_eq-Decides zero_bytes zero_bytes).1 refl))

-- an offer that stands here is at the last position, and the history goes on

pub record IsHere (variant : Variant) (y : History) (position : ℕ) : Type 0 where
  pub live : life_of variant y ≡ Live
  pub last : nat_eq position (total_of y.batches) ≡ true

new_live : (life : Life) (at repeat : Bool) → is_new (verdict_by_tests life at repeat) ≡ true → (life ≡ Live) × (at ≡ true)
new_live Live true repeat e = (refl, refl)
new_live Live false true e = cc
new_live _ at repeat e = cc

pub here_tells : (i : Instance) (y : History) (c : Content) → is_offer_here (list_level i) y c ≡ true → IsHere i.variant y c.position
here_tells i y c e =
    let t = new_live (life_of i.variant y) (nat_eq c.position (total_of y.batches))
    (nat_eq (c.position + size_of (One [])) (total_of y.batches) && is_last y.batches (One [])) e in
    record { live = t.0; last = t.1 }

pub record IsAtEnd (i : Instance) (y : History) (c : Content) : Type 0 where
  pub position : c.position ≡ total_of y.batches
  pub state : c.state ≡ state_after i.meaning (requests_of y.batches)

pub end_of : (i : Instance) (y : History) (c : Content) → NamesPosition i y c → nat_eq c.position (total_of y.batches) ≡ true
    → IsAtEnd i y c
end_of i y c n last =
    let same : n.named ≡ y.batches =
    (at_the_end y.batches n.named n.rest n.first).0 (ap (λ p. nat_eq p (total_of y.batches)) (sym n.position) ∙ last) in
    record { position = n.position ∙ ap total_of same; state = n.state ∙ ap (λ b. state_after i.meaning (requests_of b)) same }

pub sound_in : (variant : Variant) (meaning : Meaning) (key barrier : List ℕ) (y : History)
    → IsLedTo (instance_by variant meaning key barrier).variant y → IsSoundIn (instance_by variant meaning key barrier).variant y
sound_in Basic meaning key barrier y h = tt
sound_in Opt meaning key barrier y h = h

pub open_same : (variant : Variant) (meaning : Meaning) (key barrier : List ℕ) (y : History) (d : Digests)
    → DigestsAgree (instance_by variant meaning key barrier) y d → IsLedTo (instance_by variant meaning key barrier).variant y
    → d.flag ≡ y.is_open
open_same Basic meaning key barrier y d a h = a.flag ∙ sym h.shut
open_same Opt meaning key barrier y d a h = a.flag

pub flag_shut : (variant : Variant) (meaning : Meaning) (key barrier : List ℕ) (y : History) → y.is_open ≡ false
    → false ≡ flag_of (instance_by variant meaning key barrier).variant y
flag_shut Basic meaning key barrier y shut = refl
flag_shut Opt meaning key barrier y shut = sym shut

-- the snapshot of a history that goes on names its end
pub issued_here : (variant : Variant) (meaning : Meaning) (key barrier : List ℕ) (y : History)
    → (let i = instance_by variant meaning key barrier in IsSoundIn i.variant y → life_of i.variant y ≡ Live
    → NamesPosition i y (content_of_issue i y))
issued_here Basic meaning key barrier y sound live = basic_issued meaning key y
issued_here Opt meaning key barrier y sound live = opt_issued meaning key barrier y sound (lives y live).clean

-- the verdicts on an offer agree

-- what is among lists of which no value is a guard
no_guards : (barrier : List ℕ) (others : List (List ℕ)) (asked : List Batch) (values : List (List ℕ)) (batches : List Batch)
    → AreNoGuards barrier others asked → AllByRecursion (Contains others) values → AllByRecursion (Contains asked) batches
    → AreNoGuards barrier values batches
no_guards barrier others asked values batches apart hv hb d b cd cb =
    apart d b (All-contains (Contains others) values d (All-from_recursion (Contains others) values hv) cd)
    (All-contains (Contains asked) batches b (All-from_recursion (Contains asked) batches hb) cb)

-- under a clear flag the register isn't looked at
shut_verdict : (barrier digest r s : List ℕ) (place : Place) (b : Batch)
    → verdict_by_digests barrier false digest r place b ≡ verdict_by_digests barrier false digest s place b
shut_verdict barrier digest r s (InBasic x) b = refl
shut_verdict barrier digest r s (InOpt a e) b = refl

judge_at : Bool → History → List RegisterEntry → ℕ → Batch → Bool
judge_at flag y items p b =
    is_new (verdict_by_tests (life_by flag (is_empty items) (are_own items y.current) (has_value (items_of_all y.closed)))
    (nat_eq p (total_of y.batches))
    (nat_eq (p + size_of b) (total_of y.batches) && is_last y.batches b))

judge_shut : (y : History) (items : List RegisterEntry) (p : ℕ) (b : Batch) → y.is_open ≡ false
    → is_new (verdict_on Opt (holding y items) p b) ≡ is_new (verdict_on Opt y p b)
unfolding judge_at
judge_shut y items p b shut = ap (λ f. judge_at f y items p b) shut ∙ ap (λ f. judge_at f y y.items p b) (sym shut)

bare_listed : (meaning : Meaning) (key barrier : List ℕ) (all : List (List ℕ)) (y : History) (flag : Bool)
    → AreMessagesIn (history_messages (opt_instance meaning key barrier) (holding y (if flag then [] else []))) all
    → AreMessagesIn (history_messages (opt_instance meaning key barrier) (holding y [])) all
bare_listed meaning key barrier all y true h = h
bare_listed meaning key barrier all y false h = h

opt_here : (meaning : Meaning) (key barrier : List ℕ) (all others : List (List ℕ)) (asked : List Batch) (y : History) (d : Digests)
    (c : Content) → IsClear all → AreNoGuards barrier others asked → IsWithin all others asked (opt_instance meaning key barrier) y
    → DigestsAgree (opt_instance meaning key barrier) y d → y.is_open ≡ false → AreMessagesIn (place_messages c.place) all
    → NamesPosition (opt_instance meaning key barrier) y c
    → is_offer_here (digest_level (opt_instance meaning key barrier)) d c ≡ is_offer_here (list_level (opt_instance meaning key barrier)) y
    c
opt_here meaning key barrier all others asked y d c clear apart w a shut listed names =
    let i = opt_instance meaning key barrier in
    let z : History = holding y [] in
    let v = within_items meaning key barrier all others asked y [] shut w in
    let V : Bool → List ℕ → List ℕ → Bool = λ f x r. is_new (verdict_by_digests barrier f x r c.place (One [])) in
    ap (λ f. V f d.digest d.register) (a.flag ∙ shut) ∙ ap (λ x. V false x d.register) a.digest
    ∙ ap is_new (shut_verdict barrier (cell_digest_of i Opt z) d.register (register_value_of i z) c.place (One []))
    ∙ ap (λ f. V f (cell_digest_of i Opt z) (register_value_of i z)) (sym shut)
    ∙ opt_stands_here meaning key barrier z c (One []) all v.sound clear (bare_listed meaning key barrier all y y.is_open v.listed) listed
    (no_guards barrier others asked (values_in (counted_entries z)) z.batches apart v.outside v.batches)
    (names_cross Opt meaning key key barrier y [] c names) ∙ judge_shut y [] c.position (One []) shut

basic_here : (meaning : Meaning) (key : List ℕ) (all others : List (List ℕ)) (asked : List Batch) (y : History) (d : Digests) (c : Content)
    → IsClear all → IsWithin all others asked (basic_instance meaning key) y → DigestsAgree (basic_instance meaning key) y d
    → NamesPosition (basic_instance meaning key) y c
    → is_offer_here (digest_level (basic_instance meaning key)) d c ≡ is_offer_here (list_level (basic_instance meaning key)) y c
basic_here meaning key all others asked y d c clear w a names =
    ap (λ f. is_new (verdict_by_digests zero_bytes f d.digest d.register c.place (One []))) a.flag
    ∙ ap (λ x. is_new (verdict_by_digests zero_bytes false x d.register c.place (One []))) a.digest
    ∙ basic_stands_here meaning key d.register y c (One []) all clear w.listed names

pub here_same : (variant : Variant) (meaning : Meaning) (key barrier : List ℕ) (all others : List (List ℕ)) (asked : List Batch)
    → (let i = instance_by variant meaning key barrier in
    IsClear all → AreApartIn i.variant i others asked → (y : History) (d : Digests) (c : Content) → IsWithin all others asked i y
    → DigestsAgree i y d → y.is_open ≡ false → AreMessagesIn (place_messages c.place) all → NamesPosition i y c
    → is_offer_here (digest_level i) d c ≡ is_offer_here (list_level i) y c)
here_same Basic meaning key barrier all others asked clear apart y d c w a shut listed names =
    basic_here meaning key all others asked y d c clear w a names
here_same Opt meaning key barrier all others asked clear apart y d c w a shut listed names =
    opt_here meaning key barrier all others asked y d c clear (apart refl) w a shut listed names

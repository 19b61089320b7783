-- Opt: what holds before each call, and that moves keep it; while no segment is open neither the register nor its items count.
use Rattle.mm_call.proofs.Below.{ℕ, ◌≡◌, Bool, List, [], ◌∷◌, refl, sym, ap, ◌∙◌, AllByRecursion, Contains, Opt, Meaning, Batch, Instance}
use Rattle.mm_call.proofs.Below.{opt_instance, History, Move, Foreign, Power, history_after, IsSound, AreMessagesIn, history_messages}
use Rattle.mm_call.proofs.Below.{move_messages, batch_messages, IsAllowed, MayMove, Digests, digests_of, digests_after, IsOutside}
use Rattle.mm_call.proofs.Below.{MoveBrings, opt_messages, sound_moved, opt_digests, outside_moved, each_append, DigestsAgree, batches-made}
use Rattle.mm_call.proofs.Below.{committed_batches, ◌+◌, true, false, ◌&&◌, ◌++◌, map, Result, Err, subst, if◌then◌else◌, nat_eq, fold}
use Rattle.mm_call.proofs.Below.{zero_bytes, extended_digest_of, size_of, RegisterEntry, Reset, items_of_all, total_of, Life, life_by}
use Rattle.mm_call.proofs.Below.{life_of, is_empty, are_own, has_value, is_lost, verdict_by_tests, is_last, values_in, Refusal, parts_of}
use Rattle.mm_call.proofs.Below.{sound_items, Level, list_level, digest_level, state_after_moves, CallFinding, finding_by_verdict}
use Rattle.mm_call.proofs.Below.{finding_at, counted_part, IsWithin, items_messages}
use Rattle.mm_model.specs.declared.refusal.Refusal.TheVariants as refusal

pub agrees_is : (i : Instance) (y : History) (d : Digests) → DigestsAgree i y d → d ≡ digests_of i y
agrees_is i y d a = λ j. record { digest = a.digest j; flag = a.flag j; register = a.register j; count = a.count j }

pub is_agrees : (i : Instance) (y : History) (d : Digests) → d ≡ digests_of i y → DigestsAgree i y d
is_agrees i y d e = rw e (record { digest = refl; flag = refl; register = refl; count = refl })

-- A move that may be made: what others bring by it is theirs, and what it adds to the messages and to the batches is listed.
pub record IsFine (all others : List (List ℕ)) (asked : List Batch) (i : Instance) (y : History) (m : Move) : Type 0 where
  pub may : MayMove i y m
  pub brings : MoveBrings Opt y.is_open others y m
  pub listed : AreMessagesIn (batch_messages i y m) all
  pub are_asked : AllByRecursion (Contains asked) (committed_batches (m ∷ []))

-- What holds of a history and its digests before a call: `all` are messages, `others` the values of others, and `asked`
-- the batches that are asked.
pub record Holds (all others : List (List ℕ)) (asked : List Batch) (i : Instance) (y : History) (d : Digests) : Type 0 where
  pub agrees : DigestsAgree i y d
  pub sound : IsSound y
  pub outside : IsOutside others y
  pub listed : AreMessagesIn (history_messages i y) all
  pub batches : AllByRecursion (Contains asked) y.batches

pub foreign_may : (i : Instance) (y : History) (flag : Bool) (v : List ℕ) → IsAllowed Opt flag i y (Foreign v)
foreign_may i y flag v = tt

pub power_may : (i : Instance) (y : History) (flag : Bool) → IsAllowed Opt flag i y Power
power_may i y flag = tt

pub power_brings : (others : List (List ℕ)) (y : History) (flag : Bool) → MoveBrings Opt flag others y Power
power_brings others y flag = tt

-- the history whose register is empty, and its digests
abbrev pub bare : History → History
bare y = record y { items = [] }

abbrev pub bare_digests : Digests → Digests
bare_digests d = record d { register = zero_bytes }

pub counted_open : (y : History) → y.is_open ≡ true → counted_part y ≡ y
counted_open y e = ap (λ f. record y { items = if f then y.items else [] }) e

pub counted_shut : (y : History) → y.is_open ≡ false → counted_part y ≡ bare y
counted_shut y e = ap (λ f. record y { items = if f then y.items else [] }) e

-- the life of a history with no segment open
life_shut : (a b c d marred : Bool) → life_by false a b marred ≡ life_by false c d marred
life_shut a b c d false = refl
life_shut a b c d true = refl

pub life_bare : (y : History) (items : List RegisterEntry) → y.is_open ≡ false → life_of Opt (record y { items = items })
    ≡ life_of Opt (bare y)
life_bare y items e =
    rw e (life_shut (is_empty items) (are_own items y.current) true (are_own [] y.current) (has_value (items_of_all y.closed)))

-- what is found by lists at this life
abbrev found_alive : Instance → History → Life → Batch → List ℕ → Result CallFinding Refusal
found_alive i y life b offer =
    let level : Level History = record (list_level i) {
      verdict = λ z offered c. verdict_by_tests life (nat_eq offered.position (total_of y.batches))
          (nat_eq (offered.position + size_of c) (total_of y.batches) && is_last y.batches c);
    } in
    if is_lost life then Err refusal.Lost else finding_by_verdict i level y b (parts_of i.variant i.meaning.id offer)

-- what others put into the register, by digests
pub foreign_digests : (i : Instance) (values : List (List ℕ)) (moves : List Move) (d : Digests)
    → state_after_moves (digest_level i) d (map Foreign values ++ moves)
    ≡ state_after_moves (digest_level i) (record d { register = fold extended_digest_of d.register values }) moves
foreign_digests i [] moves d = refl
foreign_digests i (v ∷ values) moves d = foreign_digests i values moves (digests_after i d (Foreign v))

-- the items of a history with no segment open don't matter
outside_items : (others : List (List ℕ)) (y : History) (items : List RegisterEntry) → y.is_open ≡ false → IsOutside others y
    → IsOutside others (record y { items = items })
outside_items others y items e h =
    let P : Bool → List RegisterEntry → Type 0 = λ f xs. AllByRecursion (Contains others)
    (values_in (items_of_all y.closed ++ (if f then xs else []))) in
    let shut : P false y.items = subst (λ f. P f y.items) e h in
    rw e shut

pub sound_shut : (y : History) (items : List RegisterEntry) → y.is_open ≡ false → IsSound y → IsSound (record y { items = items })
sound_shut y items e sound = sound_items y items sound (λ is_open. let clash = sym e ∙ is_open in absurd (cc))

module _ (meaning : Meaning) (key barrier : List ℕ) where
  abbrev I : Instance
  I = opt_instance meaning key barrier

  pub opt_agrees_moved : (y : History) (d : Digests) (m : Move) → MayMove I y m → DigestsAgree I y d → DigestsAgree I (history_after I y m)
      (digests_after I d m)
  opt_agrees_moved y d m may a =
      is_agrees I (history_after I y m) (digests_after I d m) (ap (λ x. digests_after I x m) (agrees_is I y d a)
      ∙ sym (opt_digests meaning key barrier y m may))

  pub found_lists : (y : History) (items : List RegisterEntry) (b : Batch) (offer : List ℕ) → y.is_open ≡ false
      → finding_at I (list_level I) (record y { items = items }) b offer ≡ finding_at I (list_level I) (bare y) b offer
  found_lists y items b offer e = ap (λ life. found_alive I y life b offer) (life_bare y items e)

  pub found_digests : (d : Digests) (register : List ℕ) (b : Batch) (offer : List ℕ) → d.flag ≡ false
      → finding_at I (digest_level I) (record d { register = register }) b offer ≡ finding_at I (digest_level I) (bare_digests d) b offer
  found_digests d register b offer e =
      ap (λ f. finding_at I (digest_level I) (record { digest = d.digest; flag = f; register = register; count = d.count }) b offer) e
      ∙ ap (λ f. finding_at I (digest_level I) (record { digest = d.digest; flag = f; register = zero_bytes; count = d.count }) b offer)
      (sym e)

  pub foreign_agrees : (values : List (List ℕ)) (y : History) (d : Digests) → DigestsAgree I y d
      → DigestsAgree I (state_after_moves (list_level I) y (map Foreign values)) (state_after_moves (digest_level I) d (map Foreign values))
  foreign_agrees [] y d a = a
  foreign_agrees (v ∷ values) y d a =
      foreign_agrees values (history_after I y (Foreign v)) (digests_after I d (Foreign v))
      (opt_agrees_moved y d (Foreign v) (foreign_may I y y.is_open v) a)

  -- a reset, while no segment is open
  pub reset_may : (y : History) → y.is_open ≡ false → MayMove I y Reset
  reset_may y e = rw e tt

  -- the messages of a history with other items
  pub listed_bare : (all : List (List ℕ)) (y : History) → AreMessagesIn (history_messages I y) all
      → AreMessagesIn (history_messages I (bare y)) all
  listed_bare all y h = items_messages I y [] all h tt

  listed_counted : (all : List (List ℕ)) (y : History) (flag : Bool) → AreMessagesIn (history_messages I y) all
      → AreMessagesIn (history_messages I (record y { items = if flag then y.items else [] })) all
  listed_counted all y true h = h
  listed_counted all y false h = listed_bare all y h

  module _ (all others : List (List ℕ)) (asked : List Batch) where
    pub holds_moved : (y : History) (d : Digests) (m : Move) → Holds all others asked I y d → IsFine all others asked I y m
        → AreMessagesIn (move_messages I y m) all → Holds all others asked I (history_after I y m) (digests_after I d m)
    holds_moved y d m h fine message = record {
      agrees = opt_agrees_moved y d m fine.may h.agrees;
      sound = sound_moved meaning key barrier y m h.sound fine.may;
      outside = outside_moved meaning key barrier others y m h.outside fine.may fine.brings;
      listed = opt_messages meaning key barrier y m all h.sound fine.may h.listed message fine.listed;
      batches = rw (batches-made I (m ∷ []) y)
          (each_append (Contains asked) y.batches (committed_batches (m ∷ [])) h.batches fine.are_asked);
    }

    -- what others put into the register may always be put there
    pub foreign_fine : (y : History) (v : List ℕ) → Contains others v → IsFine all others asked I y (Foreign v)
    foreign_fine y v c = record { may = tt; brings = c; listed = tt; are_asked = tt }

    pub power_fine : (y : History) → IsFine all others asked I y Power
    power_fine y = record { may = tt; brings = tt; listed = tt; are_asked = tt }

    pub holds_open : (y : History) (d : Digests) → y.is_open ≡ true → DigestsAgree I y d → IsWithin all others asked I y
        → Holds all others asked I y d
    holds_open y d e a w = record {
      agrees = a;
      sound = w.sound;
      outside = w.outside;
      listed = subst (λ x. AreMessagesIn (history_messages I x) all) (counted_open y e) w.listed;
      batches = w.batches;
    }

    pub holds_shut : (y : History) (d : Digests) → y.is_open ≡ false → DigestsAgree I y d → IsWithin all others asked I y
        → Holds all others asked I (bare y) (bare_digests d)
    holds_shut y d e a w = record {
      agrees = opt_agrees_moved y d Reset (reset_may y e) a;
      sound = sound_moved meaning key barrier y Reset w.sound (reset_may y e);
      outside = outside_moved meaning key barrier others y Reset w.outside (reset_may y e) tt;
      listed = subst (λ x. AreMessagesIn (history_messages I x) all) (counted_shut y e) w.listed;
      batches = w.batches;
    }

    -- what holds is all that is asked of a history
    pub within_of : (y : History) (d : Digests) → Holds all others asked I y d → IsWithin all others asked I y
    within_of y d h =
        record { sound = h.sound; outside = h.outside; listed = listed_counted all y y.is_open h.listed; batches = h.batches }

    pub within_items : (y : History) (items : List RegisterEntry) → y.is_open ≡ false → IsWithin all others asked I y
        → IsWithin all others asked I (record y { items = items })
    within_items y items e w =
        let P : Bool → List RegisterEntry → Type 0 = λ f xs. AreMessagesIn (history_messages I (record y { items = if f then xs else [] }))
        all in
        let shut : P false y.items = subst (λ f. P f y.items) e w.listed in record {
          sound = sound_shut y items e w.sound;
          outside = outside_items others y items e w.outside;
          listed = rw e shut;
          batches = w.batches;
        }

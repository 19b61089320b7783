-- What names a position knows neither key nor items; and an offer that stands where no segment is open names the end there.
use Rattle.std.specs.List.{AllByRecursion, Contains, list_any}
use Rattle.std.specs.Option.{option_map}
use Rattle.std.specs.Prelude.{◌&&◌, ◌+◌, if◌then◌else◌, nat_eq}
use Rattle.std.proofs.Common.{◌≡◌, ◌∙◌, ℕ, Bool, true, false, List, [], ◌∷◌, Option, Some, map, refl, sym, ap, subst}
use Rattle.std.proofs.lemmas.List.Elements.{All-contains, All-from_recursion}
use Rattle.mm_digest.specs.Messages.{start_digest_of, zero_bytes}
use Rattle.mm_digest.specs.declared.digest.Digest.{Digest}
use Rattle.mm_digest.specs.declared.variant.Variant.{Variant}
use Rattle.mm_digest.specs.declared.variant.Variant.TheVariants.{Basic, Opt}
use Rattle.mm_seal.specs.Cell.{FitsVariant}
use Rattle.mm_seal.specs.Snapshot.{Content}
use Rattle.mm_seal.specs.declared.snapshot.Place.{Place}
use Rattle.mm_seal.specs.declared.snapshot.Place.TheVariants.{Basic as InBasic, Opt as InOpt}
use Rattle.mm_platform.specs.Standing.{Item, Standing, item_values, register_after}
use Rattle.mm_module.specs.Batch.{Batch, One, size_of}
use Rattle.mm_module.specs.Meaning.{Meaning, state_after}
use Rattle.mm_model.specs.BatchLaws.{at_the_end}
use Rattle.mm_model.specs.Chains.{link_message, register_of, summary_of, trail, Instance, basic_instance, opt_instance}
use Rattle.mm_model.specs.ListLaws.{register_folds, same_summaries, trail_front}
use Rattle.mm_model.specs.History.{History, RegisterEntry, Value, extension_value, items_of_all, register_value_of, requests_of, total_of}
use Rattle.mm_model.specs.History.{cell_digest_of}
use Rattle.mm_model.specs.Standing.{Life, Live, has_value, life_of, IsPlaceOf, NamesPosition, issued_place, digest_of, flag_of}
use Rattle.mm_model.specs.Standing.{register_reading}
use Rattle.mm_model.specs.Messages.{AreMessagesIn, AreNoGuards, IsClear, counted_entries, history_messages, values_in, is_new}
use Rattle.mm_model.specs.Messages.{place_messages}
use Rattle.mm_model.specs.Verdicts.{forms_of, is_fresh_form, is_last, verdict_by, verdict_by_digests, verdict_by_tests}
use Rattle.mm_model.proofs.Above.{opt_issued, opt_stands_here, point_kept}
use Rattle.mm_call.specs.CallPremises.{IsLedTo, IsWithin}
use Rattle.mm_call.proofs.Above.{lives, within_items}
use Rattle.mm_move.specs.Orders.{barrier_of, is_place_at}
use Rattle.mm_move.specs.Tickets.{place_at}
use Rattle.mm_move.specs.declared.link.Link.{Link}
use Rattle.mm_move.proofs.Above.{bytes_tell}
use Rattle.mm_worlds.proofs.Between.{anchor_at}
use Rattle.mm_worlds.specs.Premises.{instance_at}

place_cross : (meaning : Meaning) (key other barrier : List ℕ) (y : History) (items : List RegisterEntry) (named : List Batch)
    (place : Place) → IsPlaceOf Opt (opt_instance meaning key barrier) y named place
    → IsPlaceOf Opt (opt_instance meaning other barrier) (record y { items = items }) named place
place_cross meaning key other barrier y items named (InBasic s) p = absurd p
place_cross meaning key other barrier y items named (InOpt a e) p =
    point_kept (opt_instance meaning key barrier) other y items named a.bytes e.bytes p

names_opt_cross : (meaning : Meaning) (key other barrier : List ℕ) (y : History) (items : List RegisterEntry) (content : Content)
    → NamesPosition (opt_instance meaning key barrier) y content
    → NamesPosition (opt_instance meaning other barrier) (record y { items = items }) content
names_opt_cross meaning key other barrier y items content n = record {
  named = n.named;
  rest = n.rest;
  first = n.first;
  position = n.position;
  state = n.state;
  place = place_cross meaning key other barrier y items n.named content.place n.place;
}

-- a register that others alone extended
values_back : (barrier : List ℕ) (values : List (List ℕ)) → map (extension_value barrier) (map Value values) ≡ values
values_back barrier [] = refl
values_back barrier (v ∷ values) = ap (λ (vs : List (List ℕ)). v ∷ vs) (values_back barrier values)

pub register_on : (i : Instance) (y : History) (standing : Standing) (items : List Item) → standing.items ≡ Some items
    → register_reading standing ≡ Some (register_value_of i (record y { items = map Value (item_values items) }))
register_on i y standing items told =
    ap (λ (xs : Option (List Item)). option_map (λ its. register_after (item_values its)) xs) told
    ∙ ap (λ (r : List ℕ). Some r) (register_folds (item_values items)
    ∙ ap (λ (vs : List (List ℕ)). register_of vs) (sym (values_back i.barrier (item_values items))))

-- in Opt no closed segment holds a value that stands for no batch
abbrev pub IsUnmarred : Variant → History → Type 0
IsUnmarred Basic y = Unit {0}
IsUnmarred Opt y = has_value (items_of_all y.closed) ≡ false

-- what names the end of a history
pub record IsAtEnd (i : Instance) (y : History) (content : Content) : Type 0 where
  pub position : content.position ≡ total_of y.batches
  pub state : content.state ≡ state_after i.meaning (requests_of y.batches)
  pub unmarred : IsUnmarred i.variant y

record IsNewAt (life : Life) (at : Bool) : Type 0 where
  life_is : life ≡ Live
  at_is : at ≡ true

new_live : (life : Life) (at repeat : Bool) → is_new (verdict_by_tests life at repeat) ≡ true → IsNewAt life at
new_live Live true repeat e = record { life_is = refl; at_is = refl }
new_live Live false true e = absurd (cc)
new_live Live false false e = absurd (cc)
new_live _ at repeat e = absurd (cc)

abbrev IsInOpt : Place → Type 0
IsInOpt (InOpt a e) = Unit {0}
IsInOpt place = ⊥

-- an offer at the anchor is fresh where no segment is open
fresh_new : (fresh repeat : Bool) → fresh ≡ true → is_new (verdict_by false fresh repeat) ≡ true
fresh_new true repeat e = refl
fresh_new false repeat e = absurd (cc)

anchor_new : (barrier register : List ℕ) (summary : Digest) (place : Place) (digest : List ℕ) (b : Batch)
    → IsInOpt place → summary.bytes ≡ digest → is_place_at summary place ≡ true
    → is_new (verdict_by_digests barrier false digest register place b) ≡ true
anchor_new barrier register summary (InBasic s) digest b opt e at = absurd opt
anchor_new barrier register summary (InOpt a x) digest b opt e at =
    fresh_new (list_any (is_fresh_form false digest register) (forms_of a.bytes x.bytes)) _
    (ap (λ (d : List ℕ). list_any (is_fresh_form false d zero_bytes) (forms_of a.bytes x.bytes)) (sym e) ∙ at)

no_guards : (barrier : List ℕ) (others : List (List ℕ)) (asked : List Batch) (values : List (List ℕ)) (batches : List Batch)
    → AreNoGuards barrier others asked → AllByRecursion (Contains others) values → AllByRecursion (Contains asked) batches
    → AreNoGuards barrier values batches
no_guards barrier others asked values batches apart hv hb d b cd cb =
    apart d b (All-contains (Contains others) values d (All-from_recursion (Contains others) values hv) cd)
    (All-contains (Contains asked) batches b (All-from_recursion (Contains asked) batches hb) cb)

module _ (meaning : Meaning) (key barrier : List ℕ) where
  abbrev I : Instance
  I = opt_instance meaning key barrier

  bare_listed : (all : List (List ℕ)) (y : History) (flag : Bool)
      → AreMessagesIn (history_messages I (record y { items = if flag then [] else [] })) all
      → AreMessagesIn (history_messages I (record y { items = [] })) all
  bare_listed all y true h = h
  bare_listed all y false h = h

  names_opt : (y : History) (named : List Batch) (place : Place) → IsPlaceOf Opt I y named place → IsInOpt place
  names_opt y named (InBasic s) p = absurd p
  names_opt y named (InOpt a e) p = tt

  module _ (all others : List (List ℕ)) (asked : List Batch) (clear : IsClear all) (apart : AreNoGuards barrier others asked)
      (y : History) (shut : y.is_open ≡ false) (within : IsWithin all others asked I y) where
    pub opt_at_end : (offered : Content) (summary : Digest) → NamesPosition I y offered → AreMessagesIn (place_messages offered.place) all
        → summary.bytes ≡ cell_digest_of I Opt y → is_place_at summary offered.place ≡ true → IsAtEnd I y offered
    opt_at_end offered summary n listed is at =
        let z : History = record y { items = [] } in
        let v = within_items meaning key barrier all others asked y [] shut within in
        let same = opt_stands_here meaning key barrier z offered (One []) all v.sound clear (bare_listed all y y.is_open v.listed) listed
        (no_guards barrier others asked (values_in (counted_entries z)) z.batches apart v.outside v.batches)
        (names_opt_cross meaning key key barrier y [] offered n) in
        let new : is_new (verdict_by_digests barrier y.is_open (cell_digest_of I Opt z) (register_value_of I z) offered.place (One []))
        ≡ true =
        ap (λ (f : Bool). is_new (verdict_by_digests barrier f (cell_digest_of I Opt z) (register_value_of I z) offered.place (One [])))
        shut ∙ anchor_new barrier (register_value_of I z) summary offered.place (cell_digest_of I Opt z) (One [])
        (names_opt y n.named offered.place n.place) is at in
        let t = new_live (life_of Opt z) (nat_eq offered.position (total_of y.batches))
        (nat_eq (offered.position + size_of (One [])) (total_of y.batches) && is_last y.batches (One [])) (sym same ∙ new) in
        let whole : n.named ≡ y.batches =
        (at_the_end y.batches n.named n.rest n.first).0
        (ap (λ (p : ℕ). nat_eq p (total_of y.batches)) (sym n.position) ∙ t.at_is) in
        record {
          position = n.position ∙ ap total_of whole;
          state = n.state ∙ ap (λ (bs : List Batch). state_after meaning (requests_of bs)) whole;
          unmarred = (lives z t.life_is).clean;
        }

    -- what says so at the anchor names the end too
    end_named : (offered said : Content) (summary : Digest) → NamesPosition I y offered
        → AreMessagesIn (place_messages offered.place) all → summary.bytes ≡ cell_digest_of I Opt y
        → is_place_at summary offered.place ≡ true → said.position ≡ offered.position → said.state ≡ offered.state
        → said.place ≡ InOpt summary (record { bytes = zero_bytes }) → NamesPosition I y said
    end_named offered said summary n listed is at position state place =
        let e = opt_at_end offered summary n listed is at in
        let m = opt_issued meaning key barrier y within.sound e.unmarred in
        let here : issued_place Opt y.is_open I y ≡ said.place =
        ap (λ (f : Bool). issued_place Opt f I y) shut
        ∙ ap (λ (d : List ℕ). InOpt (digest_of d) (digest_of zero_bytes)) (sym is) ∙ sym place in
        record {
          named = m.named;
          rest = m.rest;
          first = m.first;
          position = position ∙ e.position ∙ m.position;
          state = state ∙ e.state ∙ m.state;
          place = subst (λ (p : Place). IsPlaceOf Opt I y m.named p) here m.place;
        }

-- So it is of both variants.

at_place : (meaning : Meaning) (key : List ℕ) (y : History) (named : List Batch) (summary : Digest) (place : Place)
    → IsPlaceOf Basic (basic_instance meaning key) y named place → is_place_at summary place ≡ true
    → summary.bytes ≡ summary_of meaning.id named
at_place meaning key y named summary (InBasic s) h at = sym (bytes_tell s.bytes summary.bytes at) ∙ h
at_place meaning key y named summary (InOpt a e) h at = absurd h

place_alike : (variant : Variant) (meaning : Meaning) (link : Link) (key other : List ℕ) (y : History) (items : List RegisterEntry)
    (named : List Batch) (place : Place) → IsPlaceOf variant (instance_at variant meaning link key) y named place
    → IsPlaceOf variant (instance_at variant meaning link other) (record y { items = items }) named place
place_alike Basic meaning link key other y items named (InBasic s) p = p
place_alike Basic meaning link key other y items named (InOpt a e) p = absurd p
place_alike Opt meaning link key other y items named place p = place_cross meaning key other link.barrier y items named place p

module _ (variant : Variant) (meaning : Meaning) (link : Link) where
  pub names_cross : (key other : List ℕ) (y : History) (items : List RegisterEntry) (content : Content)
      → NamesPosition (instance_at variant meaning link key) y content
      → NamesPosition (instance_at variant meaning link other) (record y { items = items }) content
  names_cross key other y items content n = record {
    named = n.named;
    rest = n.rest;
    first = n.first;
    position = n.position;
    state = n.state;
    place = place_alike variant meaning link key other y items n.named content.place n.place;
  }

  pub names_key : (key other : List ℕ) (y : History) (content : Content) → NamesPosition (instance_at variant meaning link key) y content
      → NamesPosition (instance_at variant meaning link other) y content
  names_key key other y content n = names_cross key other y y.items content n

-- no key is in what is asked of a history, nor in its summary or anchor
pub within_key : (variant : Variant) (meaning : Meaning) (link : Link) (key other : List ℕ) (all others : List (List ℕ))
    (asked : List Batch) (y : History) → IsWithin all others asked (instance_at variant meaning link key) y
    → IsWithin all others asked (instance_at variant meaning link other) y
within_key Basic meaning link key other all others asked y w =
    record { sound = w.sound; outside = w.outside; listed = w.listed; batches = w.batches }
within_key Opt meaning link key other all others asked y w =
    record { sound = w.sound; outside = w.outside; listed = w.listed; batches = w.batches }

pub digest_at : (variant : Variant) (meaning : Meaning) (link : Link) (key : List ℕ) (y : History) (items : List RegisterEntry)
    → cell_digest_of (instance_at variant meaning link key) variant (record y { items = items }) ≡ anchor_at variant meaning link y
digest_at Basic meaning link key y items = refl
digest_at Opt meaning link key y items = refl

-- a cell without the flag is of a history without an open segment
pub shut_by : (variant : Variant) (y : History) → IsLedTo variant y → flag_of variant y ≡ false → y.is_open ≡ false
shut_by Basic y sound e = sound.shut
shut_by Opt y sound e = e

pub flag_shut : (variant : Variant) (y : History) → y.is_open ≡ false → flag_of variant y ≡ false
flag_shut Basic y e = refl
flag_shut Opt y e = e

pub fits_shut : (variant : Variant) (link : Link) (flag : Bool) → flag ≡ false → FitsVariant variant flag (barrier_of variant link)
fits_shut Basic link flag e = (e, refl)
fits_shut Opt link flag e = tt

-- what says so at the summary or anchor names the end too
pub names_end : (variant : Variant) (meaning : Meaning) (link : Link) (all others : List (List ℕ)) (asked : List Batch) → IsClear all
    → AreNoGuards (barrier_of variant link) others asked → (y : History) → y.is_open ≡ false
    → IsWithin all others asked (instance_at variant meaning link link.key) y → (offered said : Content) (summary : Digest)
    → NamesPosition (instance_at variant meaning link link.key) y offered → AreMessagesIn (place_messages offered.place) all
    → summary.bytes ≡ anchor_at variant meaning link y → is_place_at summary offered.place ≡ true → said.position ≡ offered.position
    → said.state ≡ offered.state → said.place ≡ place_at variant summary
    → NamesPosition (instance_at variant meaning link link.key) y said
names_end Basic meaning link all others asked clear apart y shut within offered said summary n listed is at position state place =
    record {
      named = n.named;
      rest = n.rest;
      first = n.first;
      position = position ∙ n.position;
      state = state ∙ n.state;
      place = subst (λ (p : Place). IsPlaceOf Basic (basic_instance meaning link.key) y n.named p) (sym place)
          (at_place meaning link.key y n.named summary offered.place n.place at);
    }
names_end Opt meaning link all others asked clear apart y shut within offered said summary n listed is at position state place =
    end_named meaning link.key link.barrier all others asked clear apart y shut within offered said summary n listed is at position state
    place

-- and what an offer says there is the end
pub at_end : (variant : Variant) (meaning : Meaning) (link : Link) (all others : List (List ℕ)) (asked : List Batch) → IsClear all
    → AreNoGuards (barrier_of variant link) others asked → (y : History) → y.is_open ≡ false
    → IsWithin all others asked (instance_at variant meaning link link.key) y → (offered : Content) (summary : Digest)
    → NamesPosition (instance_at variant meaning link link.key) y offered → AreMessagesIn (place_messages offered.place) all
    → summary.bytes ≡ anchor_at variant meaning link y → is_place_at summary offered.place ≡ true
    → IsAtEnd (instance_at variant meaning link link.key) y offered
at_end Basic meaning link all others asked clear apart y shut within offered summary n listed is at =
    let front = trail_front link_message (start_digest_of Basic meaning.id) n.named n.rest all
    (subst (λ (bs : List Batch). AreMessagesIn (trail link_message (start_digest_of Basic meaning.id) bs) all) n.first within.listed.1) in
    let whole : n.named ≡ y.batches =
    same_summaries meaning.id all clear within.listed.0 n.named y.batches front within.listed.1
    (sym (at_place meaning link.key y n.named summary offered.place n.place at) ∙ is) in
    record {
      position = n.position ∙ ap total_of whole;
      state = n.state ∙ ap (λ (bs : List Batch). state_after meaning (requests_of bs)) whole;
      unmarred = tt;
    }
at_end Opt meaning link all others asked clear apart y shut within offered summary n listed is at =
    opt_at_end meaning link.key link.barrier all others asked clear apart y shut within offered summary n listed is at

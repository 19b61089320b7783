-- What one call for a request comes to by lists, in either variant. With it: what slots hold.
use Rattle.mm_module.specs.RunLaws.{state_after-is_spelled}
use Rattle.mm_call.specs.CallPremises.{standing_items}
use Rattle.mm_call.specs.WalkLaws.{GoesAlong, EachMove, walk_along, made-append}
use Rattle.mm_recovery.specs.SlotLaws.{FitsWith, MayCome, KeepsFitting, FittingAreGenuine, StaysGenuine, FirstStartsCanGoOn}
use Rattle.mm_recovery.proofs.Below.{◌≡◌, ◌≤◌, ℕ, Bool, false, List, refl, sym, last_position, Variant, Basic, Opt, Meaning, IsLawful}
use Rattle.mm_recovery.proofs.Below.{IsContent, variant_of, Instance, basic_instance, opt_instance, History, items_of_all, requests_of}
use Rattle.mm_recovery.proofs.Below.{total_of, has_value, NamesPosition, content_of_issue, issued_place, IsSound, issued_bytes}
use Rattle.mm_recovery.proofs.Below.{basic_issued, opt_issued, basic_content, opt_content, IsSnapshotAt, ◌-◌, ◌%◌, length, take, ap, ◌∙◌}
use Rattle.mm_recovery.proofs.Below.{arith, inl, inr, ◌⊎◌, take_all, PendingRecord, Slots, longest_slot, slots_with, slot_front}
use Rattle.mm_recovery.proofs.Below.{longest_slot-is, slot_in-with_slot, offer_slot, [], ◌∷◌, Option, None, Some, subst, Contains}
use Rattle.mm_recovery.proofs.Below.{start_message, Content, Move, history_after, IsGenuine, basic_names, opt_names, has_commit}
use Rattle.mm_recovery.proofs.Below.{instance_by, first_offer, FitsBy, instance_from, first_history_on, first_slots, IsFirstStore}
use Rattle.mm_recovery.proofs.Below.{IsAskedFor, ◌≢◌, ◌++◌, Result, Ok, Err, Item, Standing, StepFault, Batch, One, Commit, Life, LostLife}
use Rattle.mm_recovery.proofs.Below.{life_of, digests_of, StandsFor, BatchAnswer, Refusal, Memory, IsAsked, IsWithin, call_outcome}
use Rattle.mm_recovery.proofs.Below.{result_of_ending, CallContinues, IsCallOnCourse, Course, finding_at, list_level, digest_level}
use Rattle.mm_recovery.proofs.Below.{AreAsked, AreShown, IsIdle, fault_of, stands_at, bare, asked_for, asked_idle, basic_asked, names_made}
use Rattle.mm_recovery.proofs.Below.{basic_comes, comes, HistoryGrows, Alike, alike_call, names_after, answered_clean_as, IsRefusedAs, true}
use Rattle.mm_recovery.proofs.Below.{map, guard, RegisterEntry, Value, Foreign, Reset, history_after_commit, entries_with_last_batch}
use Rattle.mm_recovery.proofs.Below.{are_own, is_empty, life_by, IsAllowed, ask_steps, CallFinding, finding_unless_wanting, is_fresh}
use Rattle.mm_recovery.proofs.Below.{state_after_moves, before, AllMay, ask_may}
use Rattle.mm_recovery.proofs.Refusing.{awaited_then, genuine_by, holds_on, grows, MayRefuse, IsOffered, offered_then, found_refused}
use Rattle.mm_recovery.proofs.Refusing.{has_room, keeps_refused, judged_refused}

-- What slots hold: what a history issues names its end, and a snapshot fits; and slots that fit go on to fit.

-- What the history issues has its sizes, and names its end.
pub record IsIssued (i : Instance) (y : History) : Type 0 where
  pub formed : total_of y.batches ≤ last_position → IsContent (content_of_issue i y)
  pub names : NamesPosition i y (content_of_issue i y)

pub issued_in_basic : (meaning : Meaning) → IsLawful meaning → (key : List ℕ) (y : History) → IsIssued (basic_instance meaning key) y
issued_in_basic meaning lawful key y =
    record { formed = basic_content meaning lawful key y; names = basic_issued meaning key y }

pub issued_in_opt : (meaning : Meaning) → IsLawful meaning → (key barrier : List ℕ) (y : History) → IsSound y
    → has_value (items_of_all y.closed) ≡ false → IsIssued (opt_instance meaning key barrier) y
issued_in_opt meaning lawful key barrier y sound clean =
    record { formed = opt_content meaning lawful key barrier y; names = opt_issued meaning key barrier y sound clean }

placed_as : (variant : Variant) (flag : Bool) (i : Instance) (y : History) → variant_of (issued_place variant flag i y) ≡ variant
placed_as variant flag i y = grind arith

pub holds_issued : (i : Instance) → IsLawful i.meaning → (y : History) (bytes : List ℕ) (position : ℕ) → IsIssued i y
    → total_of y.batches ≤ last_position → bytes ≡ issued_bytes i y → position ≡ total_of y.batches → IsSnapshotAt i y bytes position
holds_issued i lawful y bytes position issues fits is at = record {
  content = content_of_issue i y;
  right = record {
    formed = issues.formed fits;
    sealed = is;
    variant = placed_as i.variant y.is_open i y;
    id = refl;
    state = state_after-is_spelled i.meaning lawful (requests_of y.batches);
  };
  names = issues.names;
  at = sym at;
}

-- the longest snapshot fits a slot
pub fits_slot : (size limit : ℕ) → size ≤ 1048690 → limit ≡ 1100000 → size ≤ limit
fits_slot size limit h e = omega (arith, h, e)

-- so a slot shows the snapshot that was put there
pub seen_put : (slots : Slots) (n : ℕ) (bytes : List ℕ) → length bytes ≤ 1048690 → slot_front (slots_with slots n bytes) n ≡ bytes
seen_put slots n bytes h =
    ap (λ (x : List ℕ). take longest_slot x) (slot_in-with_slot slots n bytes)
    ∙ take_all longest_slot bytes (fits_slot (length bytes) longest_slot h longest_slot-is)

-- the slots of records, and that of the offer, are as before
pub record IsElsewhere (slots other : Slots) (p : PendingRecord) : Type 0 where
  pub two : slot_front other 2 ≡ slot_front slots 2
  pub three : slot_front other 3 ≡ slot_front slots 3
  pub offer : slot_front other (offer_slot p) ≡ slot_front slots (offer_slot p)

pub elsewhere_same : (slots : Slots) (p : PendingRecord) → IsElsewhere slots slots p
elsewhere_same slots p = record { two = refl; three = refl; offer = refl }

-- a position and the one before it take turns
turns : (n m : ℕ) → n ≡ m → 1 ≤ m → ((n % 2 ≡ 0) × ((m - 1) % 2 ≡ 1)) ⊎ ((n % 2 ≡ 1) × ((m - 1) % 2 ≡ 0))
turns n m e h = grind (arith, e, h)

pub elsewhere_put : (slots : Slots) (p : PendingRecord) (n : ℕ) (bytes : List ℕ) → n ≡ p.position → 1 ≤ p.position
    → IsElsewhere slots (slots_with slots (n % 2) bytes) p
elsewhere_put slots p n bytes e h = elim (turns n p.position e h) [
  | inl t ↦ record { two = rw t.0 refl; three = rw t.0 refl; offer = rw (t.0, t.1) refl }
  | inr t ↦ record { two = rw t.0 refl; three = rw t.0 refl; offer = rw (t.0, t.1) refl }
]

-- Slots that fit go on to fit, and the first ones do.

same_batches : (i : Instance) (y : History) (m : Move) → has_commit (m ∷ []) ≡ false → (history_after i y m).batches ≡ y.batches
same_batches i y m e = grind (arith, e)

module _ (i : Instance) (slots : Slots) (y z : History) (same : z.batches ≡ y.batches)
    (names : (content : Content) → NamesPosition i y content → NamesPosition i z content) where
  pub fits_on : (waiting : Option PendingRecord) → FitsBy i slots y waiting → FitsBy i slots z waiting
  fits_on None f = (ap total_of same ∙ f.0, holds_on i y z names (slot_front slots 0) 0 f.1)
  fits_on (Some p) f = (awaited_then y z p same f.0, holds_on i y z names (slot_front slots (offer_slot p)) _ f.1)

  fits_with : (waiting : Option PendingRecord) → FitsWith i slots y waiting → FitsWith i slots z waiting
  fits_with waiting f =
      let on = fits_on f.fits.waiting f.fits.fits in
      record { fits = record { waiting = f.fits.waiting; is_waiting = f.fits.is_waiting; fits = on }; waits = f.waits }

names_on : (variant : Variant) (meaning : Meaning) (key barrier : List ℕ) (y : History) (m : Move)
    → (let i = instance_by variant meaning key barrier in MayCome variant i y m → (content : Content) → NamesPosition i y content
    → NamesPosition i (history_after i y m) content)
names_on Basic meaning key barrier y m may content n = basic_names meaning key y m content n
names_on Opt meaning key barrier y m may content n = opt_names meaning key barrier y m content may.0 may.1 n

pub keeps_fitting : KeepsFitting
keeps_fitting variant meaning key barrier y m slots waiting may none f =
    let i : Instance = instance_by variant meaning key barrier in
    fits_with i slots y (history_after i y m) (same_batches i y m none) (names_on variant meaning key barrier y m may) waiting f

pub stays_genuine : StaysGenuine
stays_genuine variant meaning key barrier y m offer may genuine =
    λ content right. names_on variant meaning key barrier y m may content (genuine content right)

-- what is offered first
first_genuine : (i : Instance) (y : History) (slots : Slots) (waiting : Option PendingRecord) → FitsBy i slots y waiting
    → IsGenuine i y (first_offer slots waiting)
first_genuine i y slots None f = genuine_by i y (slot_front slots 0) 0 f.1
first_genuine i y slots (Some p) f = genuine_by i y (slot_front slots (offer_slot p)) _ f.1

pub fitting_are_genuine : FittingAreGenuine
fitting_are_genuine i y slots fits = first_genuine i y slots fits.waiting fits.fits

-- the start message of an instance
of_instance : (variant : Variant) (meaning : Meaning) (key barrier : List ℕ) (all : List (List ℕ))
    → Contains all (start_message variant meaning.id)
    → Contains all (start_message (instance_by variant meaning key barrier).variant (instance_by variant meaning key barrier).meaning.id)
of_instance variant meaning key barrier all h = grind (arith, h)

pub first_starts_can_go_on : FirstStartsCanGoOn
first_starts_can_go_on variant meaning before after begun cell slots values all others asked told shows honest holds clear apart start =
    let i : Instance = instance_from variant meaning begun.secrets in
    let f : IsFirstStore i (first_history_on values) = begun.first values in
    record {
      can = record {
        honest = begun.honest ∙ honest;
        told = begun.stores slots honest holds;
        stands = begun.stands cell values told shows;
        fits = f.fits;
        clear = clear;
        apart = apart;
        within = f.within all others asked (of_instance variant meaning _ _ all start);
        is_asked = subst (λ (w : Option PendingRecord). IsAskedFor all asked i (first_slots i) w) (sym f.nothing_waits) tt;
      };
      nothing_waits = f.nothing_waits;
    }

-- What one call for a request comes to by lists, in either variant.

-- while a segment is open the register isn't empty
abbrev IsPowered : History → Type 0
IsPowered y = y.is_open ≡ true → is_empty y.items ≡ false

pushed_items : (items : List RegisterEntry) (x : RegisterEntry) → is_empty (items ++ x ∷ []) ≡ false
pushed_items [] x = refl
pushed_items (y ∷ items) x = refl

renamed_items : (items : List RegisterEntry) (b : Batch) → is_empty (entries_with_last_batch items b) ≡ false
renamed_items [] b = refl
renamed_items (x ∷ []) b = refl
renamed_items (x ∷ y ∷ items) b = refl

committed_items : (flag : Bool) (y : History) (b : Batch) → is_empty (history_after_commit Opt flag y b).items ≡ false
committed_items flag y b = grind (arith, pushed_items, renamed_items)

pub not_lost : (flag bare own marred : Bool) → (flag ≡ true → bare ≡ false) → life_by flag bare own marred ≢ LostLife
not_lost flag bare own marred h = grind (arith, h)

pub was_powered : (flag bare own marred : Bool) → life_by flag bare own marred ≢ LostLife → flag ≡ true → bare ≡ false
was_powered flag bare own marred h e = grind (arith, h, e)

module _ (meaning : Meaning) (key barrier : List ℕ) where
  abbrev I : Instance
  I = opt_instance meaning key barrier

  -- moves that may be made keep the register so
  abbrev KeepsPower : List Move → Type 0
  KeepsPower moves = (y : History) → AllMay I y moves → IsPowered y → IsPowered (state_after_moves (list_level I) y moves)

  may_split : (xs ys : List Move) (y : History) → AllMay I y (xs ++ ys)
      → AllMay I y xs × AllMay I (state_after_moves (list_level I) y xs) ys
  may_split [] ys y may = (tt, may)
  may_split (x ∷ xs) ys y may = let rest = may_split xs ys (history_after I y x) may.1 in ((may.0, rest.0), rest.1)

  foreign_powered : (values : List (List ℕ)) → KeepsPower (map Foreign values)
  foreign_powered [] y may h = h
  foreign_powered (v ∷ values) y may h = foreign_powered values (history_after I y (Foreign v)) may.1 (λ _. pushed_items y.items (Value v))

  power_along : GoesAlong KeepsPower
  power_along = record {
    more = λ xs ys first then_more y may h.
        let both = may_split xs ys y may in
        rw (made-append (list_level I) xs ys y) (then_more (state_after_moves (list_level I) y xs) both.1 (first y both.0 h));
    others = foreign_powered;
  }

  asks_powered : (flag fresh : Bool) (b : Batch) → EachMove KeepsPower (ask_steps Opt flag fresh b)
  asks_powered true true b = (λ y may h _. committed_items y.is_open y b, tt)
  asks_powered false true b = (
    λ y may h is. absurd (subst (λ (f : Bool). IsAllowed Opt f I y Reset) is may.0),
    (λ y may h _. pushed_items y.items (Value (guard barrier b)), (λ y may h _. committed_items y.is_open y b, tt)),
  )
  asks_powered flag false b = tt

  pub stays_powered : (y : History) (c : Course) (offer : List ℕ) (b : Batch) → life_of Opt y ≢ LostLife
      → life_of Opt (call_outcome I (list_level I) y c offer b).state ≢ LostLife
  stays_powered y c offer b h =
      let found : Result CallFinding Refusal =
      finding_unless_wanting (finding_at I (list_level I) (state_after_moves (list_level I) y (before c)) b offer) c.lacks
      in
      let end : History = (call_outcome I (list_level I) y c offer b).state in
      not_lost end.is_open (is_empty end.items) (are_own end.items end.current) (has_value (items_of_all end.closed))
      (walk_along KeepsPower power_along c.fates 1 (ask_steps Opt y.is_open (is_fresh found) b) (asks_powered y.is_open (is_fresh found) b)
      y (ask_may meaning key barrier y c offer b)
      (was_powered y.is_open (is_empty y.items) (are_own y.items y.current) (has_value (items_of_all y.closed)) h))

-- Two histories are the same but for others' values.
abbrev pub IsSame : Variant → History → History → Type 0
IsSame Basic y z = y.batches ≡ z.batches
IsSame Opt y z = bare y ≡ bare z

-- It grew by the request that waits, or by nothing.
abbrev pub IsGrownBy : Instance → History → Option PendingRecord → History → Type 0
IsGrownBy i y waiting after =
    IsSame i.variant after y
    ⊎ ((p : PendingRecord) × (waiting ≡ Some p) × IsSame i.variant after (history_after i y (Commit (One p.request))))

basic_grown : (meaning : Meaning) (key : List ℕ) (y after : History) (p : PendingRecord)
    → (after.batches ≡ y.batches) ⊎ (after.batches ≡ y.batches ++ One p.request ∷ [])
    → IsGrownBy (basic_instance meaning key) y (Some p) after
basic_grown meaning key y after p h = grind (arith, h)

pub opt_grown : (meaning : Meaning) (key barrier : List ℕ) (y after : History) (p : PendingRecord)
    → Alike meaning key barrier y (One p.request) after → IsGrownBy (opt_instance meaning key barrier) y (Some p) after
opt_grown meaning key barrier y after p h = grind (arith, h)

-- what one call for a request comes to by lists, whatever is offered that names a position where it is right
pub record Met (all others : List (List ℕ)) (asked : List Batch) (i : Instance) (y : History) (standing : Standing) (offer : List ℕ)
    (p : PendingRecord) (gives : Result BatchAnswer Refusal) : Type 0 where
  pub after : History
  pub stands : StandsFor i standing after
  pub within : IsWithin all others asked i after
  pub names : (content : Content) → NamesPosition i y content → NamesPosition i after content
  pub comes : HistoryGrows i y offer (One p.request) after gives
  pub only : (why : Refusal) → gives ≡ Err why → fault_of why ≡ None → after.batches ≡ y.batches
  pub judged : (why : Refusal) → gives ≡ Err why → fault_of why ≡ None
      → (why ≡ Memory) ⊎ (finding_at i (list_level i) after (One p.request) offer ≡ Err why)
  pub issues : (answer : BatchAnswer) → gives ≡ Ok answer → IsIssued i after
  pub grown : IsGrownBy i y (Some p) after
  pub room : (after.batches ≡ y.batches) ⊎ (total_of after.batches ≤ last_position)
  pub powered : life_of i.variant y ≢ LostLife → life_of i.variant after ≢ LostLife

faulted : (why : Refusal) (life : Life) (broken : StepFault) → fault_of why ≡ Some broken → IsRefusedAs why life
faulted why end broken has = grind (arith, has)

module _ (all others : List (List ℕ)) (asked : List Batch) (i : Instance) (y : History) (standing : Standing) (offer : List ℕ)
    (p : PendingRecord) (gives : Result BatchAnswer Refusal) where
  abbrev pub called_of : (m : Met all others asked i y standing offer p gives)
      → ((why : Refusal) → gives ≡ Err why → MayRefuse why (life_of i.variant m.after)) → Met all others asked i y standing offer p gives
  called_of m refuses = m

  -- where that is awaited, and the snapshot before it is offered
  pub refused_by : (m : Met all others asked i y standing offer p gives) → IsOffered i y p offer → (why : Refusal) → gives ≡ Err why
      → (broken : Option StepFault) → fault_of why ≡ broken → MayRefuse why (life_of i.variant m.after)
  refused_by m f why e (Some broken) has = inr (faulted why (life_of i.variant m.after) broken has)
  refused_by m f why e None none = elim (m.judged why e none) [
    | inl memory ↦ inl memory
    | inr found ↦ inr (found_refused i m.after p offer (offered_then i y m.after p offer (m.only why e none) f) why found)
  ]

  -- what each variant knows of its call
  met_by : (c : Course)
      → (let o = call_outcome i (list_level i) y c offer (One p.request) in CallContinues all others asked i o standing gives
      → ((content : Content) → NamesPosition i y content → NamesPosition i o.state content)
      → HistoryGrows i y offer (One p.request) o.state (result_of_ending o.ending)
      → ((answer : BatchAnswer) → result_of_ending o.ending ≡ Ok answer → IsIssued i o.state) → IsGrownBy i y (Some p) o.state
      → (life_of i.variant y ≢ LostLife → life_of i.variant o.state ≢ LostLife)
      → Met all others asked i y standing offer p gives)
  met_by c k names comes issues grown powered =
      let o = call_outcome i (list_level i) y c offer (One p.request) in
      rw k.gives (record {
        after = o.state;
        stands = k.stands;
        within = k.within;
        names = names;
        comes = comes;
        only = λ why e none. keeps_refused i y c (One p.request) offer why e none;
        judged = λ why e none. judged_refused (list_level i) i y c (One p.request) offer why e none;
        issues = issues;
        grown = grown;
        room = has_room i y c p.request offer;
        powered = powered;
      })

module _ (meaning : Meaning) (lawful : IsLawful meaning) (key : List ℕ) (all others : List (List ℕ)) (asked : List Batch) (y : History)
    (old new : Standing) (offer : List ℕ) (p : PendingRecord) (gives : Result BatchAnswer Refusal)
    (c : IsCallOnCourse Basic meaning old new offer (One p.request) gives) (s : StandsFor (basic_instance meaning key) old y)
    (a : AreAsked all others asked (basic_instance meaning key) y offer (One p.request)) where
  pub basic_met : Met all others asked (basic_instance meaning key) y new offer p gives
  basic_met =
      let i : Instance = basic_instance meaning key in
      let o = call_outcome i (list_level i) y c.course offer (One p.request) in
      let come = basic_comes meaning key all others asked y c.course offer (One p.request) a in
      met_by all others asked i y new offer p gives c.course
      (c.continues key key y all others asked s (basic_asked meaning key all others asked y c.course offer (One p.request) a))
      (names_made meaning key o.moves y) come (λ answer e. issued_in_basic meaning lawful key o.state)
      (basic_grown meaning key y o.state p (grows i y p offer o.state (result_of_ending o.ending) come)) (λ h e. cc)

  pub basic_called : IsOffered (basic_instance meaning key) y p offer → Met all others asked (basic_instance meaning key) y
      new offer p gives
  basic_called f = basic_met

-- what is asked of the moves of a call is known by the register's items, or the call is idle
module _ (meaning : Meaning) (lawful : IsLawful meaning) (key barrier : List ℕ) (all others : List (List ℕ)) (asked : List Batch)
    (y : History) (old new : Standing) (offer : List ℕ) (p : PendingRecord) (gives : Result BatchAnswer Refusal)
    (c : IsCallOnCourse Opt meaning old new offer (One p.request) gives) (s : StandsFor (opt_instance meaning key barrier) old y)
    (a : AreAsked all others asked (opt_instance meaning key barrier) y offer (One p.request)) where
  opt_met_by : IsAsked all others asked (opt_instance meaning key barrier) y
      (call_outcome (opt_instance meaning key barrier) (digest_level (opt_instance meaning key barrier))
      (digests_of (opt_instance meaning key barrier) y) c.course offer
      (One p.request)).moves offer (One p.request)
      → Met all others asked (opt_instance meaning key barrier) y new offer p gives
  opt_met_by is_asked =
      let i : Instance = opt_instance meaning key barrier in
      let o = call_outcome i (list_level i) y c.course offer (One p.request) in
      let k = c.continues key barrier y all others asked s is_asked in
      let alike : Alike meaning key barrier y (One p.request) o.state = alike_call meaning key barrier y c.course offer (One p.request) in
      met_by all others asked i y new offer p gives c.course k
      (λ content n. names_after meaning key barrier y o.state (One p.request) content a.within.sound k.within.sound alike n)
      (comes meaning key barrier all others asked y c.course offer (One p.request) a)
      (λ answer e. issued_in_opt meaning lawful key barrier o.state k.within.sound
      (answered_clean_as meaning key barrier all others asked y old new offer p.request gives c a answer (k.gives ∙ e) k.gives alike))
      (opt_grown meaning key barrier y o.state p alike) (stays_powered meaning key barrier y c.course offer (One p.request))

  pub opt_met : (items more : List Item) → old.items ≡ Some items → new.items ≡ Some (standing_items y.is_open items ++ more)
      → ((IsIdle (opt_instance meaning key barrier) y offer (One p.request) → ⊥)
      → AreShown all others (opt_instance meaning key barrier) y more)
      → Met all others asked (opt_instance meaning key barrier) y new offer p gives
  opt_met items more known ends shown_so =
      let i : Instance = opt_instance meaning key barrier in
      let g = c.goes key barrier (digests_of i y) (stands_at i old y s) in
      opt_met_by
      (asked_for meaning key barrier all others asked y c.course offer (One p.request) old new items more a shown_so known g.items ends)

  pub opt_met_idle : IsIdle (opt_instance meaning key barrier) y offer (One p.request)
      → Met all others asked (opt_instance meaning key barrier) y new offer p gives
  opt_met_idle idle = opt_met_by (asked_idle meaning key barrier all others asked y c.course offer (One p.request) a idle)

  pub opt_called : (items more : List Item) → old.items ≡ Some items → new.items ≡ Some (standing_items y.is_open items ++ more)
      → ((IsIdle (opt_instance meaning key barrier) y offer (One p.request) → ⊥)
      → AreShown all others (opt_instance meaning key barrier) y more)
      → IsOffered (opt_instance meaning key barrier) y p offer → Met all others asked (opt_instance meaning key barrier) y new offer p gives
  opt_called items more known ends shown_so f = opt_met items more known ends shown_so

-- Every exit of a recovery leaves slots that fit the history.
use Rattle.mm_recovery.proofs.Below.{arith, ◌≡◌, ℕ, ◌-◌, ◌%◌, true, List, Option, None, Some, Result, Ok, Err, refl, sym, ap, ◌∙◌, subst}
use Rattle.mm_recovery.proofs.Below.{inl, ◌≤◌, IfOk, ◌⊎◌, Variant, Basic, Opt, Standing, Meaning, IsLawful, Batch, One, Instance}
use Rattle.mm_recovery.proofs.Below.{basic_instance, opt_instance, inr, History, total_of, StandsFor, Answer, BatchAnswer, life_of, Refusal}
use Rattle.mm_recovery.proofs.Below.{batch_answer_of, batch_result_of, AreAsked, fault_of, StepFault, StoreFault, ReadsSlot, WritesSlot}
use Rattle.mm_recovery.proofs.Below.{slots_with_bytes, StoreStanding, PendingRecord, Slots, slot_front, slots_with, last_position, IsFit}
use Rattle.mm_recovery.proofs.Below.{HostFault, Resumed, Start, store_fault_as, refusal_fault, IsWaiting, result_of_start, result_of_keep}
use Rattle.mm_recovery.proofs.Below.{HostGoesAfterAsk, HostGoesAfterOffer, HostGoesAfterFinding, HostResumes, IsCall, offer_slot}
use Rattle.mm_recovery.proofs.Below.{IsSnapshotAt, FitsBy, IsAskedFor, AnswersAt, CanRecover, IsGrown, AsksIdly, ResumeComesTo}
use Rattle.mm_recovery.proofs.Below.{RequestMayBeCommitted, HostRecovers, RecoversTo, one_reading, HostGoesAfterTwo, HostGoesAfterThree}
use Rattle.mm_recovery.proofs.Below.{FitsHistory, IsWithin, HostStanding, host_standing}
use Rattle.mm_recovery.specs.HostStanding.{position_at, snapshot_at}
use Rattle.mm_recovery.specs.declared.resuming.Resumed.TheVariants.{Answered}
use Rattle.mm_recovery.proofs.Meeting.{IsElsewhere, elsewhere_same, elsewhere_put, seen_put, holds_issued, Met, basic_met, opt_met}
use Rattle.mm_recovery.proofs.Meeting.{refused_by}
use Rattle.mm_recovery.proofs.Refusing.{holds_on, IsOffered, MayRefuse, waiting_most, awaited_least, still_awaited, grows, genuine_by}
use Rattle.mm_recovery.proofs.Refusing.{answered_at}
use Rattle.mm_recovery.proofs.Exits.{by_refusal}
use Rattle.mm_store.specs.declared.fault.StoreFault.TheVariants as fault

-- one request waits in the slots' bytes
pub one_waiting : (two three : List ℕ) (v w : Option PendingRecord) → IsWaiting two three v → IsWaiting two three w → v ≡ w
one_waiting two three v w a b =
    a.is ∙ rw (
      one_reading 2 two a.in_two b.in_two a.reads_two b.reads_two,
      one_reading 3 three a.in_three b.in_three a.reads_three b.reads_three,
    ) (sym b.is)

-- what a finding saw, over a store that tells its slots
pub record Saw (slots : Slots) (old new : StoreStanding) (result : Result (Option PendingRecord) StoreFault) : Type 0 where
  pub told : new.slots ≡ Some slots
  pub honest : new.is_honest ≡ old.is_honest
  pub waiting : (w : Option PendingRecord) → result ≡ Ok w → IsWaiting (slot_front slots 2) (slot_front slots 3) w

took : (two three : List ℕ) (result : Result (Option PendingRecord) StoreFault) (taken w : Option PendingRecord) → IsWaiting two three taken
    → (result ≡ Ok taken) ⊎ (result ≡ Err fault.Memory) → result ≡ Ok w → IsWaiting two three w
took two three result taken w is e f = grind (arith, is, e, f)

saw_three : (slots : Slots) (two : List ℕ) (three : Result (List ℕ) StoreFault) (old new : StoreStanding)
    (result : Result (Option PendingRecord) StoreFault) → old.slots ≡ Some slots → two ≡ slot_front slots 2 → ReadsSlot 3 old new three
    → HostGoesAfterThree two three result → Saw slots old new result
saw_three slots two three old new result t e r g = grind (arith, took, t, e, r, g)

pub saw_two : (slots : Slots) (two : Result (List ℕ) StoreFault) (old middle new : StoreStanding)
    (result : Result (Option PendingRecord) StoreFault) → old.slots ≡ Some slots → ReadsSlot 2 old middle two
    → HostGoesAfterTwo two middle new result → Saw slots old new result
saw_two slots two old middle new result t r g = grind (arith, saw_three, t, r, g)

grown_none : (y : History) (waiting : Option PendingRecord) → IsGrown y waiting y
grown_none y waiting = grind arith

-- nothing more is known where memory was wanting in the call
refused_comes : (i : Instance) (y : History) (slots : Slots) (waiting : Option PendingRecord) (after : History) (why : Refusal)
    → MayRefuse why (life_of i.variant after) → ResumeComesTo i y slots waiting after (Err (refusal_fault why))
refused_comes i y slots waiting after why may =
    by_refusal (λ (w : Refusal) (f : HostFault).
    MayRefuse w (life_of i.variant after) → ResumeComesTo i y slots waiting after (Err f))
    (λ h. tt) (λ w n h. elim h [ inl e ↦ absurd (n e) | inr r ↦ r ]) why may

-- a refusal that hands on no device's fault committed nothing
pub may_commit : (why : Refusal) (broken : StepFault) → fault_of why ≡ Some broken
    → RequestMayBeCommitted {T = Resumed} (Err (refusal_fault why))
may_commit why broken has =
    by_refusal (λ (w : Refusal) (f : HostFault). fault_of w ≡ Some broken → RequestMayBeCommitted {T = Resumed} (Err f))
    (λ e. tt) (λ w n e. rw e refl) why has

-- what stands once the request that waits was asked
pub record Left (all others : List (List ℕ)) (asked : List Batch) (i : Instance) (y : History) (slots : Slots)
    (waiting : Option PendingRecord)
    (p : PendingRecord) (standing : Standing) (gives : Result BatchAnswer Refusal) : Type 0 where
  pub met : Met all others asked i y standing (slot_front slots (offer_slot p)) p gives
  pub open met use *
  pub is : waiting ≡ Some p
  pub is_waiting : IsWaiting (slot_front slots 2) (slot_front slots 3) (Some p)
  pub fits : FitsBy i slots y (Some p)

offered_by : (i : Instance) (y : History) (slots : Slots) (p : PendingRecord) → IsWaiting (slot_front slots 2) (slot_front slots 3) (Some p)
    → FitsBy i slots y (Some p) → IsOffered i y p (slot_front slots (offer_slot p))
offered_by i y slots p w f =
    let most = waiting_most (slot_front slots 2) (slot_front slots 3) (Some p) p w refl in
    record { content = f.1.content; right = f.1.right; at = f.1.at; awaited = f.0; most = most }

-- What came, with more that is known of the history where it is gone on with.
abbrev pub Recovered : (More : History → Type 0) (all others : List (List ℕ)) (asked : List Batch) (i : Instance) (y : History)
    (slots : Slots) (waiting : Option PendingRecord) (standing : Standing) (kept : StoreStanding) (result : Result Resumed HostFault)
    → Type 0
Recovered More all others asked i y slots waiting standing kept result =
    (r : RecoversTo all others asked i y slots waiting (host_standing standing kept) result)
    × IfOk result (λ (resumed : Resumed). More r.after)

-- A call for the request that waits leads on, whatever it gives, to what this result allows.
abbrev pub LeadsOn : (More : History → Type 0) (all others : List (List ℕ)) (asked : List Batch) (variant : Variant) (i : Instance)
    (y : History) (slots : Slots) (waiting : Option PendingRecord) (before after : Standing) (result : Result Resumed HostFault) → Type 0
LeadsOn More all others asked variant i y slots waiting before after result =
    (p : PendingRecord) (call : Result Answer Refusal) → waiting ≡ Some p
    → ((why : Refusal) → call ≡ Err why → result ≡ Err (refusal_fault why))
    → IsCall variant i.meaning before after (slot_front slots (offer_slot p)) p.request call
    → (l : Left all others asked i y slots waiting p after (batch_result_of call)) × More l.after

module _ (More : History → Type 0) (all others : List (List ℕ)) (asked : List Batch) (i : Instance) (lawful : IsLawful i.meaning)
    (y : History) (slots : Slots) (waiting : Option PendingRecord) (p : PendingRecord) (standing : Standing) where
  abbrev LeftBy : Result BatchAnswer Refusal → Type 0
  LeftBy gives = Left all others asked i y slots waiting p standing gives

  -- the exits of a call, by what it left
  settle : (gives : Result BatchAnswer Refusal) (other : Slots) (kept : StoreStanding) (result : Result Resumed HostFault)
      (l : LeftBy gives) → IsElsewhere slots other p → kept.slots ≡ Some other → kept.is_honest ≡ true
      → IfOk result (λ resumed. slot_front other (position_at resumed % 2) ≡ snapshot_at resumed)
      → IfOk result (λ resumed. IsSnapshotAt i l.after (snapshot_at resumed) (position_at resumed))
      → (l.after.batches ≡ y.batches) ⊎ RequestMayBeCommitted result → ResumeComesTo i y slots (Some p) l.after result
      → IfOk result (λ (resumed : Resumed). More l.after) → Recovered More all others asked i y slots (Some p) standing kept result
  settle gives other kept result l e t h n g o c m = (
    record {
      after = l.after;
      stands = l.stands;
      within = l.within;
      grown = grows i y p (slot_front slots (offer_slot p)) l.after gives l.comes;
      slots_after = other;
      told = t;
      fits = record {
        waiting = Some p;
        is_waiting = rw (e.two, e.three) l.is_waiting;
        fits = (
          still_awaited i y p (slot_front slots (offer_slot p)) l.after l.fits.0 l.fits.1 gives l.comes,
          rw e.offer (holds_on i y l.after l.names _ _ l.fits.1),
        );
      };
      same_wait = refl;
      honest = h;
      newest = n;
      holds = g;
      powered = l.powered;
      only = o;
      comes = c;
    },
    m,
  )

  keep_exit : (answer : Answer) (written : Result Unit StoreFault) (old new : StoreStanding) (l : LeftBy (Ok (batch_answer_of answer)))
      → More l.after → IsFit (One p.request) (batch_answer_of answer) → old.is_honest ≡ true → old.slots ≡ Some slots
      → AnswersAt i y (Some p) l.after answer → answer.position ≡ p.position
      → WritesSlot (answer.position % 2) answer.snapshot old new written
      → Recovered More all others asked i y slots (Some p) standing new (result_of_keep answer written)
  keep_exit answer (Ok it) old new l m fit h t a here w =
      let bytes : List ℕ = answer.snapshot in
      let at : answer.position ≡ total_of l.after.batches = ap (λ (b : BatchAnswer). b.position) a.answer_is in
      settle (Ok (batch_answer_of answer)) (slots_with slots (answer.position % 2) bytes) new (Ok (Answered answer)) l
      (elsewhere_put slots p answer.position bytes here (awaited_least y p l.fits.0))
      (w.leaves h ∙ ap (slots_with_bytes (answer.position % 2) bytes) t) (w.honest ∙ h)
      (seen_put slots (answer.position % 2) bytes fit.snapshot)
      (holds_issued i lawful l.after bytes answer.position (l.issues (batch_answer_of answer) refl)
      (subst (λ (n : ℕ). n ≤ last_position) at fit.most) (ap (λ (b : BatchAnswer). b.snapshot) a.answer_is) at) (inr tt) a m
  keep_exit answer (Err fault.Memory) old new l m fit h t a here w =
      settle (Ok (batch_answer_of answer)) slots new (Err (store_fault_as fault.Memory)) l (elsewhere_same slots p)
      (w.leaves h ∙ t) (w.honest ∙ h)
      tt tt (inr tt) tt tt
  keep_exit answer (Err fault.Failed) old new l m fit h t a here w =
      let left = w.leaves h in
      settle (Ok (batch_answer_of answer)) (slots_with slots (answer.position % 2) left.0) new (Err (store_fault_as fault.Failed)) l
      (elsewhere_put slots p answer.position left.0 here (awaited_least y p l.fits.0))
      (left.1 ∙ ap (slots_with_bytes (answer.position % 2) left.0) t) (w.honest ∙ h) tt tt (inr tt) tt tt

  only_by : (why : Refusal) (broken : Option StepFault) → fault_of why ≡ broken → (l : LeftBy (Err why))
      → (l.after.batches ≡ y.batches) ⊎ RequestMayBeCommitted {T = Resumed} (Err (refusal_fault why))
  only_by why broken e l = grind (arith, may_commit, e, l)

  asked_exit : (call : Result Answer Refusal) (old new : StoreStanding) (result : Result Resumed HostFault)
      (l : LeftBy (batch_result_of call))
      → More l.after → IfOk call (λ answer. IsFit (One p.request) (batch_answer_of answer)) → old.is_honest ≡ true → old.slots ≡ Some slots
      → HostGoesAfterAsk call old new result → Recovered More all others asked i y slots (Some p) standing new result
  asked_exit (Err why) old new result l m fit h t g =
      rw (g.0, g.1)
      (settle (Err why) slots old (Err (refusal_fault why)) l (elsewhere_same slots p) t h tt tt (only_by why (fault_of why) refl l)
      (refused_comes i y slots (Some p) l.after why
      (refused_by all others asked i y standing (slot_front slots (offer_slot p)) p (Err why) l.met
      (offered_by i y slots p l.is_waiting l.fits) why refl (fault_of why) refl)) tt)
  asked_exit (Ok answer) old new result l m fit h t g =
      let a = answered_at i y p (slot_front slots (offer_slot p)) l.after l.fits.0 l.fits.1 answer l.comes in
      rw g.gives (keep_exit answer g.written old new l m fit h t a.0 a.1 g.writes)

  pub ask_exit : (call : Result Answer Refusal) (old new : StoreStanding) (result : Result Resumed HostFault)
      (l : LeftBy (batch_result_of call))
      → More l.after → IfOk call (λ answer. IsFit (One p.request) (batch_answer_of answer)) → old.is_honest ≡ true → old.slots ≡ Some slots
      → HostGoesAfterAsk call old new result → Recovered More all others asked i y slots waiting standing new result
  ask_exit call old new result l m fit h t g =
      rw l.is (asked_exit call old new result l m fit h t g)

pub refusal_told : (call : Result Answer Refusal) (old new : StoreStanding) (result : Result Resumed HostFault)
    → HostGoesAfterAsk call old new result → (why : Refusal) → call ≡ Err why → result ≡ Err (refusal_fault why)
refusal_told call old new result g why e = grind (arith, g, e)

-- What is asked of a start, but for the request that waits: of that where it is asked.
pub record Enters (all others : List (List ℕ)) (asked : List Batch) (i : Instance) (y : History) (slots : Slots) (standing : Standing)
    (kept : StoreStanding) : Type 0 where
  pub honest : kept.is_honest ≡ true
  pub told : kept.slots ≡ Some slots
  pub stands : StandsFor i standing y
  pub fits : FitsHistory i slots y
  pub within : IsWithin all others asked i y

abbrev entered : {all others : List (List ℕ)} {asked : List Batch} {i : Instance} {y : History} {slots : Slots} {at : HostStanding}
    → CanRecover all others asked i y slots at → Enters all others asked i y slots at.standing at.kept
entered can = record { honest = can.honest; told = can.told; stands = can.stands; fits = can.fits; within = can.within }

-- it leads on from slots that fit
module _ (all others : List (List ℕ)) (asked : List Batch) (i : Instance) (y : History) (slots : Slots) (before : Standing)
    (old : StoreStanding) (can : Enters all others asked i y slots before old) where
  fits_at : (p : PendingRecord) → can.fits.waiting ≡ Some p → FitsBy i slots y (Some p)
  fits_at p e = subst (λ (w : Option PendingRecord). FitsBy i slots y w) e can.fits.fits

  waits_at : (p : PendingRecord) → can.fits.waiting ≡ Some p → IsWaiting (slot_front slots 2) (slot_front slots 3) (Some p)
  waits_at p e = rw (sym e) can.fits.is_waiting

  pub left_by : (More : History → Type 0) (after : Standing) (p : PendingRecord) (gives : Result BatchAnswer Refusal) → can.fits.waiting
      ≡ Some p
      → (o : Met all others asked i y after (slot_front slots (offer_slot p)) p gives) → More o.after
      → (l : Left all others asked i y slots can.fits.waiting p after gives) × More l.after
  left_by More after p gives e o m = (record { met = o; is = e; is_waiting = waits_at p e; fits = fits_at p e }, m)

  pub offered_at : (p : PendingRecord) → can.fits.waiting ≡ Some p → IsOffered i y p (slot_front slots (offer_slot p))
  offered_at p e = offered_by i y slots p (waits_at p e) (fits_at p e)

-- what an honest store's slots ask of the call for what waits
module _ (all others : List (List ℕ)) (asked : List Batch) (i : Instance) (y : History) (slots : Slots) (at : HostStanding)
    (can : CanRecover all others asked i y slots at) where
  pub asked_at : (p : PendingRecord) → can.fits.waiting ≡ Some p
      → AreAsked all others asked i y (slot_front slots (offer_slot p)) (One p.request)
  asked_at p e =
      let a : IsAskedFor all asked i slots (Some p) = subst (λ (w : Option PendingRecord). IsAskedFor all asked i slots w) e can.is_asked in
      record {
        clear = can.clear;
        apart = can.apart;
        within = can.within;
        is_asked = a.0;
        genuine = genuine_by i y (slot_front slots (offer_slot p)) (p.position - 1)
            (fits_at all others asked i y slots at.standing at.kept (entered can) p e).1;
        offered = a.1;
      }

-- what waits was asked
abbrev pub MadeOf : Result (List ℕ) StoreFault → Type 0
MadeOf (Ok offer) = Unit {0}
MadeOf (Err why) = ⊥

abbrev pub IsMade : (variant : Variant) (meaning : Meaning) (waiting : Result (Option PendingRecord) StoreFault)
    (middle new : HostStanding) (result : Result Resumed HostFault) → HostGoesAfterFinding variant meaning waiting middle new result
    → Type 0
IsMade variant meaning (Ok (Some p)) middle new result g = MadeOf g.offer
IsMade variant meaning (Ok None) middle new result g = ⊥
IsMade variant meaning (Err why) middle new result g = ⊥

module _ (More : History → Type 0) (variant : Variant) (all others : List (List ℕ)) (asked : List Batch) (i : Instance)
    (lawful : IsLawful i.meaning) (y : History) (slots : Slots) (before after : Standing) (first : StoreStanding)
    (can : Enters all others asked i y slots before first) (Made : Type 0) where
  abbrev Came : StoreStanding → Result Resumed HostFault → Type 0
  Came new result = Recovered More all others asked i y slots can.fits.waiting after new result

  -- an exit where nothing was asked
  still : (new : StoreStanding) (result : Result Resumed HostFault) → after ≡ before → new.slots ≡ Some slots → new.is_honest ≡ true
      → IfOk result (λ resumed. slot_front slots (position_at resumed % 2) ≡ snapshot_at resumed)
      → IfOk result (λ resumed. IsSnapshotAt i y (snapshot_at resumed) (position_at resumed))
      → ResumeComesTo i y slots can.fits.waiting y result
      → IfOk result (λ (resumed : Resumed). More y) → Came new result
  still new result s t h n g c m = (
    record {
      after = y;
      stands = subst (λ (x : Standing). StandsFor i x y) (sym s) can.stands;
      within = can.within;
      grown = grown_none y can.fits.waiting;
      slots_after = slots;
      told = t;
      fits = can.fits;
      same_wait = refl;
      honest = h;
      newest = n;
      holds = g;
      powered = λ h. h;
      only = inl refl;
      comes = c;
    },
    m,
  )

  still_exit : (why : StoreFault) (new : StoreStanding) → after ≡ before → new.slots ≡ Some slots → new.is_honest ≡ true
      → Came new (Err (store_fault_as why))
  still_exit fault.Memory new s t h = still new (Err (store_fault_as fault.Memory)) s t h tt tt tt tt
  still_exit fault.Failed new s t h = still new (Err (store_fault_as fault.Failed)) s t h tt tt tt tt

  -- where the store failed before anything was asked
  failed_exit : (why : StoreFault) (middle new : StoreStanding) (result : Result Resumed HostFault) → middle.slots ≡ Some slots
      → middle.is_honest ≡ true → (host_standing after new ≡ host_standing before middle) × (result ≡ Err (store_fault_as why))
      → Came new result
  failed_exit why middle new result t h g =
      rw (ap (λ (k : HostStanding). k.kept) g.0, g.1) (still_exit why middle (ap (λ (k : HostStanding). k.standing) g.0) t h)

  offer_exit : (offer : Result (List ℕ) StoreFault) (old middle new : StoreStanding) (p : PendingRecord) (result : Result Resumed HostFault)
      → (MadeOf offer → Made) → (Made → LeadsOn More all others asked variant i y slots can.fits.waiting before after result)
      → can.fits.waiting ≡ Some p → old.slots ≡ Some slots → old.is_honest ≡ true → ReadsSlot (offer_slot p) old middle offer
      → HostGoesAfterOffer variant i.meaning offer (host_standing before middle) (host_standing after new) p result → Came new result
  offer_exit (Err why) old middle new p result made leads e t h r g = failed_exit why middle new result (r.slots ∙ t) (r.honest ∙ h) g
  offer_exit (Ok offer) old middle new p result made leads e t h r g =
      let l = leads (made tt) p g.asked e (refusal_told g.asked middle new result g.goes)
      (subst (λ (x : List ℕ). IsCall variant i.meaning before after x p.request g.asked) (r.gives slots t) g.asks) in
      ask_exit More all others asked i lawful y slots can.fits.waiting p after g.asked middle new result l.0 l.1 g.asks.fits (r.honest ∙ h)
      (r.slots ∙ t) g.goes

  start_exit : (zero : Result (List ℕ) StoreFault) (old new : StoreStanding)
      → (can.fits.waiting ≡ None → after ≡ before → More y) → can.fits.waiting ≡ None → after ≡ before
      → old.slots ≡ Some slots → old.is_honest ≡ true → ReadsSlot 0 old new zero → Came new (result_of_start zero)
  start_exit (Ok bytes) old new m e s t h r =
      let f : FitsBy i slots y None = subst (λ (w : Option PendingRecord). FitsBy i slots y w) e can.fits.fits in
      still new (Ok (Start bytes)) s (r.slots ∙ t) (r.honest ∙ h) (sym (r.gives slots t)) (rw (r.gives slots t) f.1)
      (e, r.gives slots t) (m e s)
  start_exit (Err why) old new m e s t h r = still_exit why new s (r.slots ∙ t) (r.honest ∙ h)

  waits_by : (middle : StoreStanding) (found : Option PendingRecord) → Saw slots first middle (Ok found) → can.fits.waiting ≡ found
  waits_by middle found s =
      one_waiting (slot_front slots 2) (slot_front slots 3) can.fits.waiting found can.fits.is_waiting (s.waiting found refl)

  found_exit : (waiting : Result (Option PendingRecord) StoreFault) (middle new : StoreStanding) (result : Result Resumed HostFault)
      → (can.fits.waiting ≡ None → after ≡ before → More y) → Saw slots first middle waiting
      → (g : HostGoesAfterFinding variant i.meaning waiting (host_standing before middle) (host_standing after new) result)
      → (IsMade variant i.meaning waiting (host_standing before middle) (host_standing after new) result g → Made)
      → (Made → LeadsOn More all others asked variant i y slots can.fits.waiting before after result) → Came new result
  found_exit (Err why) middle new result m s g made leads = failed_exit why middle new result s.told (s.honest ∙ can.honest) g
  found_exit (Ok None) middle new result m s g made leads =
      rw g.1.gives
      (start_exit g.1.zero middle new m (waits_by middle None s) g.0 s.told (s.honest ∙ can.honest) g.1.reads)
  found_exit (Ok (Some p)) middle new result m s g made leads =
      offer_exit g.offer middle g.middle new p result made leads (waits_by middle (Some p) s) s.told (s.honest ∙ can.honest) g.reads g.goes

-- the whole call, in either variant; `leads` is asked where what waits was asked
pub recovers_by : (More : History → Type 0) (variant : Variant) (all others : List (List ℕ)) (asked : List Batch) (i : Instance)
    → IsLawful i.meaning → (y : History) (slots : Slots) (before after : Standing) (first : StoreStanding)
    (can : Enters all others asked i y slots before first) (new : StoreStanding) (result : Result Resumed HostFault)
    → (can.fits.waiting ≡ None → after ≡ before → More y)
    → (r : HostResumes variant i.meaning (host_standing before first) (host_standing after new) result)
    → (IsMade variant i.meaning r.waiting (host_standing before r.middle) (host_standing after new) result r.goes
    → LeadsOn More all others asked variant i y slots can.fits.waiting before after result)
    → Recovered More all others asked i y slots can.fits.waiting after new result
recovers_by More variant all others asked i lawful y slots before after first can new result m r leads =
    found_exit More variant all others asked i lawful y slots before after first can
    (IsMade variant i.meaning r.waiting (host_standing before r.middle) (host_standing after new) result r.goes) r.waiting r.middle new
    result m
    (saw_two slots r.finds.two first r.finds.middle r.middle r.waiting can.told r.finds.reads r.finds.goes) r.goes (λ x. x) leads

-- Nothing more is asked to be known.
abbrev pub NoMore : History → Type 0
NoMore after = Unit {0}

pub recovers : (variant : Variant) (meaning : Meaning) → IsLawful meaning
    → (old new : HostStanding) (result : Result Resumed HostFault)
    → HostResumes variant meaning old new result → HostRecovers variant meaning old new result
recovers Basic meaning lawful old new result r = λ key y slots all others asked can.
    let i : Instance = basic_instance meaning key in
    (recovers_by NoMore Basic all others asked i lawful y slots old.standing new.standing old.kept (entered can) new.kept result
    (λ n e. tt) r
    (λ made p call e told c. left_by all others asked i y slots old.standing old.kept (entered can) NoMore new.standing p
    (batch_result_of call) e
    (basic_met meaning lawful key all others asked y old.standing new.standing (slot_front slots (offer_slot p)) p (batch_result_of call)
    c.goes can.stands
    (asked_at all others asked i y slots old can p e)) tt)).0
recovers Opt meaning lawful old new result r = λ key barrier y slots all others asked items more can known ends shown_so.
    let i : Instance = opt_instance meaning key barrier in
    (recovers_by NoMore Opt all others asked i lawful y slots old.standing new.standing old.kept (entered can) new.kept result
    (λ n e. tt) r
    (λ made p call e told c. left_by all others asked i y slots old.standing old.kept (entered can) NoMore new.standing p
    (batch_result_of call) e
    (opt_met meaning lawful key barrier all others asked y old.standing new.standing (slot_front slots (offer_slot p)) p
    (batch_result_of call) c.goes can.stands (asked_at all others asked i y slots old can p e) items more known ends
    (λ busy. shown_so (λ k. busy (subst (λ (w : Option PendingRecord). AsksIdly i y slots w) e k)))) tt)).0

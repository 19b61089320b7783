-- What a line comes to by lists, from where a session stands.
use Rattle.mm_host.proofs.Below.{◌≡◌, ◌≢◌, ◌∙◌, ◌+◌, ◌-◌, ◌%◌, ℕ, List, Option, None, Some, Result, Ok, Err, IfOk, refl, sym, ap, inl}
use Rattle.mm_host.proofs.Below.{arith, ◌⊎◌, nat_eq, take_all, IsLineFront, longest_request, Standing, Batch, One, Content, Instance}
use Rattle.mm_host.proofs.Below.{History, requests_of, total_of, LostLife, life_of, IsRight, Answer, BatchAnswer, Refusal, batch_answer_of}
use Rattle.mm_host.proofs.Below.{batch_result_of, StoreFault, WritesSlot, slots_with_bytes, StoreStanding, PendingRecord, pending_spelling}
use Rattle.mm_host.proofs.Below.{Slots, longest_slot, slot_front, slots_with, longest_slot-is, HostFault, Resumed, Start, Answered}
use Rattle.mm_host.proofs.Below.{IsNotBeyond, waiting_position, refusal_fault, store_fault_as, FitsHistory, FitsBy, IsSnapshotAt}
use Rattle.mm_host.proofs.Below.{offer_slot, ◌∷◌, history_after_answer, AreAskedInTurn, RecoversTo, position_at, snapshot_at}
use Rattle.mm_host.proofs.Below.{HostGoesAfterRecord, record_for, SessionPlace, length-pending_spelling, NoMore, left_by, ask_exit}
use Rattle.mm_host.proofs.Below.{refusal_told, CallsRunOver, [], issued_bytes, inr, Met, sealed_snapshot_of, first_offer, requests_with}
use Rattle.mm_host.proofs.Below.{IsCall, last_position, one_content, one_more, IsSame, subst, ◌≤◌, ◌<◌, false, take, nat_tests, StepFault}
use Rattle.mm_host.proofs.Below.{fault_of, HostGoesAfterAsk, fits_on, found_full, grows, RefusesAs, Host}
use Rattle.std.proofs.lemmas.Bool.{cases_lt}
use Rattle.mm_call.specs.CallFinding.{HistoryGrows}
use Rattle.mm_call.specs.CallFinding as coming
use Rattle.mm_model.specs.declared.refusal.Refusal.TheVariants as refusal
use Rattle.mm_store.specs.declared.fault.StoreFault.TheVariants as fault
use Rattle.mm_recovery.specs.declared.fault.HostFault.TheVariants as host
use Rattle.mm_host.proofs.InTurn.{May, met_between, met_last, StandsIn, stepped_by}
use Rattle.mm_host.proofs.Lines.{never_stored}
use Rattle.mm_host.proofs.Leading.{Laws, Reaches}
use Rattle.mm_host.proofs.Putting.{answers_of, broken_refused, came_by, CameTo, IsSettledAt, refused_in, refused_last, refused_with}
use Rattle.mm_host.proofs.Putting.{settled_by, went_first, IsNext, IsPut, fits_next, fits_room, full_fits, put_next, torn_fits, waits_next}
use Rattle.mm_host.proofs.Below.{HostGoesAfterRecord, Enters}
use Rattle.mm_host.proofs.Below.{HostStanding, host_standing}

module _ {all others : List (List ℕ)} {asked : List Batch} {i : Instance} {final : Standing} (laws : Laws all others asked i final) where
  -- What is known of the history after a call that was answered, where its snapshot is offered for these next.
  abbrev pub IsBetween : History → Standing → List ℕ → List (List ℕ) → History → Type 0
  IsBetween z standing offer lines after = May laws after standing offer lines × IsSame i.variant after z

  -- A session stands for a history that is the same as this one but for others' values, and these lines may be asked from there.
  pub record IsReady {at : SessionPlace} (s : IsSettledAt all others asked i at) (z : History) (lines : List (List ℕ)) : Type 0 where
    pub between : IsBetween z at.host.standing (snapshot_at at.last) lines s.after
    pub follow : AreAskedInTurn all asked i z (snapshot_at at.last) lines

  pub stands_in : {at : SessionPlace} (s : IsSettledAt all others asked i at) (z : History) → IsSame i.variant s.after z
      → StandsIn all others asked i s.after z at.host.standing (snapshot_at at.last)
  stands_in {at} s z same = record {
    stands = s.stands;
    within = s.within;
    genuine = λ content right. rw (one_content i (snapshot_at at.last) s.holds.content content s.holds.right right) at s.holds.names;
    same = same;
  }

  -- the snapshot of an answer says what the history issues
  ready_on : (z : History) (at : SessionPlace) (lines : List (List ℕ)) (s : IsSettledAt all others asked i at)
      → snapshot_at at.last ≡ issued_bytes i s.after → IsBetween z at.host.standing (issued_bytes i z) lines s.after
      → AreAskedInTurn all asked i z (issued_bytes i z) lines → IsReady s z lines
  ready_on z at lines s is between follow =
      let here : issued_bytes i z ≡ snapshot_at at.last =
      sym (is ∙ ap (λ (c : Content). sealed_snapshot_of i.key c) (laws.issue s.after z between.1)) in
      record {
        between = subst (λ (offer : List ℕ). IsBetween z at.host.standing offer lines s.after) here between;
        follow = subst (λ (offer : List ℕ). AreAskedInTurn all asked i z offer lines) here follow;
      }

  -- the history once what waits is answered
  abbrev pub waiting_then : History → Slots → Option PendingRecord → History
  waiting_then z slots None = z
  waiting_then z slots (Some p) = history_after_answer i z (slot_front slots (offer_slot p)) p.request

  -- and what is offered then
  abbrev pub offer_then : History → Slots → Option PendingRecord → List ℕ
  offer_then z slots None = slot_front slots 0
  offer_then z slots (Some p) = issued_bytes i (waiting_then z slots (Some p))

  -- where a session stands once what waits is answered
  pub ready_first : (y z : History) (slots : Slots) (waiting : Option PendingRecord) (at : HostStanding)
      (first : Resumed) (lines : List (List ℕ)) (f : FitsBy i slots y waiting)
      (r : RecoversTo all others asked i y slots waiting at (Ok first))
      → IsBetween (waiting_then z slots waiting) at.standing (offer_then z slots waiting) lines r.after
      → AreAskedInTurn all asked i z (first_offer slots waiting) (requests_with waiting lines)
      → IsReady (settled_by waiting first f r) (waiting_then z slots waiting) lines
  ready_first y z slots None at (Start first) lines f r m follow = record {
    between = rw r.comes.1 m;
    follow = rw r.comes.1 follow;
  }
  ready_first y z slots None at (Answered answer) lines f r m follow =
      let clash : None ≡ Some r.comes.p = r.comes.waits in absurd (cc)
  ready_first y z slots (Some p) at (Start first) lines f r m follow = let clash : Some p ≡ None = r.comes.0 in absurd (cc)
  ready_first y z slots (Some p) at (Answered answer) lines f r m follow =
      let a = answers_of i y r.after p answer r.comes in
      ready_on (waiting_then z slots (Some p)) (record { host = at; last = Answered answer }) lines
      (settled_by (Some p) (Answered answer) f r) (ap (λ (b : BatchAnswer). b.snapshot) a.1) m follow.2

  -- a call that was answered, with others behind it
  pub between_called : (y z : History) (old middle : Standing) (offer : List ℕ) (p : PendingRecord) (answer : Answer) (rest : List (List ℕ))
      → StandsIn all others asked i y z old offer → AreAskedInTurn all asked i z offer (p.request ∷ rest)
      → May laws y old offer (p.request ∷ rest) → Reaches i.variant i middle final
      → IsCall i.variant i.meaning old middle offer p.request (Ok answer)
      → (o : Met all others asked i y middle offer p (Ok (batch_answer_of answer)))
      × IsBetween (history_after_answer i z offer p.request) middle (issued_bytes i (history_after_answer i z offer p.request)) rest o.after
  between_called y z old middle offer p answer rest s f may reaches c =
      let m = met_between laws y z old middle offer p rest s f may answer reaches c in
      let t = stepped_by laws y z old middle offer p answer s c.fits m.0 m.0.comes in
      (m.0, (subst (λ (bytes : List ℕ). May laws m.0.after middle bytes rest) t.next m.1, t.here.same))

  -- and what is told wasn't refused
  pub between_told : (y z : History) (old middle : Standing) (offer : List ℕ) (p : PendingRecord) (call : Result Answer Refusal)
      (resumed : Resumed) (rest : List (List ℕ))
      → StandsIn all others asked i y z old offer → AreAskedInTurn all asked i z offer (p.request ∷ rest)
      → May laws y old offer (p.request ∷ rest) → Reaches i.variant i middle final
      → IsCall i.variant i.meaning old middle offer p.request call
      → ((why : Refusal) → call ≡ Err why → Ok resumed ≡ Err (refusal_fault why))
      → (o : Met all others asked i y middle offer p (batch_result_of call))
      × IsBetween (history_after_answer i z offer p.request) middle (issued_bytes i (history_after_answer i z offer p.request)) rest o.after
  between_told y z old middle offer p (Ok answer) resumed rest s f may reaches c told =
      between_called y z old middle offer p answer rest s f may reaches c
  between_told y z old middle offer p (Err why) resumed rest s f may reaches c told = let clash = told why refl in absurd (cc)

  module _ (at : SessionPlace) (line : List ℕ) (settled : IsSettledAt all others asked i at)
      (within : IsLineFront longest_request line) where
    abbrev y : History
    y = settled.after

    abbrev position : ℕ
    position = position_at at.last

    abbrev offer : List ℕ
    offer = snapshot_at at.last

    abbrev next : PendingRecord
    next = record_for at.last line

    abbrev slot : ℕ
    slot = 2 + (position + 1) % 2

    abbrev put : List ℕ → Slots
    put bytes = slots_with settled.slots_after slot bytes

    recorded : waiting_position settled.fits.waiting ≡ position
    recorded = ap waiting_position settled.same_wait ∙ settled.recorded

    is_put : (bytes : List ℕ) → IsPut settled.slots_after (put bytes) position bytes
    is_put bytes = put_next settled.slots_after position bytes

    holds_newest : IsSnapshotAt i y (slot_front settled.slots_after (position % 2)) position
    holds_newest = rw settled.newest settled.holds

    most : position ≤ last_position
    most = omega (arith, settled.at_end, fits_room i settled.slots_after y settled.fits)

    spelled : take longest_slot (pending_spelling next) ≡ pending_spelling next
    spelled = take_all longest_slot (pending_spelling next)
        (omega (arith, within.short, longest_slot-is, length-pending_spelling next))

    is_next : position < last_position → IsNext position next (pending_spelling next)
    is_next room = record {
      follows = refl;
      most = omega (arith, room);
      line = within;
      spelled = spelled;
    }

    offers : slot_front (put (pending_spelling next)) (offer_slot next) ≡ offer
    offers =
        let back : position + 1 - 1 ≡ position = omega arith in
        ap (λ (m : ℕ). slot_front (put (pending_spelling next)) (m % 2)) back
        ∙ (is_put (pending_spelling next)).snapshots position ∙ settled.newest

    -- once the record is written, the line waits, where there is a position for it
    enters : (room : position < last_position) (it : Unit {0}) (middle : StoreStanding)
        → WritesSlot slot (pending_spelling next) at.host.kept middle (Ok it)
        → Enters all others asked i y (put (pending_spelling next)) at.host.standing middle
    enters room it middle w = record {
      honest = w.honest ∙ settled.honest;
      told = w.leaves settled.honest ∙ ap (λ (x : Option Slots). slots_with_bytes slot (pending_spelling next) x) settled.told;
      stands = settled.stands;
      fits = record {
        waiting = Some next;
        is_waiting = waits_next settled.slots_after (put (pending_spelling next)) position (pending_spelling next) settled.fits.waiting next
            settled.fits.is_waiting (omega (arith, recorded)) (is_next room) (is_put (pending_spelling next));
        fits = fits_next i y (put (pending_spelling next)) position (Some next) refl settled.at_end
            (rw ((is_put (pending_spelling next)).snapshots position) holds_newest);
      };
      within = settled.within;
    }

    -- so what it comes to is a recovery, with more that is known of the history where it is gone on with
    recovered : (room : position < last_position) (More : History → Type 0) (after : Standing) (middle new : StoreStanding)
        (came : Result Resumed HostFault) (it : Unit {0})
        → WritesSlot slot (pending_spelling next) at.host.kept middle (Ok it)
        → (g : HostGoesAfterRecord i.variant i.meaning (Ok it) (host_standing at.host.standing middle) (host_standing after new)
        at.last line came)
        → (o : Met all others asked i y after offer next (batch_result_of g.asked)) × More o.after
        → (r : RecoversTo all others asked i y (put (pending_spelling next)) (Some next) (host_standing after new) came)
        × IfOk came (λ (resumed : Resumed). More r.after)
    unfolding enters
    recovered room More after middle new came it w g leads =
        let slots : Slots = put (pending_spelling next) in
        let can : Enters all others asked i y slots at.host.standing middle = enters room it middle w in
        let o = subst (λ (bytes : List ℕ). (o : Met all others asked i y after bytes next (batch_result_of g.asked)) × More o.after)
        (sym offers)
        leads in
        let l = left_by all others asked i y slots at.host.standing middle can More after next (batch_result_of g.asked) refl o.0 o.1 in
        ask_exit More all others asked i laws.lawful y slots (Some next) next after g.asked middle new came l.0 l.1 g.asks.fits can.honest
        can.told g.goes

    -- the record isn't written whole
    unwritten : (why : StoreFault) (middle new : StoreStanding) (came : Result Resumed HostFault) (slots : Slots)
        → middle.is_honest ≡ at.host.kept.is_honest
        → (host_standing final new ≡ host_standing at.host.standing middle) × (came ≡ Err (store_fault_as why))
        → middle.slots ≡ Some slots → (IsNotBeyond slots (total_of y.batches + 1) → FitsHistory i slots y)
        → (store_fault_as why ≢ host.Store → FitsHistory i slots y) → CameTo all others asked i y (Some next) final new came
    unwritten why middle new came slots honest g told fits whole = rw (g.1, ap (λ (h : HostStanding). h.kept) g.0) (record {
      after = y;
      stands = rw (ap (λ (h : HostStanding). h.standing) g.0) settled.stands;
      within = settled.within;
      slots_after = slots;
      honest = honest ∙ settled.honest;
      told = told;
      fits = fits;
      whole = λ n. whole (λ e. n (ap (λ (f : HostFault). Err f) e));
      grown = inl refl;
      only = inl refl;
      answers = λ answer e. absurd (cc);
      room = omega (arith, most, settled.at_end);
      refuses = λ w e. absurd (never_stored why w (cc));
      powered = λ h. h;
    })

    pub line_unwritten : (why : StoreFault) (middle new : StoreStanding) (came : Result Resumed HostFault)
        → WritesSlot slot (pending_spelling next) at.host.kept middle (Err why)
        → HostGoesAfterRecord i.variant i.meaning (Err why) (host_standing at.host.standing middle) (host_standing final new) at.last line
        came
        → CameTo all others asked i y (Some next) final new came
    line_unwritten fault.Memory middle new came w g =
        unwritten fault.Memory middle new came settled.slots_after w.honest g (w.leaves settled.honest ∙ settled.told) (λ n. settled.fits)
        (λ n. settled.fits)
    line_unwritten fault.Failed middle new came w g =
        let left = w.leaves settled.honest in
        unwritten fault.Failed middle new came (put left.0) w.honest g
        (left.1 ∙ ap (λ (x : Option Slots). slots_with_bytes slot left.0 x) settled.told)
        (torn_fits i y settled.slots_after (put left.0) position left.0 settled.fits recorded settled.at_end holds_newest (is_put left.0))
        (λ n. absurd (n refl))

    -- what is offered says the position of the last answer
    said_here : (content : Content) → IsRight i offer content → content.position ≡ total_of y.batches
    said_here content right =
        sym (ap (λ (c : Content). c.position) (one_content i offer settled.holds.content content settled.holds.right right))
        ∙ settled.holds.at ∙ settled.at_end

    -- Where that is the last position, nothing is committed, and no answer is given.
    module _ (full : position ≡ last_position) (standing : Standing) where
      full_total : total_of y.batches ≡ last_position
      full_total = sym settled.at_end ∙ full

      full_same : (gives : Result BatchAnswer Refusal) → (m : Met all others asked i y standing offer next gives)
          → m.after.batches ≡ y.batches
      full_same gives m = elim m.room [
        | inl same ↦ same
        | inr few ↦ elim (grows i y next offer m.after gives m.comes) [
          | inl same ↦ same
          | inr more ↦ absurd (omega (arith, few, ap total_of more, one_more y.batches line, full_total))
        ]
      ]

      never_answered : (answer : Answer) → (m : Met all others asked i y standing offer next (Ok (batch_answer_of answer)))
          → HistoryGrows i y offer (One line) m.after (Ok (batch_answer_of answer)) → ⊥
      never_answered answer m (coming.kept same answers) =
          let r = answers (batch_answer_of answer) refl in
          omega (arith, r.position, said_here r.content r.right, one_more r.ends.front line, ap total_of r.ends.is)
      never_answered answer m (coming.grown content right at more answers) =
          omega (arith, ap total_of more, one_more y.batches line, ap total_of (full_same (Ok (batch_answer_of answer)) m))

      never_told : (call : Result Answer Refusal) (resumed : Resumed)
          → ((why : Refusal) → call ≡ Err why → Ok resumed ≡ Err (refusal_fault why))
          → Met all others asked i y standing offer next (batch_result_of call) → ⊥
      never_told (Ok answer) resumed told m = never_answered answer m m.comes
      never_told (Err why) resumed told m = let clash = told why refl in cc

      full_refused : (why : Refusal) (broken : Option StepFault) → fault_of why ≡ broken
          → (m : Met all others asked i y standing offer next (Err why))
          → (why ≡ refusal.Memory) ⊎ RefusesAs {T = Unit} (Err (Host (host.Refused why))) i.variant m.after
      full_refused why (Some broken) has m =
          inr (refused_in why i.variant m.after (broken_refused why (life_of i.variant m.after) broken has))
      full_refused why None none m =
          let same : m.after.batches ≡ y.batches = full_same (Err why) m in
          elim (m.judged why refl none) [
            | inl memory ↦ inl memory
            | inr found ↦ inr (refused_last why i.variant m.after (ap total_of same ∙ full_total)
                (found_full i m.after offer line settled.holds.content settled.holds.right
                (said_here settled.holds.content settled.holds.right ∙ ap total_of (sym same)) (ap total_of same ∙ full_total) why found))
          ]

    -- so there was a position for a line that is answered
    room_for : (standing : Standing) (call : Result Answer Refusal) (resumed : Resumed)
        → ((why : Refusal) → call ≡ Err why → Ok resumed ≡ Err (refusal_fault why))
        → Met all others asked i y standing offer next (batch_result_of call) → position < last_position
    room_for standing call resumed told m = elim (cases_lt position last_position) [
      | inl room ↦ room
      | inr full ↦ absurd (never_told (omega (arith, full, most)) standing call resumed told m)
    ]

    -- And a line that isn't is refused, and nothing changes: what waited goes on to wait.
    full_last : (full : position ≡ last_position) (middle new : StoreStanding) (came : Result Resumed HostFault)
        (call : Result Answer Refusal) (it : Unit {0}) → WritesSlot slot (pending_spelling next) at.host.kept middle (Ok it)
        → HostGoesAfterAsk call middle new came → Met all others asked i y final offer next (batch_result_of call)
        → CameTo all others asked i y (Some next) final new came
    full_last full middle new came (Ok answer) it w g m = absurd (never_answered full final answer m m.comes)
    full_last full middle new came (Err why) it w g m =
        let slots : Slots = put (pending_spelling next) in
        let same : m.after.batches ≡ y.batches = full_same full final (Err why) m in
        let still : FitsHistory i slots y =
        full_fits i y settled.slots_after slots position next settled.fits recorded full refl spelled (is_put (pending_spelling next)) in
        let fits : FitsHistory i slots m.after = record {
          waiting = still.waiting;
          is_waiting = still.is_waiting;
          fits = fits_on i slots y m.after same m.names still.waiting still.fits;
        } in
        let refused = refused_with why i.variant m.after (full_refused full final why (fault_of why) refl m) in
        rw (g.0, g.1) (record {
          after = m.after;
          stands = m.stands;
          within = m.within;
          slots_after = slots;
          honest = w.honest ∙ settled.honest;
          told = w.leaves settled.honest ∙ ap (λ (x : Option Slots). slots_with_bytes slot (pending_spelling next) x) settled.told;
          fits = λ n. fits;
          whole = λ n. fits;
          grown = inl same;
          only = inl same;
          answers = λ answer e. absurd (cc);
          room = omega (arith, full, settled.at_end, ap total_of same);
          refuses = λ v e.
              let is : refusal_fault why ≡ host.Refused v = cc in
              subst (λ (f : HostFault). RefusesAs {T = Unit} (Err (Host f)) i.variant m.after) is refused;
          powered = m.powered;
        })

    -- where it may be asked
    module _ (z : History) (lines : List (List ℕ)) (s : IsReady settled z (line ∷ lines)) where
      here : StandsIn all others asked i y z at.host.standing offer
      here = stands_in settled z s.between.1

      -- the last line, where it is asked
      pub line_last : (it : Unit {0}) (middle new : StoreStanding) (came : Result Resumed HostFault)
          → WritesSlot slot (pending_spelling next) at.host.kept middle (Ok it)
          → HostGoesAfterRecord i.variant i.meaning (Ok it) (host_standing at.host.standing middle) (host_standing final new) at.last line
          came
          → CameTo all others asked i y (Some next) final new came
      line_last it middle new came w g =
          let m = met_last laws y z at.host.standing offer next lines g.asked here s.follow s.between.0 g.asks in
          elim (cases_lt position last_position) [
            | inl room ↦ came_by (Some next) came (recovered (omega (arith, room)) NoMore final middle new came it w g (m, tt)).0
            | inr full ↦ full_last (omega (arith, full, most)) middle new came g.asked it w g.goes m
          ]

      -- a line that was answered, with others behind it
      abbrev pub then_is : History
      then_is = history_after_answer i z offer line

      pub record LineGoes (after : Standing) (new : StoreStanding) (answer : Answer) : Type 0 where
        pub settled_then : IsSettledAt all others asked i (record { host = host_standing after new; last = Answered answer })
        pub ready : IsReady settled_then then_is lines
        pub new_here : (answer.again ≡ false) × (answer.position ≡ total_of y.batches + 1)
        pub total : total_of settled_then.after.batches ≡ total_of y.batches + 1
        pub run : CallsRunOver i.meaning (requests_of y.batches) (record { line = line; answer = answer } ∷ [])
            (requests_of settled_then.after.batches)
        pub powered : life_of i.variant y ≢ LostLife → life_of i.variant settled_then.after ≢ LostLife

      pub line_goes : (recorded : Result Unit StoreFault) (after : Standing) (middle new : StoreStanding) (answer : Answer)
          → Reaches i.variant i after final → WritesSlot slot (pending_spelling next) at.host.kept middle recorded
          → HostGoesAfterRecord i.variant i.meaning recorded (host_standing at.host.standing middle) (host_standing after new) at.last line
          (Ok (Answered answer))
          → LineGoes after new answer
      unfolding enters
      line_goes (Err why) after middle new answer reaches w g =
          let clash : Ok (Answered answer) ≡ Err (store_fault_as why) = g.1 in absurd (cc)
      line_goes (Ok it) after middle new answer reaches w g =
          let told = refusal_told g.asked middle new (Ok (Answered answer)) g.goes in
          let o = between_told y z at.host.standing after offer next g.asked (Answered answer) lines here s.follow s.between.0
          reaches g.asks told
          in
          let room : position < last_position = room_for after g.asked (Answered answer) told o.0 in
          let r = recovered room (IsBetween then_is after (issued_bytes i then_is) lines) after middle new
          (Ok (Answered answer)) it w g o in
          let f : FitsBy i (put (pending_spelling next)) y (Some next) = (enters room it middle w).fits.fits in
          let a = answers_of i y r.0.after next answer r.0.comes in
          let total : total_of r.0.after.batches ≡ total_of y.batches + 1 = sym a.0 ∙ ap (λ (n : ℕ). n + 1) settled.at_end in
          let fresh : nat_eq next.position (total_of y.batches) ≡ false = grind (arith, nat_tests, settled.at_end) in
          record {
            settled_then = settled_by (Some next) (Answered answer) f r.0;
            ready = ready_on then_is (record { host = host_standing after new; last = Answered answer }) lines
                (settled_by (Some next) (Answered answer) f r.0) (ap (λ (x : BatchAnswer). x.snapshot) a.1) r.1 s.follow.2;
            new_here = (ap (λ (b : BatchAnswer). b.again) a.1 ∙ fresh, ap (λ (b : BatchAnswer). b.position) a.1 ∙ total);
            total = total;
            run = (went_first (Some next) (Answered answer) f r.0).run;
            powered = r.0.powered;
          }

-- A session by lists, in either variant: from what waited, over the lines, to each of its ends.
use Rattle.mm_host.proofs.Below.{◌≡◌, ◌≢◌, ◌∙◌, ℕ, List, [], ◌∷◌, ◌++◌, Option, None, Some, Result, Err, refl, ap, inl, inr, ◌⊎◌, Standing}
use Rattle.mm_host.proofs.Below.{Batch, One, Instance, History, requests_of, LostLife, life_of, requests-push, StoreStanding, PendingRecord}
use Rattle.mm_host.proofs.Below.{Refusal, HostFault, SessionFault, Host, Resumed, ContinuesTo, HasUntoldRequest, RequestMayBeUntold}
use Rattle.mm_host.proofs.Below.{RefusesAs, CallsRunOver, IsGrown, RequestMayBeCommitted, SendsReply, session_result_of, reply_text}
use Rattle.mm_host.proofs.Below.{SessionPlace, ServedCall, IsAtRest, Ok, Slots, Answered, FitsBy, RecoversTo, record_for, ServesCalls}
use Rattle.mm_host.proofs.Below.{served_lines, AreAmong, AreAskedInTurn, history_after_answer, snapshot_at, batch_result_of, slot_front}
use Rattle.mm_host.proofs.Below.{Answer, IsInHand, first_served_call, served_calls_in, first_offer, requests_with, AreNewFrom, AreToldOnce}
use Rattle.mm_host.proofs.Below.{offer_slot, HostResumes, IsSession, SessionGoesAfterResume, SessionStopsAtOnce, NoMore, left_by, IsCall}
use Rattle.mm_host.proofs.Below.{IsWaiting, recovers_by, Met, IfOk, subst, sym, total_of, refusal_fault, RunsTo, StandsFor, IsWithin}
use Rattle.mm_host.proofs.Below.{Variant, true}
use Rattle.mm_host.specs.Sessions.{SessionGoesOn}
use Rattle.mm_host.proofs.Below.{◌+◌, ◌%◌, length, IsLineFront, longest_request, HostGoesAfterRecord, BytesBeginWith, turn_answer_of}
use Rattle.mm_host.proofs.Below.{IsMade, Enters, Lines, pending_spelling, position_at, TurnGoes, StoreFault, WriteFault, WritesSlot}
use Rattle.mm_host.proofs.Below.{HostStanding, host_standing, session_standing}
use Rattle.mm_recovery.specs.declared.fault.HostFault.TheVariants as host
use Rattle.mm_host.proofs.CallsMade.{first_told, InHand, lines_chain, served_calls, told_in_part}
use Rattle.mm_host.proofs.InTurn.{calls_reach, chain_reaches, ends_reach, May, met_last, StandsIn}
use Rattle.mm_host.proofs.Below.{answer_reply, arith, IsAwaited}
use Rattle.mm_host.specs.Continuation.{IsToldInPart, last_bytes_in}
use Rattle.mm_schedule.specs.Replies.{IsBatchStep}
use Rattle.mm_host.proofs.Leading.{Laws, Reaches, CallsRunOver-append, answered_first, same_pending, unspoiled}
use Rattle.mm_host.proofs.LineStep.{between_told, IsBetween, IsReady, line_goes, line_last, line_unwritten, ready_first}
use Rattle.mm_host.proofs.LineStep.{offer_then, waiting_then}
use Rattle.mm_host.proofs.Lines.{among_next, AreMade, by_asked, IsFirstAsked, IsLineAsked, IsWritten, by_told, IsByInput}
use Rattle.mm_host.proofs.Putting.{came_by, CameTo, IsSettledAt, once_first, settled_by, went_first}

-- what a fault says of what came

refuses_by : (f : HostFault) (variant : Variant) (after : History)
    → ((why : Refusal) → f ≡ host.Refused why → RefusesAs {T = Unit} (Err (Host (host.Refused why))) variant after)
    → RefusesAs {T = Unit} (Err (Host f)) variant after
refuses_by (host.Refused why) variant after h = h why refl
refuses_by _ variant after h = tt

-- at rest it tells of no life
pub rest_refuses : (result : Result Unit SessionFault) (variant : Variant) (after : History) → IsByInput result
    → RefusesAs result variant after
rest_refuses (Err (Host fault)) variant after by = absurd by
rest_refuses _ variant after by = tt

store_came : (came : Result Resumed HostFault) (sent : List ℕ) (fault : SessionFault) → SendsReply came sent (Err fault)
    → came ≡ Err host.Store → fault ≡ Host host.Store
store_came came sent fault (inl s) e = let told : Err fault ≡ Err (Host host.Store) = s.1 ∙ ap session_result_of e in cc
store_came came sent fault (inr s) e = absurd (s.1 (ap reply_text e))

pub line_committed : (z after : History) (line : List ℕ) (came : Result Resumed HostFault) (sent : List ℕ) (fault : SessionFault)
    (hand : List ℕ → Type 0) → hand line → SendsReply came sent (Err fault) → (after.batches ≡ z.batches) ⊎ RequestMayBeCommitted came
    → (after.batches ≡ z.batches) ⊎ (after.batches ≡ z.batches ++ One line ∷ [])
    → (requests_of after.batches ≡ requests_of z.batches) ⊎ HasUntoldRequest hand (Err fault) (requests_of z.batches)
    (requests_of after.batches)
line_committed z after line came sent fault hand h s (inl same) g = inl (ap requests_of same)
line_committed z after line came sent fault hand h s (inr may) (inl same) = inl (ap requests_of same)
line_committed z after line came sent fault hand h s (inr may) (inr more) = inr (record {
  request = line;
  in_hand = h;
  untold = by_told (λ (f : SessionFault). RequestMayBeUntold {T = Unit} (Err f)) came sent fault s
      (λ (why : HostFault) (e : came ≡ Err why). rw e at may) (λ n. refl);
  grown = ap requests_of more ∙ requests-push z.batches (One line);
})

waiting_committed : (y after : History) (waiting : Option PendingRecord) (begun : Result Resumed HostFault) (sent : List ℕ)
    (fault : SessionFault)
    (hand : List ℕ → Type 0) → ((p : PendingRecord) → waiting ≡ Some p → hand p.request) → SendsReply begun sent (Err fault)
    → (after.batches ≡ y.batches) ⊎ RequestMayBeCommitted begun → IsGrown y waiting after
    → (requests_of after.batches ≡ requests_of y.batches) ⊎ HasUntoldRequest hand (Err fault) (requests_of y.batches)
    (requests_of after.batches)
waiting_committed y after None begun sent fault hand h s o g = inl (ap requests_of g)
waiting_committed y after (Some p) begun sent fault hand h s o g = line_committed y after p.request begun sent fault hand (h p refl) s o g

pub same_requests : (y z : History) (came : Result Resumed HostFault) → (z.batches ≡ y.batches) ⊎ RequestMayBeCommitted came
    → (requests_of z.batches ≡ requests_of y.batches) ⊎ RequestMayBeCommitted came
same_requests y z came (inl same) = inl (ap requests_of same)
same_requests y z came (inr may) = inr may

-- behind what was told
module _ {all others : List (List ℕ)} {asked : List Batch} {i : Instance} (y : History) (told : List ServedCall)
    (hand : List ℕ → Type 0) {last : List ℕ} where
  abbrev pub runs_to : {final : Standing} {result : Result Unit SessionFault} {requests : List (List ℕ)} (after : History)
      → StandsFor i final after → IsWithin all others asked i after → CallsRunOver i.meaning (requests_of y.batches) told requests
      → (requests_of after.batches ≡ requests) ⊎ HasUntoldRequest hand result requests (requests_of after.batches)
      → (result ≡ Err (Lines WriteFault) → IsToldInPart i.meaning hand last requests (requests_of after.batches))
      → (life_of i.variant y ≢ LostLife → life_of i.variant after ≢ LostLife) → RunsTo all others asked i y final told hand last result
  runs_to {requests = requests} after stands within run committed in_part powered = record {
    after = after;
    stands = stands;
    within = within;
    requests = requests;
    run = run;
    committed = committed;
    in_part = in_part;
    unspoiled = unspoiled i.variant others after within.sound within.outside;
    powered = powered;
  }

-- where this waited first
module _ {all others : List (List ℕ)} {asked : List Batch} {i : Instance} (y : History) (first : Option PendingRecord)
    (told : List ServedCall)
    (hand : List ℕ → Type 0) (last : List ℕ) where
  -- by what is left of the history and of the slots
  ends_at : {final : Standing} {u : History} {waiting : Option PendingRecord} {came : Result Resumed HostFault} {requests : List (List ℕ)}
      (new : StoreStanding) (result : Result Unit SessionFault) (c : CameTo all others asked i u waiting final new came)
      → (came ≡ Err host.Store → result ≡ Err (Host host.Store)) → CallsRunOver i.meaning (requests_of y.batches) told requests
      → AreToldOnce (total_of y.batches) first told
      → (requests_of c.after.batches ≡ requests) ⊎ HasUntoldRequest hand result requests (requests_of c.after.batches)
      → (result ≡ Err (Lines WriteFault) → IsToldInPart i.meaning hand last requests (requests_of c.after.batches))
      → RefusesAs result i.variant c.after → (life_of i.variant y ≢ LostLife → life_of i.variant c.after ≢ LostLife)
      → ContinuesTo all others asked i y first final new told hand last result
  ends_at new result c stored run once committed in_part refuses powered = record {
    runs = runs_to y told hand c.after c.stands c.within run committed in_part powered;
    once = once;
    room = c.room;
    slots_after = c.slots_after;
    honest = c.honest;
    slots_told = c.told;
    fits = c.fits;
    whole = λ n. c.whole (λ e. n (stored e));
    refuses = refuses;
  }

  -- it rests where it stands
  rests_at : {final : Standing} (at : SessionPlace) (new : StoreStanding) (sent : List ℕ) (result : Result Unit SessionFault)
      (s : IsSettledAt all others asked i at) → CallsRunOver i.meaning (requests_of y.batches) told (requests_of s.after.batches)
      → AreToldOnce (total_of y.batches) first told
      → (life_of i.variant y ≢ LostLife → life_of i.variant s.after ≢ LostLife)
      → IsAtRest at (host_standing final new) sent → IsByInput result
      → ContinuesTo all others asked i y first final new told hand last result
  rests_at at new sent result s run once powered e by =
      rw (ap (λ (h : HostStanding). h.standing) e.still, ap (λ (h : HostStanding). h.kept) e.still)
      (ends_at at.host.kept result (came_by s.waiting (Ok at.last) s.came) (λ clash. absurd (cc)) run once (inl refl)
      (λ w. absurd (subst IsByInput w by)) (rest_refuses result i.variant s.after by) powered)

  -- what came ends it
  came_steps : {final : Standing} (z : History) (waiting : Option PendingRecord) (new : StoreStanding) (came : Result Resumed HostFault)
      (c : CameTo all others asked i z waiting final new came) → ((p : PendingRecord) → waiting ≡ Some p → hand p.request)
      → ((p : PendingRecord) → waiting ≡ Some p → IsAwaited z p) → (answer : Answer) → came ≡ Ok (Answered answer)
      → (request : List ℕ) × hand request
      × IsBatchStep i.meaning (requests_of z.batches) (One request) (answer_reply answer) (requests_of c.after.batches)
  came_steps z waiting new came c h awaits answer e =
      let a = c.answers answer e in
      let run = answered_first i z c.after a.p answer (awaits a.p a.waits) a.position a.answer_is
      (subst (λ (w : Option PendingRecord). IsGrown z w c.after) a.waits c.grown) in (
        a.p.request,
        h a.p a.waits,
        subst (λ (rs : List (List ℕ)). IsBatchStep i.meaning (requests_of z.batches) (One a.p.request) (answer_reply answer) rs)
            (sym run.2) run.1,
      )

  stops_with : {final : Standing} (z : History) (waiting : Option PendingRecord) (new : StoreStanding) (came : Result Resumed HostFault)
      (fault : SessionFault) → CallsRunOver i.meaning (requests_of y.batches) told (requests_of z.batches)
      → AreToldOnce (total_of y.batches) first told
      → (life_of i.variant y ≢ LostLife → life_of i.variant z ≢ LostLife) → CameTo all others asked i z waiting final new came
      → ((p : PendingRecord) → waiting ≡ Some p → hand p.request) → ((p : PendingRecord) → waiting ≡ Some p → IsAwaited z p)
      → SendsReply came last (Err fault) → ContinuesTo all others asked i y first final new told hand last (Err fault)
  stops_with z waiting new came fault run once powered c h awaits s =
      ends_at new (Err fault) c (λ e. ap (λ (x : SessionFault). Err x) (store_came came last fault s e)) run once
      (waiting_committed z c.after waiting came last fault hand h s c.only c.grown)
      (λ w. told_in_part i.meaning hand (requests_of z.batches) (requests_of c.after.batches) came last fault s
      (came_steps z waiting new came c h awaits) (same_requests z c.after came c.only) (cc))
      (by_told (λ (f : SessionFault). RefusesAs {T = Unit} (Err f) i.variant c.after) came last fault s
      (λ (f : HostFault) (e : came ≡ Err f). refuses_by f i.variant c.after (λ (why : Refusal) (is : f ≡ host.Refused why).
      c.refuses why (e ∙ ap (λ (x : HostFault). Err x) is))) (λ n. tt)) (λ p. c.powered (powered p))

-- The lines of a session that are answered, by lists: each grows the history.

module _ {all others : List (List ℕ)} {asked : List Batch} {i : Instance} {final : Standing} (laws : Laws all others asked i final) where
  pub record AfterLines (y : History) (to : SessionPlace) (calls : List ServedCall) (rest : List (List ℕ)) : Type 0 where
    pub settled : IsSettledAt all others asked i to
    pub then_is : History
    pub ready : IsReady laws settled then_is rest
    pub run : CallsRunOver i.meaning (requests_of y.batches) calls (requests_of settled.after.batches)
    pub once : AreNewFrom (total_of y.batches) calls
    pub powered : life_of i.variant y ≢ LostLife → life_of i.variant settled.after ≢ LostLife

  pub lines_come : (z : History) (from to : SessionPlace) (calls : List ServedCall) (rest : List (List ℕ))
      (s : IsSettledAt all others asked i from)
      → IsReady laws s z (served_lines calls ++ rest) → ServesCalls i.variant i.meaning from calls to
      → Reaches i.variant i to.host.standing final → AfterLines s.after to calls rest
  lines_come z from to [] rest s ready h reaches =
      rw h (record { settled = s; then_is = z; ready = ready; run = refl; once = tt; powered = λ p. p })
  lines_come z from to (c ∷ calls) rest s ready h reaches =
      let next : SessionPlace = record { host = h.host; last = Answered c.answer } in
      let b = line_goes laws from c.line s h.within z (served_lines calls ++ rest) ready h.asks.recorded h.host.standing h.asks.middle
      h.host.kept c.answer
      (calls_reach laws c.answer.snapshot h.host.standing to.host.standing calls
      (served_calls i.variant i.meaning next to calls h.rest) reaches)
      h.asks.records h.asks.goes in
      let r = lines_come (history_after_answer i z (snapshot_at from.last) c.line) next to calls rest b.settled_then b.ready
      h.rest reaches in
      record {
        settled = r.settled;
        then_is = r.then_is;
        ready = r.ready;
        run = CallsRunOver-append i.meaning (requests_of s.after.batches) (requests_of b.settled_then.after.batches)
            (requests_of r.settled.after.batches) (c ∷ []) calls b.run r.run;
        once = (b.new_here.0, b.new_here.1, subst (λ (n : ℕ). AreNewFrom n calls) b.total r.once);
        powered = λ k. r.powered (b.powered k);
      }

-- what the line in hand came to
module _ {all others : List (List ℕ)} {asked : List Batch} {i : Instance} {final : Standing} (laws : Laws all others asked i final)
    (at : SessionPlace) (settled : IsSettledAt all others asked i at) (z : History) (rest : List (List ℕ))
    (ready : IsReady laws settled z rest)
    (line : List ℕ) (new : StoreStanding) (came : Result Resumed HostFault) (within : IsLineFront longest_request line) where
  line_came : (recorded : Result Unit StoreFault) (middle : StoreStanding)
      → WritesSlot (2 + (position_at at.last + 1) % 2) (pending_spelling (record_for at.last line)) at.host.kept middle recorded
      → HostGoesAfterRecord i.variant i.meaning recorded (host_standing at.host.standing middle) (host_standing final new) at.last line came
      → (IsWritten recorded → (next : List (List ℕ)) × (rest ≡ line ∷ next))
      → CameTo all others asked i settled.after (Some (record_for at.last line)) final new came
  line_came (Err why) middle records g first = line_unwritten laws at line settled within why middle new came records g
  line_came (Ok it) middle records g first =
      let f = first tt in
      line_last laws at line settled within z f.0 (subst (λ (ls : List (List ℕ)). IsReady laws settled z ls) f.1 ready) it middle new came
      records g

-- A session by lists, in either variant: from what waited, over the lines, to each of its ends; it starts at a history that is the
-- same as the one of which is asked but for others' values. What it asked are the first of these requests.

module _ {all others : List (List ℕ)} {asked : List Batch} {i : Instance} {final : Standing} (laws : Laws all others asked i final)
    {before : Standing} {old new : StoreStanding} {left left' received received' : Option (List ℕ)} {result : Result Unit SessionFault}
    (s : IsSession i.variant i.meaning (session_standing before old left received) (session_standing final new left' received') result)
    (y z : History) (slots : Slots)
    (waiting : Option PendingRecord) (slots_told : old.slots ≡ Some slots) (honest : old.is_honest ≡ true)
    (w : IsWaiting (slot_front slots 2) (slot_front slots 3) waiting) (fits : FitsBy i slots y waiting) (requests : List (List ℕ))
    (here : StandsIn all others asked i y z before (first_offer slots waiting))
    (may : May laws y before (first_offer slots waiting) requests)
    (follow : AreAskedInTurn all asked i z (first_offer slots waiting) requests)
  where
    -- where that is asked
    record AsksFirst (p : PendingRecord) (rest : List (List ℕ)) : Type 0 where
      first_here : StandsIn all others asked i y z before (slot_front slots (offer_slot p))
      first_may : May laws y before (slot_front slots (offer_slot p)) (p.request ∷ rest)
      first_follow : AreAskedInTurn all asked i z (slot_front slots (offer_slot p)) (p.request ∷ rest)

    asks_first : (p : PendingRecord) (rest : List (List ℕ)) → waiting ≡ Some p → requests ≡ p.request ∷ rest → AsksFirst p rest
    asks_first p rest e is =
        let offer : first_offer slots waiting ≡ slot_front slots (offer_slot p) = ap (first_offer slots) e in
        record {
          first_here = subst (λ (bytes : List ℕ). StandsIn all others asked i y z before bytes) offer here;
          first_may = subst (λ (bytes : List ℕ). May laws y before bytes (p.request ∷ rest)) offer
              (subst (λ (rs : List (List ℕ)). May laws y before (first_offer slots waiting) rs) is may);
          first_follow = subst (λ (bytes : List ℕ). AreAskedInTurn all asked i z bytes (p.request ∷ rest)) offer
              (subst (λ (rs : List (List ℕ)). AreAskedInTurn all asked i z (first_offer slots waiting) rs) is follow);
        }

    enters : Enters all others asked i y slots before old
    enters = record {
      honest = honest;
      told = slots_told;
      stands = here.stands;
      fits = record { waiting = waiting; is_waiting = w; fits = fits };
      within = here.within;
    }

    -- the recovery, by what a call for what waits comes to
    recovered_by : (More : History → Type 0) (after : Standing) (came : Result Resumed HostFault)
        → (waiting ≡ None → after ≡ before → More y) →
        (r : HostResumes i.variant i.meaning (host_standing before old) (host_standing after s.middle.kept) came)
        → (IsMade i.variant i.meaning r.waiting (host_standing before r.middle) (host_standing after s.middle.kept) came r.goes
        → (p : PendingRecord) (call : Result Answer Refusal) → waiting ≡ Some p
        → IsCall i.variant i.meaning before after (slot_front slots (offer_slot p)) p.request call
        → ((why : Refusal) → call ≡ Err why → came ≡ Err (refusal_fault why))
        → (o : Met all others asked i y after (slot_front slots (offer_slot p)) p (batch_result_of call)) × More o.after)
        → (v : RecoversTo all others asked i y slots waiting (host_standing after s.middle.kept) came)
        × IfOk came (λ (resumed : Resumed). More v.after)
    unfolding enters
    recovered_by More after came none r leads =
        recovers_by More i.variant all others asked i laws.lawful y slots before after old enters s.middle.kept came none r
        (λ made p call e told c.
        let o = leads made p call e c told in left_by all others asked i y slots before old enters More after p
        (batch_result_of call) e o.0 o.1)

    -- it is all
    recovers_last : final ≡ s.middle.standing → IsFirstAsked s waiting requests → RecoversTo all others asked i y slots
        waiting (host_standing final s.middle.kept) s.begun
    recovers_last same first =
        subst (λ (x : Standing). RecoversTo all others asked i y slots waiting (host_standing x s.middle.kept) s.begun) (sym same)
        (recovered_by NoMore s.middle.standing s.begun (λ n e. tt) s.resumes (λ made p call e c told.
        let f = first made p e in
        let a = asks_first p f.0 e f.1 in
        let m = met_last laws y z before (slot_front slots (offer_slot p)) p f.0 call a.first_here a.first_follow a.first_may
        (subst (λ (x : Standing). IsCall i.variant i.meaning before x (slot_front slots (offer_slot p)) p.request call) (sym same) c) in
        (subst (λ (x : Standing). Met all others asked i y x (slot_front slots (offer_slot p)) p (batch_result_of call)) same m, tt))).0

    -- or lines come behind it
    recovers_between : (first : Resumed) (lines : List (List ℕ)) → Reaches i.variant i s.middle.standing final → s.begun ≡ Ok first
        → requests ≡ requests_with waiting lines →
        (r : RecoversTo all others asked i y slots waiting s.middle (Ok first))
        × IsBetween laws (waiting_then laws z slots waiting) s.middle.standing (offer_then laws z slots waiting) lines r.after
    recovers_between first lines reaches is all_lines =
        recovered_by (IsBetween laws (waiting_then laws z slots waiting) s.middle.standing (offer_then laws z slots waiting) lines)
        s.middle.standing (Ok first)
        (λ n e.
        let rests : May laws y s.middle.standing (slot_front slots 0) lines =
        subst (λ (x : Standing). May laws y x (slot_front slots 0) lines) (sym e)
        (subst (λ (rs : List (List ℕ)). May laws y before (slot_front slots 0) rs)
        (all_lines ∙ ap (λ (v : Option PendingRecord). requests_with v lines) n)
        (subst (λ (v : Option PendingRecord). May laws y before (first_offer slots v) requests) n may)) in
        subst (λ (v : Option PendingRecord).
        IsBetween laws (waiting_then laws z slots v) s.middle.standing (offer_then laws z slots v) lines y) (sym n)
        (rests, here.same))
        (rw is at s.resumes)
        (λ made p call e c told.
        let a = asks_first p lines e (all_lines ∙ ap (λ (v : Option PendingRecord). requests_with v lines) e) in
        let b = between_told laws y z before s.middle.standing (slot_front slots (offer_slot p)) p call first lines a.first_here
        a.first_follow a.first_may reaches c told in
        subst (λ (v : Option PendingRecord).
        (o : Met all others asked i y s.middle.standing (slot_front slots (offer_slot p)) p (batch_result_of call))
        × IsBetween laws (waiting_then laws z slots v) s.middle.standing (offer_then laws z slots v) lines o.after) (sym e) b)

    -- nothing was told
    none_told : (w : Option PendingRecord) → FitsBy i slots y w → AreToldOnce (total_of y.batches) w []
    none_told None f = tt
    none_told (Some p) f = tt

    -- what waited ends it
    at_once : new ≡ s.middle.kept → (e : SessionStopsAtOnce s.begun s.taken s.sent result)
        → RecoversTo all others asked i y slots waiting (host_standing final s.middle.kept) s.begun
        → ContinuesTo all others asked i y waiting final new []
        (λ (request : List ℕ). (p : PendingRecord) × (waiting ≡ Some p) × (p.request ≡ request)) s.sent result
    at_once same e r =
        let hand : List ℕ → Type 0 = λ request. (p : PendingRecord) × (waiting ≡ Some p) × (p.request ≡ request) in
        rw e.stops (rw same (stops_with y waiting [] hand s.sent y waiting s.middle.kept s.begun e.fault refl (none_told waiting fits)
        (λ p. p) (came_by waiting s.begun r) (λ p w. (p, w, refl))
        (λ p w. (subst (λ (x : Option PendingRecord). FitsBy i slots y x) w fits).0) e.says))

    -- the lines
    serves_on : (g : SessionGoesOn i.variant i.meaning s.begun s.middle (host_standing final new) left' s.taken s.sent result)
        → (rest : List (List ℕ)) → served_lines (first_served_call waiting g.first ++ g.lines.calls) ++ rest ≡ requests
        → IsLineAsked i.variant i.meaning (length g.lines.calls + 1) g.lines.at (host_standing final new) left' g.lines.more g.lines.last
        rest result g.lines.ends
        → ContinuesTo all others asked i y waiting final new (first_served_call waiting g.first ++ g.lines.calls) (InHand g.lines)
        g.lines.last result
    serves_on g rest served asks_line =
        let l = g.lines in
        let told : List ServedCall = first_served_call waiting g.first ++ l.calls in
        let from : SessionPlace = record { host = s.middle; last = g.first } in
        let lines : List (List ℕ) = served_lines l.calls ++ rest in
        let all_lines : requests ≡ requests_with waiting lines = sym served ∙ first_told s slots waiting slots_told w g rest in
        let r = recovers_between g.first lines (chain_reaches laws (lines_chain l)) g.begins all_lines in
        let ready = ready_first laws y z slots waiting s.middle g.first lines fits r.0 r.1
        (subst (λ (rs : List (List ℕ)). AreAskedInTurn all asked i z (first_offer slots waiting) rs) all_lines follow) in
        let c = lines_come laws (waiting_then laws z slots waiting) from l.at l.calls rest (settled_by waiting g.first fits r.0) ready
        l.serves (ends_reach laws (lines_chain l).ends) in
        let run : CallsRunOver i.meaning (requests_of y.batches) told (requests_of c.settled.after.batches) =
        CallsRunOver-append i.meaning (requests_of y.batches) (requests_of r.0.after.batches) (requests_of c.settled.after.batches)
        (first_served_call waiting g.first) l.calls (went_first waiting g.first fits r.0).run c.run in
        let once : AreToldOnce (total_of y.batches) waiting told = once_first waiting g.first r.0 l.calls c.once in
        by_asked (λ x. ContinuesTo all others asked i y waiting final new told (InHand l) l.last x) rest result l asks_line
        (λ fault e first.
        stops_with y waiting told (InHand l) l.last c.settled.after (Some (record_for l.at.last e.line)) new e.came fault run once
        (λ p. c.powered (r.0.powered p))
        (line_came laws l.at c.settled c.then_is rest c.ready e.line new e.came e.begins.within e.asks.recorded e.asks.middle e.asks.records
        e.asks.goes first)
        (λ p k. rw (same_pending (record_for l.at.last e.line) p k) (e.held, e.begins))
        (λ p k. rw (same_pending (record_for l.at.last e.line) p k) (inl (omega (arith, c.settled.at_end)))) e.says)
        (λ by x. rests_at y waiting told (InHand l) l.last l.at new l.last result c.settled run once (λ p. c.powered (r.0.powered p)) x by)

    ends_by : (goes : SessionGoesAfterResume i.variant i.meaning s.begun s.middle (host_standing final new) left' s.taken s.sent result)
        → AreMade s waiting requests goes
        → ContinuesTo all others asked i y waiting final new (served_calls_in waiting goes) (IsInHand waiting goes)
        (last_bytes_in goes) result
    ends_by (inl e) a = at_once (ap (λ (h : HostStanding). h.kept) e.0) e.1 (recovers_last (ap (λ (h : HostStanding). h.standing) e.0) a)
    ends_by (inr g) a = serves_on g a.0 a.1 a.2

    -- of the history of which was asked
    pub continues_by : AreMade s waiting requests s.goes → (life_of i.variant z ≢ LostLife → life_of i.variant y ≢ LostLife)
        → ContinuesTo all others asked i z waiting final new (served_calls_in waiting s.goes) (IsInHand waiting s.goes)
        (last_bytes_in s.goes) result
    continues_by made powered =
        let c = ends_by s.goes made in
        record {
          runs = record {
            after = c.runs.after;
            stands = c.runs.stands;
            within = c.runs.within;
            requests = c.runs.requests;
            run = subst (λ (bs : List Batch). CallsRunOver i.meaning (requests_of bs) (served_calls_in waiting s.goes) c.runs.requests)
                (laws.batches y z here.same) c.runs.run;
            committed = c.runs.committed;
            in_part = c.runs.in_part;
            unspoiled = c.runs.unspoiled;
            powered = λ p. c.runs.powered (powered p);
          };
          once = subst (λ (bs : List Batch). AreToldOnce (total_of bs) waiting (served_calls_in waiting s.goes))
              (laws.batches y z here.same) c.once;
          room = c.room;
          slots_after = c.slots_after;
          honest = c.honest;
          slots_told = c.slots_told;
          fits = c.fits;
          whole = c.whole;
          refuses = c.refuses;
        }

    -- where all that were told, and the one in hand, are the first of the requests
    line_among : (told : List ServedCall) (number : ℕ) (at : SessionPlace) (left : Option (List ℕ)) (more sent : List ℕ)
        (a : AreAmong told (λ (request : List ℕ). (held : List ℕ) × BytesBeginWith more request held) requests)
        → (result : Result Unit SessionFault)
        → (e : TurnGoes i.variant i.meaning number at (host_standing final new) left more [] sent (turn_answer_of result))
        → IsLineAsked i.variant i.meaning number at (host_standing final new) left more sent a.served.0 result e
    line_among told number at left more sent a (Err (Host fault)) e = λ written. among_next told more a e.line e.held e.begins
    line_among told number at left more sent a (Err (Lines WriteFault)) e = λ written. among_next told more a e.line e.held e.begins
    line_among told number at left more sent a _ e = tt

    made_among : (goes : SessionGoesAfterResume i.variant i.meaning s.begun s.middle (host_standing final new) left' s.taken s.sent result)
        → AreAmong (served_calls_in waiting goes) (IsInHand waiting goes) requests → AreMade s waiting requests goes
    made_among (inl e) a = λ made p k. let f = a.in_hand p.request (p, k, refl) in (f.0, sym f.1)
    made_among (inr g) a = (
      a.served.0,
      a.served.1,
      line_among (first_served_call waiting g.first ++ g.lines.calls) (length g.lines.calls + 1) g.lines.at left' g.lines.more
          g.lines.last a result
          g.lines.ends,
    )

    pub continues_to : AreAmong (served_calls_in waiting s.goes) (IsInHand waiting s.goes) requests
        → (life_of i.variant z ≢ LostLife → life_of i.variant y ≢ LostLife)
        → ContinuesTo all others asked i z waiting final new (served_calls_in waiting s.goes) (IsInHand waiting s.goes)
        (last_bytes_in s.goes) result
    continues_to among powered = continues_by (made_among s.goes among) powered

-- The calls that a session makes, one after another, whatever the slots hold. With it: where the
-- output failed; where there is a position for each request, none is refused as Full.
use Rattle.std.specs.Prelude.{IsSome}
use Rattle.mm_model.specs.declared.refusal.Refusal.TheVariants.{Full}
use Rattle.mm_model.specs.declared.refusal.Refusal.TheVariants as refusal
use Rattle.mm_schedule.specs.Replies.{IsBatchStep}
use Rattle.mm_schedule.specs.declared.reply.Reply.TheVariants.{Told}
use Rattle.mm_play.specs.Headline.{IsFrontOf}
use Rattle.mm_store.specs.declared.fault.StoreFault.TheVariants as store
use Rattle.mm_recovery.specs.declared.fault.HostFault.TheVariants as host
use Rattle.mm_host.specs.AnySlots.{CallsInTurn}
use Rattle.mm_host.specs.Continuation.{IsToldInPart, last_bytes_in}
use Rattle.mm_host.specs.Sessions.{SessionGoesOn, ServesAllLines}
use Rattle.mm_host.proofs.Below.{◌≡◌, ◌≢◌, ◌∙◌, ◌⊎◌, ℕ, List, [], Result, Ok, Err, refl, ap, inl, inr, Meaning, One, Answer, Refusal}
use Rattle.mm_host.proofs.Below.{StoreFault, HostFault, Resumed, Start, Answered, SessionFault, Host, Lines, WriteFault, SendsReply}
use Rattle.mm_host.proofs.Below.{reply_text, refusal_text, told_cause, RequestMayBeCommitted, fault_of, store_fault_as, answer_reply, ◌∷◌}
use Rattle.mm_host.proofs.Below.{◌++◌, Option, None, Some, sym, append_assoc, lines_of, Variant, Standing, ReadsSlot, StoreStanding}
use Rattle.mm_host.proofs.Below.{PendingRecord, Slots, slot_front, first_offer, offer_slot, offer_after, IsCall, IsInHand}
use Rattle.mm_host.proofs.Below.{first_served_call, served_calls_in, HostGoesAfterFinding, HostGoesAfterOffer, result_of_start, snapshot_at}
use Rattle.mm_host.proofs.Below.{SessionPlace, ServedCall, ServesCalls, SessionGoesAfterResume, BytesBeginWith, IsSession}
use Rattle.mm_host.proofs.Below.{SessionStopsAtOnce, IsWaiting, Saw, one_waiting, saw_two, AreAmong, requests_with, served_lines}
use Rattle.mm_host.proofs.Below.{HostStanding, host_standing, SessionStanding, host_of, ◌+◌, ◌-◌, ◌≤◌, Bool, true, false, length, arith}
use Rattle.mm_host.proofs.Below.{length-append, last_position, Batch, Instance, History, total_of, ContinuesTo, CallsRunOver}
use Rattle.mm_host.proofs.Lines.{answered_call, asks, by_end, by_told, IsRead, line_tries, lines_in, never_refused, TellsCall, tried_answer}
use Rattle.mm_host.proofs.Lines.{next_line, read_of, tells_call, Tries, length-served_lines}

-- Where the output failed: of which line a front is out, and that it is true.

-- the line of what came isn't empty, and a front of it is out
pub front_of : (came : Result Resumed HostFault) (sent : List ℕ) (fault : SessionFault) → SendsReply came sent (Err fault)
    → fault ≡ Lines WriteFault → (reply_text came ≢ []) × IsFrontOf sent (reply_text came)
front_of (Ok it) sent fault (inl s) is = let clash : Err fault ≡ Ok it = s.1 in absurd (cc)
front_of (Err why) sent fault (inl s) is = let clash : Err fault ≡ Err (Host why) = s.1 in absurd (cc)
front_of came sent fault (inr s) is = (s.1, s.2)

store_text : (why : StoreFault) → reply_text (Err (store_fault_as why)) ≡ []
store_text store.Memory = refl
store_text store.Failed = refl

-- nothing is told of a store that failed
pub store_untold : (why : StoreFault) (came : Result Resumed HostFault) (sent : List ℕ) (fault : SessionFault)
    → came ≡ Err (store_fault_as why) → SendsReply came sent (Err fault) → fault ≡ Lines WriteFault → ⊥
store_untold why came sent fault e says is = (front_of came sent fault says is).0 (ap reply_text e ∙ store_text why)

module _ (meaning : Meaning) (hand : List ℕ → Type 0) (requests after : List (List ℕ)) where
  -- a refusal that is told leaves the list
  refused_leaves : (why : Refusal) → (after ≡ requests) ⊎ IsSome (fault_of why) → refusal_text (told_cause why) ≢ [] → after ≡ requests
  refused_leaves why (inl same) some = same
  refused_leaves (refusal.Device fault) (inr has) some = absurd (some refl)
  refused_leaves _ (inr has) some = absurd (cc)

  by_front : (came : Result Resumed HostFault) (sent : List ℕ)
      → ((answer : Answer) → came ≡ Ok (Answered answer) → (request : List ℕ) × hand request
      × IsBatchStep meaning requests (One request) (answer_reply answer) after)
      → (after ≡ requests) ⊎ RequestMayBeCommitted came → reply_text came ≢ [] → IsFrontOf sent (reply_text came)
      → IsToldInPart meaning hand sent requests after
  by_front (Ok (Answered answer)) sent steps only some front =
      let x = steps answer refl in inl (x.0, answer, x.1, x.2, front)
  by_front (Ok (Start first)) sent steps only some front = absurd (some refl)
  by_front (Err (host.Refused why)) sent steps only some front = inr (refused_leaves why only some, why, front)
  by_front (Err _) sent steps only some front = absurd (some refl)

  pub told_in_part : (came : Result Resumed HostFault) (sent : List ℕ) (fault : SessionFault) → SendsReply came sent (Err fault)
      → ((answer : Answer) → came ≡ Ok (Answered answer) → (request : List ℕ) × hand request
      × IsBatchStep meaning requests (One request) (answer_reply answer) after)
      → (after ≡ requests) ⊎ RequestMayBeCommitted came → fault ≡ Lines WriteFault → IsToldInPart meaning hand sent requests after
  told_in_part came sent fault says steps only is =
      let f = front_of came sent fault says is in by_front came sent steps only f.0 f.1

-- The calls that a session makes, one after another, whatever the slots hold; and the requests that it makes are among what waited
-- and the lines of its input.

-- How a session ends behind its calls: it rests, and isn't refused; or a request in hand is tried, and what comes ends it.
pub data Ends (variant : Variant) (meaning : Meaning) (at final : Standing) (offer : List ℕ) (hand : List ℕ → Type 0)
    (last : List ℕ) (result : Result Unit SessionFault) : Type 0 where
  rests : final ≡ at → ((why : Refusal) → result ≡ Err (Host (host.Refused why)) → ⊥) → (result ≡ Err (Lines WriteFault) → ⊥)
      → Ends variant meaning at final offer hand last result
  stops : (request : List ℕ) → hand request → (came : Result Resumed HostFault) → Tries variant meaning at final offer request came
      → (fault : SessionFault) → SendsReply came last (Err fault) → result ≡ Err fault
      → Ends variant meaning at final offer hand last result

-- a session as its calls
pub record Chain (variant : Variant) (meaning : Meaning) (offer : List ℕ) (before final : Standing) (told : List ServedCall)
    (hand : List ℕ → Type 0) (last : List ℕ) (result : Result Unit SessionFault) : Type 0 where
  pub at : Standing
  pub calls : CallsInTurn variant meaning offer before told at
  pub ends : Ends variant meaning at final (offer_after offer told) hand last result

-- What a start came to: nothing was asked, as memory was wanting or the store failed; nothing waits, and it begins with these bytes;
-- or a call that offers them was made for what waits.
pub data Begun (variant : Variant) (meaning : Meaning) (before after : Standing) (offer : List ℕ) (waiting : Option PendingRecord)
    (came : Result Resumed HostFault) : Type 0 where
  failed : after ≡ before → (why : StoreFault) → came ≡ Err (store_fault_as why) → Begun variant meaning before after offer waiting came
  starts : after ≡ before → waiting ≡ None → came ≡ Ok (Start offer) → Begun variant meaning before after offer waiting came
  repeats : (p : PendingRecord) → waiting ≡ Some p → (call : Result Answer Refusal) → IsCall variant meaning before after
      offer p.request call
      → TellsCall call came → Begun variant meaning before after offer waiting came

module _ (variant : Variant) (meaning : Meaning) where
  pub served_calls : (from to : SessionPlace) (calls : List ServedCall) → ServesCalls variant meaning from calls to
      → CallsInTurn variant meaning (snapshot_at from.last) from.host.standing calls to.host.standing
  served_calls from to [] s = ap (λ (p : SessionPlace). p.host.standing) s
  served_calls from to (c ∷ calls) s = (
    s.host.standing,
    answered_call c.answer (line_tries s.asks),
    served_calls (record { host = s.host; last = Answered c.answer }) to calls s.rest,
  )

  pub last_offer : (from to : SessionPlace) (calls : List ServedCall) → ServesCalls variant meaning from calls to
      → offer_after (snapshot_at from.last) calls ≡ snapshot_at to.last
  last_offer from to [] s = ap (λ (p : SessionPlace). snapshot_at p.last) (sym s)
  last_offer from to (c ∷ calls) s =
      last_offer (record { host = s.host; last = Answered c.answer }) to calls s.rest

  pub calls_split : (offer : List ℕ) (before after : Standing) (front behind : List ServedCall)
      → CallsInTurn variant meaning offer before (front ++ behind) after
      → (middle : Standing) × CallsInTurn variant meaning offer before front middle
      × CallsInTurn variant meaning (offer_after offer front) middle behind after
  calls_split offer before after [] behind h = (before, refl, h)
  calls_split offer before after (c ∷ front) behind h =
      let r = calls_split c.answer.snapshot h.0 after front behind h.2 in
      (r.0, (h.0, h.1, r.1), r.2)

-- the lines that were served, and how they end
module _ {variant : Variant} {meaning : Meaning} {from : SessionPlace} {new : HostStanding} {left : Option (List ℕ)}
    {taken sent : List ℕ} {result : Result Unit SessionFault}
    (l : ServesAllLines variant meaning 1 from new left taken sent result) where
  abbrev pub InHand : List ℕ → Type 0
  InHand request = (held : List ℕ) × BytesBeginWith l.more request held

  abbrev pub lines_chain : Chain variant meaning (snapshot_at from.last) from.host.standing new.standing l.calls InHand l.last result
  lines_chain = record {
    at = l.at.host.standing;
    calls = served_calls variant meaning from l.at l.calls l.serves;
    ends = rw (last_offer variant meaning from l.at l.calls l.serves)
        (by_end (λ r. Ends variant meaning l.at.host.standing new.standing (snapshot_at l.at.last) InHand l.last r) result l
        (λ fault e. stops e.line (e.held, e.begins) e.came (line_tries e.asks) fault e.says refl)
        (λ by r. rests (ap (λ (h : HostStanding). h.standing) r.still) (λ why e. rw e at by) (λ e. rw e at by)));
  }

module _ (variant : Variant) (meaning : Meaning) (before after : Standing) where
  -- how a start came to it, over a store that tells its slots
  module _ (slots : Slots) where
    begun_start : (zero : Result (List ℕ) StoreFault) (came : Result Resumed HostFault) (old new : StoreStanding) → after ≡ before
        → old.slots ≡ Some slots → ReadsSlot 0 old new zero → came ≡ result_of_start zero
        → Begun variant meaning before after (first_offer slots None) None came
    begun_start (Ok bytes) came old new same told r e = starts same refl (e ∙ ap (λ (b : List ℕ). Ok (Start b)) (r.gives slots told))
    begun_start (Err why) came old new same told r e = failed same why e

    begun_repeat : (offer : Result (List ℕ) StoreFault) (came : Result Resumed HostFault) (old middle new : StoreStanding)
        (p : PendingRecord)
        → old.slots ≡ Some slots → ReadsSlot (offer_slot p) old middle offer
        → HostGoesAfterOffer variant meaning offer (host_standing before middle) (host_standing after new) p came
        → Begun variant meaning before after (first_offer slots (Some p)) (Some p) came
    begun_repeat (Err why) came old middle new p told r g = failed (ap (λ (h : HostStanding). h.standing) g.0) why g.1
    begun_repeat (Ok bytes) came old middle new p told r g =
        repeats p refl g.asked (rw (r.gives slots told) at g.asks) (tells_call g.asked middle new came g.goes)

    begun_found : (found : Result (Option PendingRecord) StoreFault) (came : Result Resumed HostFault) (waiting : Option PendingRecord)
        (first middle new : StoreStanding) → IsWaiting (slot_front slots 2) (slot_front slots 3) waiting → Saw slots first middle found
        → HostGoesAfterFinding variant meaning found (host_standing before middle) (host_standing after new) came
        → Begun variant meaning before after (first_offer slots waiting) waiting came
    begun_found (Err why) came waiting first middle new w s g = failed (ap (λ (h : HostStanding). h.standing) g.0) why g.1
    begun_found (Ok found) came waiting first middle new w s g =
        rw (one_waiting (slot_front slots 2) (slot_front slots 3) waiting found w (s.waiting found refl)) (by_found found g)
      where
        by_found : (found : Option PendingRecord)
            → HostGoesAfterFinding variant meaning (Ok found) (host_standing before middle) (host_standing after new) came
            → Begun variant meaning before after (first_offer slots found) found came
        by_found None g = begun_start g.1.zero came middle new g.0 s.told g.1.reads g.1.gives
        by_found (Some p) g = begun_repeat g.offer came middle g.middle new p s.told g.reads g.goes

  -- and over any store: with some bytes
  abbrev pub BegunSomehow : Result Resumed HostFault → Type 0
  BegunSomehow came = (offer : List ℕ) × (waiting : Option PendingRecord) × Begun variant meaning before after offer waiting came

  begun_by_zero : (zero : Result (List ℕ) StoreFault) (came : Result Resumed HostFault) → after ≡ before → came ≡ result_of_start zero
      → BegunSomehow came
  begun_by_zero (Ok bytes) came same e = (bytes, None, starts same refl e)
  begun_by_zero (Err why) came same e = ([], None, failed same why e)

  begun_by_offer : (offer : Result (List ℕ) StoreFault) (came : Result Resumed HostFault) (middle new : StoreStanding) (p : PendingRecord)
      → HostGoesAfterOffer variant meaning offer (host_standing before middle) (host_standing after new) p came → BegunSomehow came
  begun_by_offer (Err why) came middle new p g = ([], None, failed (ap (λ (h : HostStanding). h.standing) g.0) why g.1)
  begun_by_offer (Ok bytes) came middle new p g =
      (bytes, Some p, repeats p refl g.asked g.asks (tells_call g.asked middle new came g.goes))

  begun_somehow : (found : Result (Option PendingRecord) StoreFault) (came : Result Resumed HostFault) (middle new : StoreStanding)
      → HostGoesAfterFinding variant meaning found (host_standing before middle) (host_standing after new) came → BegunSomehow came
  begun_somehow (Err why) came middle new g = ([], None, failed (ap (λ (h : HostStanding). h.standing) g.0) why g.1)
  begun_somehow (Ok None) came middle new g = begun_by_zero g.1.zero came g.0 g.1.gives
  begun_somehow (Ok (Some p)) came middle new g = begun_by_offer g.offer came g.middle new p g.goes

module _ (variant : Variant) (meaning : Meaning) (before after : Standing) (offer : List ℕ) where
  -- what waited was answered, or nothing did
  pub record FirstCalls (waiting : Option PendingRecord) (first : Resumed) : Type 0 where
    pub calls : (lines : List ServedCall) (at : Standing) → CallsInTurn variant meaning (snapshot_at first) after lines at
        → CallsInTurn variant meaning offer before (first_served_call waiting first ++ lines) at
    pub offers : (lines : List ServedCall)
        → offer_after offer (first_served_call waiting first ++ lines) ≡ offer_after (snapshot_at first) lines
    pub told : (lines : List ServedCall) (rest : List (List ℕ))
        → served_lines (first_served_call waiting first ++ lines) ++ rest ≡ requests_with waiting (served_lines lines ++ rest)

  first_calls : (waiting : Option PendingRecord) (first : Resumed) → Begun variant meaning before after offer waiting (Ok first)
      → FirstCalls waiting first
  first_calls waiting first (failed same why e) = let clash : Ok first ≡ Err (store_fault_as why) = e in absurd (cc)
  first_calls waiting first (starts same none e) =
      let is : first ≡ Start offer = cc in
      rw (none, is) (record { calls = λ lines at h. rw same at h; offers = λ lines. refl; told = λ lines rest. refl })
  first_calls waiting first (repeats p some call c t) =
      let a = tried_answer first (asks call c t) in
      rw (some, a.1) (record { calls = λ lines at h. (after, a.2, h); offers = λ lines. refl; told = λ lines rest. refl })

  -- it stops at once
  fault_is : (fault told : SessionFault) (result : Result Unit SessionFault) → result ≡ Err fault → result ≡ Err told → fault ≡ told
  fault_is fault told result e f = cc

  at_once : (waiting : Option PendingRecord) (begun : Result Resumed HostFault) (taken sent : List ℕ) (result : Result Unit SessionFault)
      → SessionStopsAtOnce begun taken sent result → Begun variant meaning before after offer waiting begun
      → Ends variant meaning before after offer
      (λ (request : List ℕ). (p : PendingRecord) × (waiting ≡ Some p) × (p.request ≡ request)) sent result
  at_once waiting begun taken sent result s (failed same why e) =
      rests same (λ (refusal : Refusal) (r : result ≡ Err (Host (host.Refused refusal))).
      let is : Err s.fault ≡ Err (Host (host.Refused refusal)) = sym s.stops ∙ r in
      never_refused why begun sent s.fault refusal e s.says (cc))
      (λ w. store_untold why begun sent s.fault e s.says (fault_is s.fault (Lines WriteFault) result s.stops w))
  at_once waiting begun taken sent result s (starts same none e) =
      rests same (λ refusal r. by_told (λ (f : SessionFault). ⊥) begun sent s.fault s.says (λ (why : HostFault) (w : begun ≡ Err why). cc)
      (λ n. n (ap reply_text e)))
      (λ w. (front_of begun sent s.fault s.says (fault_is s.fault (Lines WriteFault) result s.stops w)).0 (ap reply_text e))
  at_once waiting begun taken sent result s (repeats p some call c t) =
      stops p.request (p, some, refl) begun (asks call c t) s.fault s.says s.stops

module _ {variant : Variant} {meaning : Meaning} {old new : SessionStanding} {result : Result Unit SessionFault}
    (s : IsSession variant meaning old new result) where
  -- a session that began so
  module _ (offer : List ℕ) (waiting : Option PendingRecord)
      (begun_by : Begun variant meaning old.standing s.middle.standing offer waiting s.begun)
    where
      pub first_by : (first : Resumed) → s.begun ≡ Ok first → FirstCalls variant meaning old.standing s.middle.standing offer waiting first
      first_by first e =
          first_calls variant meaning old.standing s.middle.standing offer waiting first
          (rw e at begun_by)

      chain_by : (goes : SessionGoesAfterResume variant meaning s.begun s.middle (host_of new) new.left s.taken s.sent result)
          → Chain variant meaning offer old.standing new.standing (served_calls_in waiting goes) (IsInHand waiting goes)
          (last_bytes_in goes) result
      chain_by (inl e) = record {
        at = old.standing;
        calls = refl;
        ends = at_once variant meaning old.standing new.standing offer waiting s.begun s.taken s.sent result e.1
            (rw (ap (λ (h : HostStanding). h.standing) e.0) begun_by);
      }
      chain_by (inr g) =
          let l = lines_chain g.lines in
          let f = first_by g.first g.begins in
          record {
            at = l.at;
            calls = f.calls g.lines.calls l.at l.calls;
            ends = rw (f.offers g.lines.calls) l.ends;
          }

      among_by : (input : List ℕ) → IsRead input s.taken new.left
          → (goes : SessionGoesAfterResume variant meaning s.begun s.middle (host_of new) new.left s.taken s.sent result)
          → AreAmong (served_calls_in waiting goes) (IsInHand waiting goes) (requests_with waiting (lines_of input))
      among_by input read (inl e) = record {
        served = (requests_with waiting (lines_of input), refl);
        in_hand = λ request h. rw h.1 (lines_of input, ap (λ (r : List ℕ). r ∷ lines_of input) (sym h.2));
      }
      among_by input read (inr g) =
          let l = g.lines in
          let told : List ServedCall = first_served_call waiting g.first in
          let all_lines : served_lines (told ++ l.calls) ++ lines_of (l.more ++ read.rest) ≡ requests_with waiting (lines_of input) =
          (first_by g.first g.begins).told l.calls (lines_of (l.more ++ read.rest)) ∙ ap (requests_with waiting) (sym (lines_in l read)) in
          record {
            served = (lines_of (l.more ++ read.rest), all_lines);
            in_hand = λ request h. (
              lines_of (h.0 ++ read.rest),
              append_assoc (served_lines (told ++ l.calls)) (request ∷ []) (lines_of (h.0 ++ read.rest))
                  ∙ ap (λ (x : List (List ℕ)). served_lines (told ++ l.calls) ++ x) (sym (next_line l.more read.rest request h.0 h.1))
                  ∙ all_lines,
            );
          }

  -- over a store that tells its slots
  module _ (slots : Slots) (waiting : Option PendingRecord) (slots_told : old.kept.slots ≡ Some slots)
      (w : IsWaiting (slot_front slots 2) (slot_front slots 3) waiting) where
    pub begun_told : Begun variant meaning old.standing s.middle.standing (first_offer slots waiting) waiting s.begun
    begun_told =
        let r = s.resumes in
        begun_found variant meaning old.standing s.middle.standing slots r.waiting s.begun waiting old.kept r.middle s.middle.kept w
        (saw_two slots r.finds.two old.kept r.finds.middle r.middle r.waiting slots_told r.finds.reads r.finds.goes) r.goes

    pub chain_of : Chain variant meaning (first_offer slots waiting) old.standing new.standing (served_calls_in waiting s.goes)
        (IsInHand waiting s.goes) (last_bytes_in s.goes) result
    chain_of = chain_by (first_offer slots waiting) waiting begun_told s.goes

    pub among_input : (input : List ℕ) → old.left ≡ Some input
        → AreAmong (served_calls_in waiting s.goes) (IsInHand waiting s.goes) (requests_with waiting (lines_of input))
    among_input input e =
        among_by (first_offer slots waiting) waiting begun_told input (read_of old.left new.left input s.taken e s.consumed) s.goes

    -- what was told first
    pub first_told : (g : SessionGoesOn variant meaning s.begun s.middle (host_of new) new.left s.taken s.sent result)
        (rest : List (List ℕ))
        → served_lines (first_served_call waiting g.first ++ g.lines.calls) ++ rest ≡ requests_with waiting
        (served_lines g.lines.calls ++ rest)
    first_told g rest = (first_by (first_offer slots waiting) waiting begun_told g.first g.begins).told g.lines.calls rest

  -- and over any store
  pub record SomeChain : Type 0 where
    pub offer : List ℕ
    pub waiting : Option PendingRecord
    pub chain : Chain variant meaning offer old.standing new.standing (served_calls_in waiting s.goes) (IsInHand waiting s.goes)
        (last_bytes_in s.goes) result

  pub some_chain : SomeChain
  some_chain =
      let r = s.resumes in
      let b = begun_somehow variant meaning old.standing s.middle.standing r.waiting s.begun r.middle s.middle.kept r.goes in
      record { offer = b.0; waiting = b.1; chain = chain_by b.0 b.1 b.2 s.goes }

-- Where there is a position for each request, none is refused as Full.

-- each answer adds one request at most
step_most : (meaning : Meaning) (again : Bool) (requests after : List (List ℕ)) (line : List ℕ) (before : ℕ) (outputs : List (List ℕ))
    → IsBatchStep meaning requests (One line) (Told again before outputs) after → length after ≤ length requests + 1
step_most meaning false requests after line before outputs s =
    omega (arith, ap (λ (xs : List (List ℕ)). length xs) s.grown, length-append requests (line ∷ []))
step_most meaning true requests after line before outputs s = omega (arith, ap (λ (xs : List (List ℕ)). length xs) s.2)

runs_most : (meaning : Meaning) (told : List ServedCall) (requests after : List (List ℕ)) → CallsRunOver meaning requests told after
    → length after ≤ length requests + length told
runs_most meaning [] requests after r = omega (arith, ap (λ (xs : List (List ℕ)). length xs) r)
runs_most meaning (c ∷ told) requests after r =
    omega (
      arith,
      step_most meaning c.answer.again requests r.0 c.line (c.answer.position - 1) (c.answer.output ∷ []) r.1,
      runs_most meaning told r.0 after r.2,
    )

module _ {variant : Variant} {meaning : Meaning} {old new : SessionStanding} {result : Result Unit SessionFault}
    (s : IsSession variant meaning old new result) (slots : Slots)
    (waiting : Option PendingRecord)
    (slots_told : old.kept.slots ≡ Some slots) (w : IsWaiting (slot_front slots 2) (slot_front slots 3) waiting)
    {all others : List (List ℕ)} {asked : List Batch} {i : Instance} (y : History) (requests : List (List ℕ))
    (among : AreAmong (served_calls_in waiting s.goes) (IsInHand waiting s.goes) requests)
    (room : total_of y.batches + length requests ≤ last_position)
    (c : ContinuesTo all others asked i y waiting new.standing new.kept (served_calls_in waiting s.goes) (IsInHand waiting s.goes)
    (last_bytes_in s.goes) result) where
  -- the requests at the end are those that were told, with none in hand
  few : result ≡ Err (Host (host.Refused Full)) → length c.runs.requests ≡ last_position
  few full = elim c.runs.committed [
    | inl same ↦ let used : total_of c.runs.after.batches ≡ last_position = rw full at c.refuses in
        omega (arith, used, ap (λ (xs : List (List ℕ)). length xs) same)
    | inr untold ↦ let clash : false ≡ true = rw full at untold.untold in absurd (cc)
  ]

  by_ends : {at : Standing} {offer : List ℕ}
      → Ends variant meaning at new.standing offer (IsInHand waiting s.goes) (last_bytes_in s.goes) result
      → result ≡ Err (Host (host.Refused Full)) → ⊥
  by_ends (rests same never unwritten) full = never Full full
  by_ends (stops request h came t fault says ends) full =
      let first = among.in_hand request h in
      omega (
        arith,
        few full,
        room,
        runs_most i.meaning (served_calls_in waiting s.goes) _ c.runs.requests c.runs.run,
        length-served_lines (served_calls_in waiting s.goes),
        length-append (served_lines (served_calls_in waiting s.goes)) (request ∷ []),
        length-append (served_lines (served_calls_in waiting s.goes) ++ request ∷ []) first.0,
        ap (λ (xs : List (List ℕ)). length xs) first.1,
      )

  pub unless_full : result ≡ Err (Host (host.Refused Full)) → ⊥
  unless_full full = by_ends (chain_of s slots waiting slots_told w).ends full

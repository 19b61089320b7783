-- Calls one after another by lists, whatever is offered first that names a position where it is right.
use Rattle.mm_host.proofs.Below.{◌≡◌, ◌≢◌, ◌∙◌, ◌+◌, ℕ, Bool, true, false, List, [], ◌∷◌, ◌++◌, Some, Result, Ok, refl, sym, ap, inl, inr}
use Rattle.mm_host.proofs.Below.{arith, ◌⊎◌, if◌then◌else◌, nat_eq, nat_tests, Variant, Basic, Opt, Standing, Batch, One, Content}
use Rattle.mm_host.proofs.Below.{offered_snapshot_of, sealed_snapshot_of, tag_of, parts_of, sealed_parts, Instance, History, Commit}
use Rattle.mm_host.proofs.Below.{history_after, requests_of, total_of, LostLife, life_of, StandsFor, IsGenuine, IsRight, issued_bytes}
use Rattle.mm_host.proofs.Below.{Answer, BatchAnswer, Refusal, answer_on, IsWithin, right_content, batch_answer_of, batch_result_of, IsIdle}
use Rattle.mm_host.proofs.Below.{right_is, one_content, IsBatchStep, PendingRecord, AreAskedInTurn, history_after_answer, offer_after}
use Rattle.mm_host.proofs.Below.{IsCall, CallsRunOver, answer_reply, IsSnapshotAt, ServedCall, served_lines, one_more, IsGrownBy, IsSame}
use Rattle.mm_host.proofs.Below.{Met, holds_issued, SessionFault, IsCallOnCourse}
use Rattle.std.proofs.lemmas.Slice.Eq.{bytes_eq-Decides}
use Rattle.mm_model.specs.Moves.{IsFit}
use Rattle.mm_call.specs.CallFinding.{HistoryGrows, kept, grown}
use Rattle.mm_host.proofs.CallsMade.{Chain, Ends, rests, stops}
use Rattle.mm_host.proofs.Leading.{grown_more, Laws, Makes, met_end, met_on, push_batches, reach_same, reach_then, Reaches, Shows}
use Rattle.mm_host.proofs.Leading.{steps_again, steps_fresh}
use Rattle.mm_host.proofs.Lines.{asks, fails}
use Rattle.mm_host.specs.AnySlots.{CallsInTurn}

-- what a right offer says
said_of : (i : Instance) (bytes : List ℕ) (content : Content) → IsRight i bytes content → right_content i bytes ≡ Some content
said_of i bytes content right =
    right_is i (parts_of i.variant i.meaning.id bytes) (offered_snapshot_of i.key content)
    (ap (parts_of i.variant i.meaning.id) right.sealed
    ∙ sealed_parts i.key content i.variant i.meaning.id right.formed right.variant right.id) right.state
    ((bytes_eq-Decides (tag_of i.key content) (tag_of i.key content)).1 refl)

-- a request with a record of it, for laws of what waits
abbrev pub pending_for : List ℕ → PendingRecord
pending_for request = record { position = 1; request = request }

same_then : (variant : Variant) (x y z : History) → IsSame variant x y → IsSame variant y z → IsSame variant x z
same_then Basic x y z a b = a ∙ b
same_then Opt x y z a b = a ∙ b

-- no call is made, or one that minds no register
abbrev pub MindsNothing : Instance → History → List ℕ → List (List ℕ) → Type 0
MindsNothing i y offer [] = Unit {0}
MindsNothing i y offer (request ∷ requests) = IsIdle i y offer (One request) × (requests ≡ [])

none_left : (i : Instance) (y : History) (offer : List ℕ) (requests : List (List ℕ)) → requests ≡ [] → MindsNothing i y offer requests
none_left i y offer requests none = rw none tt

-- Where a session stands: for a history, which is the same as this one but for others' values; and what it offers next, where
-- that is right, names a position of it.
pub record StandsIn (all others : List (List ℕ)) (asked : List Batch) (i : Instance) (y z : History) (standing : Standing)
    (offer : List ℕ) : Type 0 where
  pub stands : StandsFor i standing y
  pub within : IsWithin all others asked i y
  pub genuine : IsGenuine i y offer
  pub same : IsSame i.variant y z

-- a request that was answered
pub record Stepped (all others : List (List ℕ)) (asked : List Batch) (i : Instance) (y z : History) (standing : Standing)
    (offer line : List ℕ) (answer : Answer) (after : History) : Type 0 where
  pub here : StandsIn all others asked i after (history_after_answer i z offer line) standing answer.snapshot
  pub next : answer.snapshot ≡ issued_bytes i (history_after_answer i z offer line)
  pub step : IsBatchStep i.meaning (requests_of y.batches) (One line) (answer_reply answer) (requests_of after.batches)

module _ {all others : List (List ℕ)} {asked : List Batch} {i : Instance} {final : Standing} (laws : Laws all others asked i final) where
  module _ (y z : History) (old standing : Standing) (offer : List ℕ) (p : PendingRecord) (answer : Answer)
      (s : StandsIn all others asked i y z old offer) (fit : IsFit (One p.request) (batch_answer_of answer))
      (m : Met all others asked i y standing offer p (Ok (batch_answer_of answer))) where
    abbrev line : List ℕ
    line = p.request

    -- the history after an answer, by what the offer says
    answered_flag : (content : Content) (flag : Bool) → IsRight i offer content → nat_eq content.position (total_of z.batches) ≡ flag
        → history_after_answer i z offer line ≡ (if flag then history_after i z (Commit (One line)) else z)
    answered_flag content flag right e = rw (said_of i offer content right, e) refl

    grown_same : m.after.batches ≡ y.batches → IsGrownBy i y (Some p) m.after → IsSame i.variant m.after z
    grown_same same (inl e) = same_then i.variant m.after y z e s.same
    grown_same same (inr g) =
        let clash : total_of y.batches ≡ total_of y.batches + 1 =
        ap total_of (sym same ∙ laws.batches m.after (history_after i y (Commit (One g.0.request))) g.2
        ∙ push_batches i.variant y.is_open y (One g.0.request)) ∙ one_more y.batches g.0.request in
        absurd (omega (arith, clash))

    -- what an answer hands on
    step_to : (z_then : History) (again : Bool) → history_after_answer i z offer line ≡ z_then → IsSame i.variant m.after z_then
        → batch_answer_of answer ≡ answer_on i m.after (One line) again
        → IsBatchStep i.meaning (requests_of y.batches) (One line) (answer_reply answer) (requests_of m.after.batches)
        → Stepped all others asked i y z standing offer line answer m.after
    step_to z_then again is same gives step =
        let at : answer.position ≡ total_of m.after.batches = ap (λ (b : BatchAnswer). b.position) gives in
        let bytes : answer.snapshot ≡ issued_bytes i m.after = ap (λ (b : BatchAnswer). b.snapshot) gives in
        let h : IsSnapshotAt i m.after answer.snapshot answer.position =
        holds_issued i laws.lawful m.after answer.snapshot answer.position (m.issues (batch_answer_of answer) refl)
        (rw at at fit.most) bytes at in
        record {
          here = record {
            stands = m.stands;
            within = m.within;
            genuine = λ content right. rw (one_content i answer.snapshot h.content content h.right right) at h.names;
            same = rw is same;
          };
          next = bytes ∙ ap (λ (c : Content). sealed_snapshot_of i.key c) (laws.issue m.after z_then same) ∙ ap (issued_bytes i) (sym is);
          step = step;
        }

    pub stepped_by : HistoryGrows i y offer (One line) m.after (Ok (batch_answer_of answer))
        → Stepped all others asked i y z standing offer line answer m.after
    stepped_by (kept same answers) =
        let r = answers (batch_answer_of answer) refl in
        let totals : total_of y.batches ≡ total_of z.batches = ap total_of (laws.batches y z s.same) in
        let here : r.content.position + 1 ≡ total_of z.batches =
        omega (arith, r.position, totals, one_more r.ends.front line, ap total_of r.ends.is) in
        step_to z true (answered_flag r.content false r.right (grind (arith, nat_tests, here)))
        (grown_same same m.grown) r.answer_is (steps_again i y m.after r.ends.front line answer r.answer_is same r.ends.is)
    stepped_by (grown content right at more answers) =
        let is : batch_answer_of answer ≡ answer_on i m.after (One line) false = answers (batch_answer_of answer) refl in
        let here : content.position ≡ total_of z.batches = at ∙ ap total_of (laws.batches y z s.same) in
        step_to (history_after i z (Commit (One line))) false
        (answered_flag content true right (grind (arith, nat_tests, here)))
        (grown_more laws y z m.after p m.within.sound (laws.like y z s.same) (ap total_of more ∙ one_more y.batches line)
        m.grown) is
        (steps_fresh i y m.after line answer is more)

  -- What is asked of what others do: the register's items at the very end are known, or no call minds them.
  abbrev pub May : History → Standing → List ℕ → List (List ℕ) → Type 0
  May y standing offer requests = Shows i.variant all others i y standing final ⊎ MindsNothing i y offer requests

  -- a call for the next request
  module _ (y z : History) (old middle : Standing) (offer : List ℕ) (p : PendingRecord) (rest : List (List ℕ))
      (s : StandsIn all others asked i y z old offer)
      (f : AreAskedInTurn all asked i z offer (p.request ∷ rest)) (may : May y old offer (p.request ∷ rest)) where
    makes : (gives : Result BatchAnswer Refusal) → IsCallOnCourse i.variant i.meaning old middle offer (One p.request) gives
        → Makes all others asked i y old middle offer p gives
    makes gives c = record {
      goes = c;
      stands = s.stands;
      asks = record {
        clear = laws.clear;
        apart = laws.apart;
        within = s.within;
        is_asked = f.0;
        genuine = s.genuine;
        offered = f.1;
      };
    }

    -- one that was answered
    pub met_between : (answer : Answer) → Reaches i.variant i middle final
        → IsCall i.variant i.meaning old middle offer p.request (Ok answer)
        → (m : Met all others asked i y middle offer p (Ok (batch_answer_of answer))) × May m.after middle answer.snapshot rest
    met_between answer reaches c =
        let o = met_on laws y old offer p may middle (batch_answer_of answer) (makes (Ok (batch_answer_of answer)) c.goes) reaches in
        (o.0, elim o.1 [ inl shows ↦ inl shows | inr none ↦ inr (none_left i _ _ rest none) ])

  -- the last one
  pub met_last : (y z : History) (old : Standing) (offer : List ℕ) (p : PendingRecord) (rest : List (List ℕ)) (call : Result Answer Refusal)
      → StandsIn all others asked i y z old offer → AreAskedInTurn all asked i z offer (p.request ∷ rest)
      → May y old offer (p.request ∷ rest) → IsCall i.variant i.meaning old final offer p.request call
      → Met all others asked i y final offer p (batch_result_of call)
  met_last y z old offer p rest call s f may c =
      met_end laws y old offer p may (batch_result_of call) (makes y z old final offer p rest s f may (batch_result_of call) c.goes)

  -- what is shown goes on to the end

  pub calls_reach : (offer : List ℕ) (old at : Standing) (calls : List ServedCall) → CallsInTurn i.variant i.meaning offer old calls at
      → Reaches i.variant i at final → Reaches i.variant i old final
  calls_reach offer old at [] h r = rw h at r
  calls_reach offer old at (c ∷ calls) h r =
      reach_then i.variant i old h.0 final (laws.reach old h.0 offer c.line (Ok (batch_answer_of c.answer)) h.1.goes)
      (calls_reach c.answer.snapshot h.0 at calls h.2 r)

  pub ends_reach : {at : Standing} {offer : List ℕ} {hand : List ℕ → Type 0} {sent : List ℕ} {result : Result Unit SessionFault}
      → Ends i.variant i.meaning at final offer hand sent result → Reaches i.variant i at final
  ends_reach {at} (rests same none unwritten) = reach_same i.variant i at final same
  ends_reach {at} (stops request h came (fails same why e) fault says is) = reach_same i.variant i at final same
  ends_reach {at} {offer} (stops request h came (asks call c t) fault says is) =
      laws.reach at final offer request (batch_result_of call) c.goes

  pub chain_reaches : {offer : List ℕ} {before : Standing} {told : List ServedCall} {hand : List ℕ → Type 0}
      {sent : List ℕ} {result : Result Unit SessionFault}
      → Chain i.variant i.meaning offer before final told hand sent result → Reaches i.variant i before final
  chain_reaches {offer} {before} {told} c = calls_reach offer before c.at told c.calls (ends_reach c.ends)

  -- calls one after another

  pub record AfterTurns (y : History) (standing : Standing) (offer : List ℕ) (calls : List ServedCall) (rest : List (List ℕ)) : Type 0 where
    pub after : History
    pub then_is : History
    pub here : StandsIn all others asked i after then_is standing (offer_after offer calls)
    pub may : May after standing (offer_after offer calls) rest
    pub run : CallsRunOver i.meaning (requests_of y.batches) calls (requests_of after.batches)
    pub asked_in_turn : AreAskedInTurn all asked i then_is (offer_after offer calls) rest
    pub powered : life_of i.variant y ≢ LostLife → life_of i.variant after ≢ LostLife

  pub turns : (y z : History) (old at : Standing) (offer : List ℕ) (calls : List ServedCall) (rest : List (List ℕ))
      → StandsIn all others asked i y z old offer → May y old offer (served_lines calls ++ rest)
      → AreAskedInTurn all asked i z offer (served_lines calls ++ rest) → CallsInTurn i.variant i.meaning offer old calls at
      → Reaches i.variant i at final → AfterTurns y at offer calls rest
  turns y z old at offer [] rest s may f h reaches = record {
    after = y;
    then_is = z;
    here = rw h s;
    may = rw h may;
    run = refl;
    asked_in_turn = f;
    powered = λ p. p;
  }
  turns y z old at offer (c ∷ calls) rest s may f h reaches =
      let then_is : History = history_after_answer i z offer c.line in
      let lines : List (List ℕ) = served_lines calls ++ rest in
      let m = met_between y z old h.0 offer (pending_for c.line) lines s f may c.answer
      (calls_reach c.answer.snapshot h.0 at calls h.2 reaches) h.1 in
      let t = stepped_by y z old h.0 offer (pending_for c.line) c.answer s h.1.fits m.0 m.0.comes in
      let r = turns m.0.after then_is h.0 at c.answer.snapshot calls rest t.here m.1
      (rw t.next f.2) h.2 reaches in
      record {
        after = r.after;
        then_is = r.then_is;
        here = r.here;
        may = r.may;
        run = (requests_of m.0.after.batches, t.step, r.run);
        asked_in_turn = r.asked_in_turn;
        powered = λ p. r.powered (m.0.powered p);
      }

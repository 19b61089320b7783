-- A session as its calls: those that it told, one after another; and at most one behind them that
-- it didn't tell. With it: one call of a life, in either variant; a part of a life where the module
-- doesn't live.
use Rattle.std.specs.List.{AllByRecursion, Contains, flat_map}
use Rattle.std.specs.Prelude.{IfOk, IsErr}
use Rattle.std.proofs.Common.{◌≡◌, ◌∙◌, ℕ, List, [], ◌∷◌, ◌++◌, Option, None, Some, Result, Ok, Err, ap, refl, sym, inl, inr, ◌≤◌, ◌+◌, ◌-◌}
use Rattle.std.proofs.Common.{◌⊎◌, Bool, true, false, length, length-append, arith, subst}
use Rattle.mm_bytes.specs.Limits.{last_position}
use Rattle.mm_base.specs.declared.replay_fault.ReplayFault.TheVariants as input
use Rattle.mm_digest.specs.declared.variant.Variant.{Variant}
use Rattle.mm_seal.specs.Snapshot.{Content}
use Rattle.mm_platform.specs.Standing.{Standing}
use Rattle.mm_platform.specs.declared.fault.StepFault.{StepFault}
use Rattle.mm_module.specs.Batch.{Batch, One, members_of, normal_batch, size_of}
use Rattle.mm_module.specs.Meaning.{Meaning, outputs_from, state_after}
use Rattle.mm_module.specs.RunLaws.{members_of-normal}
use Rattle.mm_model.specs.Chains.{Instance}
use Rattle.mm_model.specs.History.{History, requests_of, total_of}
use Rattle.mm_model.specs.Messages.{AreMessagesIn}
use Rattle.mm_model.specs.Moves.{IsFit}
use Rattle.mm_model.specs.Standing.{NamesPosition, IsGenuine, StandsFor}
use Rattle.mm_model.specs.declared.answer.Answer.{Answer}
use Rattle.mm_model.specs.declared.answer.BatchAnswer.{BatchAnswer}
use Rattle.mm_model.specs.declared.refusal.Refusal.{Refusal}
use Rattle.mm_call.specs.CallFinding.{answer_on, HistoryGrows, grown, kept, right_content, batch_answer_of, batch_result_of, fault_of}
use Rattle.mm_call.specs.CallKind.{IsCallOnCourse}
use Rattle.mm_call.specs.CallPremises.{IsWithin, right_messages}
use Rattle.mm_call.specs.OfferLaws.{issued_once}
use Rattle.mm_call.proofs.Above.{answered_at, requests-push, said_last}
use Rattle.mm_schedule.specs.Replies.{IsBatchStep, IsTold}
use Rattle.mm_store.specs.PendingRecord.{PendingRecord}
use Rattle.mm_store.specs.StoreStanding.{StoreStanding}
use Rattle.mm_store.specs.declared.fault.StoreFault.{StoreFault}
use Rattle.mm_recovery.specs.CellWrites.{refusal_fault, store_fault_as}
use Rattle.mm_recovery.specs.HostStanding.{IsCall, HostStanding, snapshot_at, HostGoesAfterRecord, HostGoesAfterFinding, HostGoesAfterOffer}
use Rattle.mm_recovery.specs.HostStanding.{result_of_start, LivesElsewhere}
use Rattle.mm_recovery.specs.declared.fault.HostFault.{HostFault}
use Rattle.mm_recovery.specs.declared.resuming.Resumed.{Resumed}
use Rattle.mm_recovery.specs.declared.resuming.Resumed.TheVariants.{Answered, Start}
use Rattle.mm_recovery.proofs.Above.{BatchMet, Met}
use Rattle.mm_host.specs.AnySlots.{offer_after}
use Rattle.mm_host.specs.Continuation.{IsInHand, first_served_call, last_bytes_in, served_calls_in, answer_reply}
use Rattle.mm_host.specs.Sessions.{SessionStanding, host_of, SessionGoesAfterResume, BytesBeginWith, SessionPlace, SendsReply, ServedCall}
use Rattle.mm_host.specs.Sessions.{ServesAllLines, IsSession, SessionStopsInLine, reply_text}
use Rattle.mm_host.specs.declared.fault.SessionFault.{SessionFault}
use Rattle.mm_host.specs.declared.fault.SessionFault.TheVariants.{Host, Lines}
use Rattle.mm_host.proofs.Above.{CallsInTurn, TellsCall, front_of, last_offer, served_calls, store_untold, tells_call, Laws, Makes}
use Rattle.mm_host.proofs.Above.{by_fault, pending_for, steps_again, steps_fresh}
use Rattle.mm_life.specs.Deeds.{LifeCall, call_of, IsInHandOf, bytes_of, first_bytes, first_calls, found_host, found_record, last_calls}
use Rattle.mm_life.specs.Deeds.{line_calls, offer_after_finding, offered_calls, recorded_calls, served_calls_of, untold_calls, Calls}
use Rattle.mm_life.specs.Deeds.{Checkpoints, Extends, LosesPower, told_calls}
use Rattle.mm_life.specs.Premises.{issued_snapshot_in, call_batches, PartsAreRefusedElsewhere, RefusesAll}
use Rattle.mm_life.specs.Stages.{CallSteps, IsLastJudged, batch_reply, Does, Holds}

-- How a session ends behind what it told: it rests, with no call more; or a request in hand was called, and what came of it
-- ends the session.
pub data Ends (variant : Variant) (meaning : Meaning) (at final : Standing) (offer : List ℕ) (hand : List ℕ → Type 0)
    (last : List ℕ) (calls : List LifeCall) (result : Result Unit SessionFault) : Type 0 where
  rests : final ≡ at → calls ≡ [] → (result ≡ Err (Lines input.WriteFault) → ⊥)
      → Ends variant meaning at final offer hand last calls result
  stops : (request : List ℕ) → hand request → (gives : Result Answer Refusal)
      → IsCall variant meaning at final offer request gives → calls ≡ call_of offer request gives ∷ []
      → (came : Result Resumed HostFault) → TellsCall gives came → (fault : SessionFault)
      → SendsReply came last (Err fault) → result ≡ Err fault → Ends variant meaning at final offer hand last calls result

pub record Chain (variant : Variant) (meaning : Meaning) (offer : List ℕ) (before final : Standing) (told : List ServedCall)
    (hand : List ℕ → Type 0) (last : List ℕ) (untold : List LifeCall) (result : Result Unit SessionFault) : Type 0 where
  pub at : Standing
  pub calls : CallsInTurn variant meaning offer before told at
  pub ends : Ends variant meaning at final (offer_after offer told) hand last untold result

-- What a start came to: nothing was asked; nothing waits, and it begins with what it read; or a call was made for what waits.
data Begun (variant : Variant) (meaning : Meaning) (before after : Standing) (waiting : Option PendingRecord) (offer : List ℕ)
    (calls : List LifeCall) (came : Result Resumed HostFault) : Type 0 where
  failed : after ≡ before → calls ≡ [] → (why : StoreFault) → came ≡ Err (store_fault_as why)
      → Begun variant meaning before after waiting offer calls came
  starts : after ≡ before → calls ≡ [] → waiting ≡ None → came ≡ Ok (Start offer)
      → Begun variant meaning before after waiting offer calls came
  repeats : (p : PendingRecord) → waiting ≡ Some p → (gives : Result Answer Refusal)
      → IsCall variant meaning before after offer p.request gives → calls ≡ call_of offer p.request gives ∷ []
      → TellsCall gives came → Begun variant meaning before after waiting offer calls came

-- where nothing was done the platform is as before
same_standing : (old new : HostStanding) → new ≡ old → new.standing ≡ old.standing
same_standing old new same = ap (λ (host : HostStanding). host.standing) same

module _ (variant : Variant) (meaning : Meaning) where
  begun_start : (before after : Standing) (zero : Result (List ℕ) StoreFault) (came : Result Resumed HostFault) → after ≡ before
      → came ≡ result_of_start zero → Begun variant meaning before after None (bytes_of zero) [] came
  begun_start before after (Ok bytes) came same e = starts same refl refl e
  begun_start before after (Err why) came same e = failed same refl why e

  begun_repeat : (offer : Result (List ℕ) StoreFault) (middle new : HostStanding) (p : PendingRecord) (came : Result Resumed HostFault)
      (g : HostGoesAfterOffer variant meaning offer middle new p came)
      → Begun variant meaning middle.standing new.standing (Some p) (bytes_of offer)
      (offered_calls variant meaning offer middle new p came g) came
  begun_repeat (Ok bytes) middle new p came g = repeats p refl g.asked g.asks refl (tells_call g.asked middle.kept new.kept came g.goes)
  begun_repeat (Err why) middle new p came g = failed (same_standing middle new g.0) refl why g.1

  begun_by : (waiting : Result (Option PendingRecord) StoreFault) (middle new : HostStanding) (came : Result Resumed HostFault)
      (g : HostGoesAfterFinding variant meaning waiting middle new came)
      → Begun variant meaning middle.standing new.standing (found_record waiting)
      (offer_after_finding variant meaning waiting middle new came g) (first_calls variant meaning waiting middle new came g) came
  begun_by (Ok (Some p)) middle new came g = begun_repeat g.offer (record middle { kept = g.middle }) new p came g.goes
  begun_by (Ok None) middle new came g = begun_start middle.standing new.standing g.1.zero came g.0 g.1.gives
  begun_by (Err why) middle new came g = failed (same_standing middle new g.0) refl why g.1

module _ (variant : Variant) (meaning : Meaning) (before after : Standing) where
  fault_is : (fault told : SessionFault) (result : Result Unit SessionFault) → result ≡ Err fault → result ≡ Err told → fault ≡ told
  fault_is fault told result e f = cc

  -- it stops at once
  at_once : (final : Standing) (waiting : Option PendingRecord) (offer : List ℕ) (calls : List LifeCall) (begun : Result Resumed HostFault)
      (sent : List ℕ) (fault : SessionFault) (result : Result Unit SessionFault) → final ≡ after → SendsReply begun sent (Err fault)
      → result ≡ Err fault → Begun variant meaning before after waiting offer calls begun
      → Ends variant meaning before final offer (λ (request : List ℕ). (p : PendingRecord) × (waiting ≡ Some p) × (p.request ≡ request))
      sent calls result
  at_once final waiting offer calls begun sent fault result ends says is (failed same none why e) =
      rests (ends ∙ same) none
      (λ w. store_untold why begun sent fault e says (fault_is fault (Lines input.WriteFault) result is w))
  at_once final waiting offer calls begun sent fault result ends says is (starts same none waits e) =
      rests (ends ∙ same) none
      (λ w. (front_of begun sent fault says (fault_is fault (Lines input.WriteFault) result is w)).0 (ap reply_text e))
  at_once final waiting offer calls begun sent fault result ends says is (repeats p some gives c called t) =
      stops p.request (p, some, refl) gives (rw ends c) called begun t fault says is

  -- what waited was answered, or nothing did
  record FirstCalls (waiting : Option PendingRecord) (offer : List ℕ) (first : Resumed) : Type 0 where
    calls : (lines : List ServedCall) (at : Standing) → CallsInTurn variant meaning (snapshot_at first) after lines at
        → CallsInTurn variant meaning offer before (first_served_call waiting first ++ lines) at
    offers : (lines : List ServedCall)
        → offer_after offer (first_served_call waiting first ++ lines) ≡ offer_after (snapshot_at first) lines

  answered_first : (gives : Result Answer Refusal) (p : PendingRecord) (offer : List ℕ) (first : Resumed)
      → IsCall variant meaning before after offer p.request gives → TellsCall gives (Ok first) → FirstCalls (Some p) offer first
  answered_first (Err why) p offer first c t = let clash : Ok first ≡ Err (refusal_fault why) = t in absurd (cc)
  answered_first (Ok answer) p offer first c (inl t) =
      let is : first ≡ Answered answer = cc in
      rw is (record { calls = λ lines at h. (after, c, h); offers = λ lines. refl })
  answered_first (Ok answer) p offer first c (inr t) = let clash : Ok first ≡ Err (store_fault_as t.0) = t.1 in absurd (cc)

  first_by : (waiting : Option PendingRecord) (offer : List ℕ) (calls : List LifeCall) (first : Resumed) (came : Result Resumed HostFault)
      → came ≡ Ok first → Begun variant meaning before after waiting offer calls came → FirstCalls waiting offer first
  first_by waiting offer calls first came is (failed same none why e) =
      let clash : Ok first ≡ Err (store_fault_as why) = sym is ∙ e in absurd (cc)
  first_by waiting offer calls first came is (starts same none waits e) =
      let both : Ok first ≡ Ok (Start offer) = sym is ∙ e in
      let first_is : first ≡ Start offer = cc in
      rw (waits, first_is) (record { calls = λ lines at h. rw same at h; offers = λ lines. refl })
  first_by waiting offer calls first came is (repeats p some gives c called t) =
      rw some (answered_first gives p offer first c (rw is at t))

-- how the lines end
abbrev InHand : List ℕ → List ℕ → Type 0
InHand more request = (held : List ℕ) × BytesBeginWith more request held

module _ (variant : Variant) (meaning : Meaning) (number : ℕ) (at : SessionPlace) (new : HostStanding) (more sent : List ℕ) where
  line_ends : (recorded : Result Unit StoreFault) (middle : StoreStanding) (line : List ℕ)
      (came : Result Resumed HostFault) (fault : SessionFault)
      (g : HostGoesAfterRecord variant meaning recorded (record at.host { kept = middle }) new at.last line came) → InHand more line
      → SendsReply came sent (Err fault)
      → Ends variant meaning at.host.standing new.standing (snapshot_at at.last) (InHand more) sent
      (recorded_calls variant meaning recorded (record at.host { kept = middle }) new at.last line came g) (Err fault)
  line_ends (Ok it) middle line came fault g hand says =
      stops line hand g.asked g.asks refl came (tells_call g.asked middle new.kept came g.goes) fault says refl
  line_ends (Err why) middle line came fault g hand says =
      rests (same_standing (record at.host { kept = middle }) new g.0) refl
      (λ w. let is : fault ≡ Lines input.WriteFault = cc in store_untold why came sent fault g.1 says is)

  in_line : (fault : SessionFault) (e : SessionStopsInLine variant meaning number at new more sent fault)
      → Ends variant meaning at.host.standing new.standing (snapshot_at at.last) (InHand more) sent (line_calls e.asks) (Err fault)
  in_line fault e = line_ends e.asks.recorded e.asks.middle e.line e.came fault e.asks.goes (e.held, e.begins) e.says

module _ (variant : Variant) (meaning : Meaning) (number : ℕ) (from : SessionPlace) (new : HostStanding) (left : Option (List ℕ))
    (bytes sent : List ℕ) where
  lines_end : (result : Result Unit SessionFault) (l : ServesAllLines variant meaning number from new left bytes sent result)
      → Ends variant meaning l.at.host.standing new.standing (snapshot_at l.at.last) (InHand l.more) l.last
      (last_calls result l) result
  lines_end (Err (Host fault)) l = in_line variant meaning _ l.at new l.more l.last (Host fault) l.ends
  lines_end (Err (Lines input.WriteFault)) l = in_line variant meaning _ l.at new l.more l.last (Lines input.WriteFault) l.ends
  lines_end (Err (Lines input.Memory)) l = absurd l.ends
  lines_end _ l = rests (same_standing l.at.host new l.ends.0.still) refl (λ w. absurd (cc))

module _ {variant : Variant} {meaning : Meaning} {old new : SessionStanding} {result : Result Unit SessionFault}
    (s : IsSession variant meaning old new result) where
  abbrev waiting : Option PendingRecord
  waiting = found_record s.resumes.waiting

  abbrev Began : Type 0
  Began =
      Begun variant meaning old.standing s.middle.standing waiting (first_bytes s)
      (first_calls variant meaning s.resumes.waiting (found_host s) s.middle s.begun s.resumes.goes) s.begun

  began : Began
  began = begun_by variant meaning s.resumes.waiting (found_host s) s.middle s.begun s.resumes.goes

  chain_by : (goes : SessionGoesAfterResume variant meaning s.begun s.middle (host_of new) new.left s.taken s.sent result)
      → Chain variant meaning (first_bytes s) old.standing new.standing (served_calls_in waiting goes) (IsInHand waiting goes)
      (last_bytes_in goes) (untold_calls s goes) result
  chain_by (inl e) = record {
    at = old.standing;
    calls = refl;
    ends = at_once variant meaning old.standing s.middle.standing new.standing waiting (first_bytes s) _ s.begun s.sent e.1.fault result
        (same_standing s.middle (host_of new) e.0) e.1.says e.1.stops began;
  }
  chain_by (inr g) =
      let l = g.lines in
      let from : SessionPlace = record { host = s.middle; last = g.first } in
      let f = first_by variant meaning old.standing s.middle.standing waiting (first_bytes s) _ g.first s.begun g.begins began in
      record {
        at = l.at.host.standing;
        calls = f.calls l.calls l.at.host.standing (served_calls variant meaning from l.at l.calls l.serves);
        ends = rw (f.offers l.calls) (rw (last_offer variant meaning from l.at l.calls l.serves)
            (lines_end variant meaning 1 from (host_of new) new.left s.taken g.replies result l));
      }

  pub session_chain : Chain variant meaning (first_bytes s) old.standing new.standing (served_calls_of s) (IsInHandOf s)
      (last_bytes_in s.goes) (untold_calls s s.goes) result
  session_chain = chain_by s.goes

-- One call of a life, in either variant: where it leads from a history that the platform stands for.

-- what is asked of calls: their messages are in the list, and their requests among those asked
pub record AreListed (all : List (List ℕ)) (asked : List Batch) (i : Instance) (calls : List LifeCall) : Type 0 where
  pub messages : AreMessagesIn (flat_map (λ c. right_messages i (normal_batch c.batch) (right_content i c.offer)) calls) all
  pub batches : AllByRecursion (Contains asked) (call_batches calls)

-- what was issued stays genuine where names stay
pub all_genuine : (i : Instance) (y z : History) → ((content : Content) → NamesPosition i y content → NamesPosition i z content)
    → (issued : List (List ℕ)) → AllByRecursion (IsGenuine i y) issued → AllByRecursion (IsGenuine i z) issued
all_genuine i y z names [] g = tt
all_genuine i y z names (offer ∷ issued) g = (λ content right. names content (g.0 content right), all_genuine i y z names issued g.1)

-- an answer is a step of the machine
pub answer_steps : (i : Instance) (y after : History) (offer request : List ℕ) (answer : Answer)
    → HistoryGrows i y offer (One request) after (Ok (batch_answer_of answer))
    → IsBatchStep i.meaning (requests_of y.batches) (One request) (answer_reply answer) (requests_of after.batches)
answer_steps i y after offer request answer (kept same answers) =
    let r = answers (batch_answer_of answer) refl in
    steps_again i y after r.ends.front request answer r.answer_is same r.ends.is
answer_steps i y after offer request answer (grown content right at more answers) =
    steps_fresh i y after request answer (answers (batch_answer_of answer) refl) more

-- A batch, in the form that has one request as such, makes the same of the list.

told_batch : (i : Instance) (after : History) (front : List Batch) (batch : Batch) (answer : BatchAnswer) (again : Bool)
    → IsFit batch answer → answer ≡ answer_on i after (normal_batch batch) again
    → after.batches ≡ front ++ normal_batch batch ∷ []
    → IsTold i.meaning (requests_of front) batch (answer.position - length answer.outputs) answer.outputs (requests_of after.batches)
told_batch i after front batch answer again fits e more =
    let b : Batch = normal_batch batch in
    let same : members_of b ≡ members_of batch = members_of-normal batch in
    let grown : requests_of after.batches ≡ requests_of front ++ members_of batch =
    ap requests_of more ∙ requests-push front b ∙ ap (λ (members : List (List ℕ)). requests_of front ++ members) same in
    let all : length (requests_of after.batches) ≡ length (requests_of front) + size_of batch =
    ap length grown ∙ length-append (requests_of front) (members_of batch) in
    record {
      counted = omega (arith, ap (λ (a : BatchAnswer). a.position) e, all, fits.counted);
      said = ap (λ (a : BatchAnswer). a.outputs) e ∙ said_last i.meaning after.batches front b more
          ∙ ap (outputs_from i.meaning (state_after i.meaning (requests_of front))) same;
      grown = grown;
    }

batch_answered : (i : Instance) (y after : History) (offer : List ℕ) (batch : Batch) (answer : BatchAnswer) → IsFit batch answer
    → HistoryGrows i y offer (normal_batch batch) after (Ok answer)
    → IsBatchStep i.meaning (requests_of y.batches) batch (batch_reply answer) (requests_of after.batches)
batch_answered i y after offer batch answer fits (kept same answers) =
    let r = answers answer refl in
    rw (ap (λ (a : BatchAnswer). a.again) r.answer_is) (
      requests_of r.ends.front,
      rw same at (told_batch i after r.ends.front batch answer true fits r.answer_is (same ∙ sym r.ends.is)),
      ap requests_of same,
    )
batch_answered i y after offer batch answer fits (grown content right at more answers) =
    let is = answers answer refl in
    rw (ap (λ (a : BatchAnswer). a.again) is) (told_batch i after y.batches batch answer false fits is more)

batch_grows : (i : Instance) (y after : History) (offer : List ℕ) (batch : Batch) (gives : Result BatchAnswer Refusal)
    → HistoryGrows i y offer (normal_batch batch) after gives
    → (requests_of after.batches ≡ requests_of y.batches) ⊎ (requests_of after.batches ≡ requests_of y.batches ++ members_of batch)
batch_grows i y after offer batch gives (kept same answers) = inl (ap requests_of same)
batch_grows i y after offer batch gives (grown content right at more answers) =
    inr (ap requests_of more ∙ requests-push y.batches (normal_batch batch)
    ∙ ap (λ (members : List (List ℕ)). requests_of y.batches ++ members) (members_of-normal batch))

-- what a refused call makes of the list
batch_refused : (i : Instance) (y after : History) (batch : Batch) (why : Refusal) (broken : Option StepFault) → fault_of why ≡ broken
    → (fault_of why ≡ None → after.batches ≡ y.batches)
    → (requests_of after.batches ≡ requests_of y.batches) ⊎ (requests_of after.batches ≡ requests_of y.batches ++ members_of batch)
    → CallSteps i.meaning (requests_of y.batches) batch (Err why) (requests_of after.batches)
batch_refused i y after batch why broken e only (inl same) = inl same
batch_refused i y after batch why None e only (inr more) = inl (ap requests_of (only e))
batch_refused i y after batch why (Some fault) e only (inr more) = inr (rw e refl, more)

module _ {all others : List (List ℕ)} {asked : List Batch} {i : Instance} where
  module _ {final : Standing} (laws : Laws all others asked i final) where
    -- what a call issues is genuine for the history that it leaves
    pub issue_genuine : (old new : Standing) (offer request : List ℕ) (answer : Answer) (y : History)
        → IsCall i.variant i.meaning old new offer request (Ok answer)
        → (m : Met all others asked i y new offer (pending_for request) (Ok (batch_answer_of answer)))
        → IsGenuine i m.after answer.snapshot
    issue_genuine old new offer request answer y c m =
        let at = answered_at i y m.after offer (One request) (batch_answer_of answer) m.comes in
        let most : total_of m.after.batches ≤ last_position = rw at.0 at c.fits.most in
        λ content right. subst (λ (x : Content). NamesPosition i m.after x)
        (issued_once i answer.snapshot m.after content (laws.formed m.after most) at.1 right)
        (m.issues (batch_answer_of answer) refl).names

    pub issues_genuine : (old new : Standing) (offer request : List ℕ) (gives : Result Answer Refusal) (y : History)
        → IsCall i.variant i.meaning old new offer request gives
        → (m : Met all others asked i y new offer (pending_for request) (batch_result_of gives))
        → AllByRecursion (IsGenuine i m.after) (issued_snapshot_in (batch_result_of gives))
    issues_genuine old new offer request (Ok answer) y c m = (issue_genuine old new offer request answer y c m, tt)
    issues_genuine old new offer request (Err why) y c m = tt

    pub makes_call : (old new : Standing) (offer request : List ℕ) (y : History) (gives : Result BatchAnswer Refusal)
        → IsCallOnCourse i.variant i.meaning old new offer (One request) gives → StandsFor i old y → IsWithin all others asked i y
        → IsGenuine i y offer → Contains asked (One request) → AreMessagesIn (right_messages i (One request) (right_content i offer)) all
        → Makes all others asked i y old new offer (pending_for request) gives
    makes_call old new offer request y gives c stands within genuine is_asked offered = record {
      goes = c;
      stands = stands;
      asks = record {
        clear = laws.clear;
        apart = laws.apart;
        within = within;
        is_asked = is_asked;
        genuine = genuine;
        offered = offered;
      };
    }

    -- the same of a call for a batch
    pub batch_genuine : (new : Standing) (offer : List ℕ) (batch : Batch) (gives : Result BatchAnswer Refusal) (y : History)
        → IfOk gives (λ answer. IsFit batch answer)
        → (m : BatchMet all others asked i y new offer (normal_batch batch) gives)
        → AllByRecursion (IsGenuine i m.after) (issued_snapshot_in gives)
    batch_genuine new offer batch (Err why) y fits m = tt
    batch_genuine new offer batch (Ok answer) y fits m =
        let at = answered_at i y m.after offer (normal_batch batch) answer m.comes in
        let most : total_of m.after.batches ≤ last_position = rw at.0 at fits.most in (
          λ content right. subst (λ (x : Content). NamesPosition i m.after x)
              (issued_once i answer.snapshot m.after content (laws.formed m.after most) at.1 right) (m.issues answer refl).names,
          tt,
        )

  -- what a call makes of the list, and how it is judged
  pub batch_steps : (y : History) (new : Standing) (offer : List ℕ) (batch : Batch) (gives : Result BatchAnswer Refusal)
      → IfOk gives (λ answer. IsFit batch answer) → (m : BatchMet all others asked i y new offer (normal_batch batch) gives)
      → CallSteps i.meaning (requests_of y.batches) batch gives (requests_of m.after.batches)
  batch_steps y new offer batch (Ok answer) fits m = batch_answered i y m.after offer batch answer fits m.comes
  batch_steps y new offer batch (Err why) fits m =
      batch_refused i y m.after batch why (fault_of why) refl (m.only why refl)
      (batch_grows i y m.after offer batch (Err why) m.comes)

  pub batch_judged : (y : History) (new : Standing) (c : LifeCall)
      → (m : BatchMet all others asked i y new c.offer (normal_batch c.batch) c.gives) → IsLastJudged i m.after (c ∷ [])
  batch_judged y new c m = λ why e. by_fault why (fault_of why) refl (λ none. m.judged why e none)

  pub met_judged : (y : History) (new : Standing) (offer request : List ℕ) (gives : Result Answer Refusal)
      → (m : Met all others asked i y new offer (pending_for request) (batch_result_of gives))
      → IsLastJudged i m.after (call_of offer request gives ∷ [])
  met_judged y new offer request gives m = λ why e. by_fault why (fault_of why) refl (λ none. m.judged why e none)

-- A part of a life where the module doesn't live: the first call is refused, and ends it.

none_refused : (old new : Standing) → new.cell ≡ old.cell → RefusesAll old new []
none_refused old new same = record { cell = same; refused = tt }

-- and so it is told of a batch of one
refused_as : (gives : Result Answer Refusal) → IsErr gives → IsErr (batch_result_of gives)
refused_as (Ok answer) e = absurd (cc)
refused_as (Err why) e = refl

module _ (variant : Variant) (meaning : Meaning) where
  -- how a session ends there, that told nothing
  ends_refused : {old at new : Standing} {offer : List ℕ} {hand : List ℕ → Type 0} {sent : List ℕ} {calls : List LifeCall}
      {result : Result Unit SessionFault} → at ≡ old → Ends variant meaning at new offer hand sent calls result
      → LivesElsewhere variant meaning.id old → RefusesAll old new calls
  ends_refused {old} {at} {new} same (rests still none unwritten) away =
      rw none (none_refused old new (ap (λ (x : Standing). x.cell) (still ∙ same)))
  ends_refused {old} {at} {new} same (stops request h gives c is came t fault says ends) away =
      let l = c.elsewhere (rw same away) in
      rw is (record { cell = l.cell ∙ ap (λ (x : Standing). x.cell) same; refused = (refused_as gives l.refused, tt) })

  chain_refused : {old new : Standing} {offer : List ℕ} (told : List ServedCall) {hand : List ℕ → Type 0} {sent : List ℕ}
      {untold : List LifeCall} {result : Result Unit SessionFault}
      → Chain variant meaning offer old new told hand sent untold result → LivesElsewhere variant meaning.id old
      → RefusesAll old new (told_calls offer told ++ untold)
  chain_refused [] k away = ends_refused k.calls k.ends away
  chain_refused (c ∷ told) k away = let l = k.calls.1.elsewhere away in let never = l.refused in absurd (cc)

pub parts_are_refused : PartsAreRefusedElsewhere
parts_are_refused variant meaning old (Holds p) new f away =
    chain_refused variant meaning (served_calls_of f) (session_chain f) away
parts_are_refused variant meaning old (Does (Calls c)) new f away =
    let l = f.elsewhere away in record { cell = l.cell; refused = (l.refused, tt) }
parts_are_refused variant meaning old (Does (Extends values)) new f away = none_refused old new f.0
parts_are_refused variant meaning old (Does LosesPower) new f away = none_refused old new f.0
parts_are_refused variant meaning old (Does (Checkpoints said)) new f away = none_refused old new (f.elsewhere away).cell

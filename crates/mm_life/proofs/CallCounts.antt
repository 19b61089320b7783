-- What the calls of a part of a life were to write: by what they told, and by the last one. With
-- it: what a call for a batch was to write, by the walk of its steps.
use Rattle.std.specs.Prelude.{if◌then◌else◌}
use Rattle.std.proofs.Common.{◌≡◌, ◌≤◌, ◌∙◌, ◌+◌, ℕ, zero, suc, Bool, true, false, List, [], ◌∷◌, Option, None, Some, Result, Ok, Err}
use Rattle.std.proofs.Common.{arith, refl, sym, ap, subst, inl, inr}
use Rattle.mm_base.specs.declared.replay_fault.ReplayFault.TheVariants.{WriteFault}
use Rattle.mm_digest.specs.declared.variant.Variant.{Variant}
use Rattle.mm_digest.specs.declared.variant.Variant.TheVariants.{Basic, Opt}
use Rattle.mm_platform.specs.Standing.{Standing}
use Rattle.mm_platform.specs.declared.fault.StepFault.{StepFault}
use Rattle.mm_module.specs.Batch.{Batch, normal_batch}
use Rattle.mm_module.specs.Meaning.{Meaning}
use Rattle.mm_model.specs.Chains.{Instance, basic_instance, opt_instance}
use Rattle.mm_model.specs.History.{Commit, Move, Placed, Reset, Changes, Reads, Writes, ask_steps}
use Rattle.mm_model.specs.Moves.{Digests}
use Rattle.mm_model.specs.declared.answer.Answer.{Answer}
use Rattle.mm_model.specs.declared.answer.BatchAnswer.{BatchAnswer}
use Rattle.mm_model.specs.declared.refusal.Refusal.{Refusal}
use Rattle.mm_model.specs.declared.refusal.Refusal.TheVariants.{Device}
use Rattle.mm_call.specs.CallFinding.{fault_of, CallFinding, finding_at, finding_unless_wanting, is_fresh, digest_level}
use Rattle.mm_call.specs.CallKind.{IsCallOnCourse}
use Rattle.mm_call.specs.CallOutcome.{call_ending_by, call_outcome, result_of_ending, state_seen, Done, End, Fails, StepFate, StepsWalk}
use Rattle.mm_call.specs.CallOutcome.{walk, walk_from_step}
use Rattle.mm_call.specs.Standing.{count_after_more, StandsAt}
use Rattle.mm_store.specs.declared.fault.StoreFault.{StoreFault}
use Rattle.mm_store.specs.declared.fault.StoreFault.TheVariants as store
use Rattle.mm_recovery.specs.CellWrites.{TellsFlag, CellIsWrittenFor, is_open_after, new_requests_by, openings, refusal_fault}
use Rattle.mm_recovery.specs.CellWrites.{store_fault_as}
use Rattle.mm_recovery.specs.HostStanding.{IsCall}
use Rattle.mm_recovery.specs.declared.fault.HostFault.{HostFault}
use Rattle.mm_recovery.specs.declared.resuming.Resumed.{Resumed}
use Rattle.mm_recovery.proofs.Above.{AnsweredWrites, both_writes, joined, leads_rest, new_most, rests}
use Rattle.mm_host.specs.Sessions.{SendsReply, ServedCall, session_result_of}
use Rattle.mm_host.specs.declared.fault.SessionFault.{SessionFault}
use Rattle.mm_host.specs.declared.fault.SessionFault.TheVariants.{Host, Lines}
use Rattle.mm_host.proofs.Above.{CallsInTurn, TellsCall}
use Rattle.mm_life.specs.Deeds.{LifeCall}
use Rattle.mm_life.specs.LifeWrites.{host_stop, new_replies, session_stop, turns_between, turns_unless_stopped, call_stop}
use Rattle.mm_life.specs.Premises.{has_open_segment}
use Rattle.mm_life.specs.Stages.{told_replies, call_replies}
use Rattle.mm_life.proofs.Chains.{Ends, rests as at_rest, stops}
use Rattle.mm_life.proofs.Idling.{open_told}

-- What was answered or refused, and told so, came to a stop where a request may be in hand.
module _ (came : Result Resumed HostFault) (sent : List ℕ) (fault : SessionFault) (says : SendsReply came sent (Err fault)) where
  stop_by : ((why : HostFault) → came ≡ Err why → host_stop why ≡ 1) → session_stop (Err fault) ≡ 1
  stop_by h = elim says [
    | inl s ↦ by_came came refl s.1
    | inr s ↦
        let is : fault ≡ Lines WriteFault = cc in ap (λ (f : SessionFault). session_stop (Err f)) is
  ]
    where
      by_came : (it : Result Resumed HostFault) → came ≡ it → (let r : Result Resumed SessionFault = Err fault in r ≡ session_result_of it)
          → session_stop (Err fault) ≡ 1
      by_came (Ok resumed) e s = absurd (cc)
      by_came (Err why) e s =
          let is : fault ≡ Host why = cc in ap (λ (f : SessionFault). session_stop (Err f)) is ∙ h why e

  store_stop : (why : StoreFault) → host_stop (store_fault_as why) ≡ 1
  store_stop store.Memory = refl
  store_stop store.Failed = refl

  stop_answered : (answer : Answer) → TellsCall (Ok answer) came → session_stop (Err fault) ≡ 1
  stop_answered answer (inl told) = stop_by (λ why e. absurd (cc))
  stop_answered answer (inr failed) =
      stop_by (λ why e. let is : why ≡ store_fault_as failed.0 = cc in ap host_stop is ∙ store_stop failed.0)

  device_stop : (why : Refusal) (broken : StepFault) → fault_of why ≡ Some broken → host_stop (refusal_fault why) ≡ 1
  device_stop (Device f) broken e = refl
  device_stop _ broken e = absurd (cc)

  stop_refused : (why : Refusal) (broken : StepFault) → fault_of why ≡ Some broken → TellsCall (Err why) came
      → session_stop (Err fault) ≡ 1
  stop_refused why broken e t =
      stop_by (λ came_to is. let same : came_to ≡ refusal_fault why = cc in ap host_stop same ∙ device_stop why broken e)

-- What the last call of a part, or none, was to write.
pub record LastWrites (variant : Variant) (at final : Standing) (stop : ℕ) : Type 0 where
  pub in_hand : ℕ
  pub few : in_hand ≤ stop
  pub writes : CellIsWrittenFor variant in_hand at final

last_none : (variant : Variant) (at final : Standing) (stop : ℕ) → final ≡ at → LastWrites variant at final stop
last_none variant at final stop same = record {
  in_hand = 0;
  few = omega arith;
  writes = rests variant at final same;
}

module _ {variant : Variant} {meaning : Meaning} where
  last_refused : (at final : Standing) (offer request : List ℕ) (why : Refusal) (stop : ℕ) (broken : Option StepFault)
      → IsCall variant meaning at final offer request (Err why) → fault_of why ≡ broken
      → ((f : StepFault) → broken ≡ Some f → stop ≡ 1) → LastWrites variant at final stop
  last_refused at final offer request why stop None c e h =
      let none : c.counts.requests ≡ 0 = rw e at c.counts.new in record {
        in_hand = c.counts.requests;
        few = omega (arith, none);
        writes = c.counts.writes;
      }
  last_refused at final offer request why stop (Some f) c e h =
      let one : c.counts.requests ≤ 1 = rw e at c.counts.new in
      let stopped : stop ≡ 1 = h f refl in
      record {
        in_hand = c.counts.requests;
        few = omega (arith, one, stopped);
        writes = c.counts.writes;
      }

  last_answered : (at final : Standing) (offer request : List ℕ) (answer : Answer) (stop : ℕ)
      → IsCall variant meaning at final offer request (Ok answer) → stop ≡ 1 → LastWrites variant at final stop
  last_answered at final offer request answer stop c stopped =
      let one = new_most answer.again c.counts.requests c.counts.new in
      record {
        in_hand = c.counts.requests;
        few = omega (arith, one, stopped);
        writes = c.counts.writes;
      }

  pub ends_writes : {at final : Standing} {offer : List ℕ} {hand : List ℕ → Type 0} {sent : List ℕ} {calls : List LifeCall}
      {result : Result Unit SessionFault}
      → Ends variant meaning at final offer hand sent calls result → LastWrites variant at final (session_stop result)
  ends_writes {at} {final} {result = result} (at_rest same none unwritten) = last_none variant at final (session_stop result) same
  ends_writes {at} {final} {offer} {sent = sent} (stops request h gives c is came t fault says ends) =
      subst (λ (r : Result Unit SessionFault). LastWrites variant at final (session_stop r)) (sym ends) (by_gives gives c t)
    where
      by_gives : (gives : Result Answer Refusal) → IsCall variant meaning at final offer request gives → TellsCall gives came
          → LastWrites variant at final (session_stop (Err fault))
      by_gives (Ok answer) c t =
          last_answered at final offer request answer (session_stop (Err fault)) c (stop_answered came sent fault says answer t)
      by_gives (Err why) c t =
          last_refused at final offer request why (session_stop (Err fault)) (fault_of why) c refl
          (λ f e. stop_refused came sent fault says why f e t)

-- one that was answered
call_answered : (variant : Variant) {meaning : Meaning} {old new : Standing} {offer request : List ℕ} {answer : Answer}
    → IsCall variant meaning old new offer request (Ok answer) → AnsweredWrites variant (new_requests_by answer.again) old new
call_answered Basic {old = old} {new = new} c =
    record { writes = subst (λ (n : ℕ). CellIsWrittenFor Basic n old new) c.counts.new c.counts.writes; leads = tt }
call_answered Opt {old = old} {new = new} c = record {
  writes = subst (λ (n : ℕ). CellIsWrittenFor Opt n old new) c.counts.new c.counts.writes;
  leads = inr (rw c.counts.new at c.counts.leaves);
}

-- What a part's calls were to write: those that told so many requests for the first time, and the last one.
pub record CallsWrite (variant : Variant) (old new : Standing) (told stop : ℕ) : Type 0 where
  pub at : Standing
  pub answered : AnsweredWrites variant told old at
  pub last : LastWrites variant at new stop

module _ (variant : Variant) (meaning : Meaning) where
  pub told_write : (told : List ServedCall) (offer : List ℕ) (before at : Standing) → CallsInTurn variant meaning offer before told at
      → AnsweredWrites variant (new_replies (told_replies told)) before at
  told_write [] offer before at h =
      record { writes = rests variant before at h; leads = leads_rest variant before at h }
  told_write (c ∷ told) offer before at h =
      both_writes variant (new_requests_by c.answer.again) (new_replies (told_replies told)) before h.0 at (call_answered variant h.1)
      (told_write told c.answer.snapshot h.0 at h.2)

-- the count of a part, from what was due and in hand
pub record Counts (old new : Standing) (stop due : ℕ) : Type 0 where
  pub in_hand : ℕ
  pub few : in_hand ≤ stop
  pub writes : new.writes ≡ count_after_more (due + in_hand) old.writes

pub counts_by : (old new : Standing) (stop due in_hand written : ℕ) → in_hand ≤ stop → written ≡ due + in_hand
    → new.writes ≡ count_after_more written old.writes → Counts old new stop due
counts_by old new stop due in_hand written few is writes =
    record { in_hand = in_hand; few = few; writes = subst (λ (n : ℕ). new.writes ≡ count_after_more n old.writes) is writes }

-- Basic: a call writes the cell where it told a request for the first time
pub basic_counts : (old new : Standing) (told stop : ℕ) → CallsWrite Basic old new told stop → Counts old new stop told
basic_counts old new told stop c = record {
  in_hand = c.last.in_hand;
  few = c.last.few;
  writes = joined Basic told c.last.in_hand old c.at new c.answered.leads c.answered.writes c.last.writes;
}

-- Opt: by the flag
pub turned_same : (flag : Bool) → turns_between flag flag ≡ 0
turned_same true = refl
turned_same false = refl

openings_both : (flag : Bool) (told more : ℕ)
    → openings flag (told + more) ≡ openings flag told + openings (is_open_after flag told) more
openings_both true told more = refl
openings_both false zero more =
    let none : 0 + more ≡ more = omega arith in
    ap (openings false) none ∙ omega arith
openings_both false (suc n) more =
    let some : suc n + more ≡ suc (n + more) = omega arith in
    ap (openings false) some

openings_most : (flag : Bool) (few many : ℕ) → few ≤ many → openings flag few ≤ openings flag many
openings_most true few many h = omega arith
openings_most false zero many h = omega arith
openings_most false (suc few) zero h = absurd (omega (arith, h))
openings_most false (suc few) (suc many) h = omega arith

-- a call writes the cell where what it told for the first time opens a segment; and so what was in hand
pub opt_counts : (old new : Standing) (told stop : ℕ) → CallsWrite Opt old new told stop → (flag : Bool) → TellsFlag old flag
    → Counts old new (openings (is_open_after (has_open_segment old) told) stop) (openings (has_open_segment old) told)
opt_counts old new told stop c flag t =
    let w = joined Opt told c.last.in_hand old c.at new c.answered.leads c.answered.writes c.last.writes in
    let then_open : Bool = is_open_after flag told in
    subst (λ (f : Bool). Counts old new (openings (is_open_after f told) stop) (openings f told)) (sym (open_told old flag t))
    (counts_by old new (openings then_open stop) (openings flag told) (openings then_open c.last.in_hand)
    (openings flag (told + c.last.in_hand)) (openings_most then_open c.last.in_hand stop c.last.few)
    (openings_both flag told c.last.in_hand) (w.opens flag t))

-- a checkpoint without a stop was to write the cell where it turned the flag, and none where no segment was open
pub turning : (stop : ℕ) (before after : Bool) (old new : Standing) (written : ℕ) → written ≤ 1
    → (stop ≡ 0 → written ≡ turns_between before after) → (before ≡ false → written ≡ 0)
    → new.writes ≡ count_after_more written old.writes
    → Counts old new (if before then stop else 0) (turns_unless_stopped stop before after)
turning zero before after old new written most whole none writes =
    let is = whole refl in
    counts_by old new (if before then 0 else 0) (turns_between before after) 0 written (omega arith) (omega (arith, is)) writes
turning (suc stop) true after old new written most whole none writes =
    counts_by old new (suc stop) 0 written written (omega (arith, most)) (omega arith) writes
turning (suc stop) false after old new written most whole none writes =
    let is = none refl in
    counts_by old new 0 0 0 written (omega arith) (omega (arith, is)) writes

-- What a call for a batch was to write, by the walk of its steps.

-- the writes of a walk that isn't broken off, by whether a segment is open and the batch is new
abbrev due_writes : Variant → Bool → Bool → ℕ
due_writes variant flag false = 0
due_writes Basic flag true = 1
due_writes Opt true true = 0
due_writes Opt false true = 1

record WalkWrites (due : ℕ) (w : StepsWalk) : Type 0 where
  whole : w.broken ≡ None → w.writes ≡ due
  most : w.writes ≤ due

over : (fates : ℕ → StepFate) (number : ℕ) → WalkWrites 0 (walk fates number [])
over fates number = record { whole = λ w. refl; most = omega arith }

reads : (due : ℕ) (values : List (List ℕ)) (ends : End) (rest : StepsWalk) → WalkWrites due rest
    → WalkWrites due (walk_from_step Reads values ends rest)
reads due values Done rest h = record { whole = h.whole; most = h.most }
reads due values (Fails fault made) rest h = record { whole = λ w. absurd (cc); most = omega arith }

changes : (due : ℕ) (m : Move) (values : List (List ℕ)) (ends : End) (rest : StepsWalk) → WalkWrites due rest
    → WalkWrites due (walk_from_step (Changes m) values ends rest)
changes due m values Done rest h = record { whole = h.whole; most = h.most }
changes due m values (Fails fault made) rest h = record { whole = λ w. absurd (cc); most = omega arith }

writes : (m : Move) (values : List (List ℕ)) (ends : End) (fates : ℕ → StepFate) (number : ℕ)
    → WalkWrites 1 (walk_from_step (Writes m) values ends (walk fates number []))
writes m values Done fates number = record { whole = λ w. refl; most = omega arith }
writes m values (Fails fault made) fates number = record { whole = λ w. absurd (cc); most = omega arith }

walk_writes : (variant : Variant) (fates : ℕ → StepFate) (flag fresh : Bool) (b : Batch)
    → WalkWrites (due_writes variant flag fresh) (walk fates 1 (ask_steps variant flag fresh b))
walk_writes Basic fates flag false b = reads 0 (fates 1).brings (fates 1).ends (walk fates 2 []) (over fates 2)
walk_writes Basic fates flag true b =
    reads 1 (fates 1).brings (fates 1).ends _ (writes (Commit b) (fates 2).brings (fates 2).ends fates 3)
walk_writes Opt fates flag false b =
    reads 0 (fates 1).brings (fates 1).ends _ (reads 0 (fates 2).brings (fates 2).ends (walk fates 3 []) (over fates 3))
walk_writes Opt fates true true b =
    reads 0 (fates 1).brings (fates 1).ends _ (reads 0 (fates 2).brings (fates 2).ends _
    (changes 0 (Commit b) (fates 3).brings (fates 3).ends (walk fates 4 []) (over fates 4)))
walk_writes Opt fates false true b =
    reads 1 (fates 1).brings (fates 1).ends _ (reads 1 (fates 2).brings (fates 2).ends _
    (changes 1 Reset (fates 3).brings (fates 3).ends _ (changes 1 (Placed b) (fates 4).brings (fates 4).ends _
    (writes (Commit b) (fates 5).brings (fates 5).ends fates 6))))

-- how a call was to write: all that was due, told so; or at a stop no more
data CallWrote (variant : Variant) (flag : Bool) (written told stop : ℕ) : Type 0 where
  all_due : (fresh : Bool) → written ≡ due_writes variant flag fresh → told ≡ (if fresh then 1 else 0)
      → CallWrote variant flag written told stop
  some_due : (fresh : Bool) → written ≤ due_writes variant flag fresh → told ≡ 0 → stop ≡ 1
      → CallWrote variant flag written told stop

new_again : (again : Bool) → new_requests_by again + 0 ≡ (if (if again then false else true) then 1 else 0)
new_again true = refl
new_again false = refl

module _ (variant : Variant) (flag : Bool) (b : Batch) (fates : ℕ → StepFate) (seen end : Digests) (i : Instance)
    (gives : Result BatchAnswer Refusal) where
  wrote_by : (found : Result CallFinding Refusal) (moves : List Move) (broken : Option StepFault) (written : ℕ)
      → gives ≡ result_of_ending (call_ending_by (digest_level i) seen end b found moves broken)
      → (broken ≡ None → written ≡ due_writes variant flag (is_fresh found)) → written ≤ due_writes variant flag (is_fresh found)
      → CallWrote variant flag written (new_replies (call_replies gives)) (call_stop gives)
  wrote_by found moves (Some fault) written e whole most =
      rw e (some_due (is_fresh found) most refl refl)
  wrote_by (Ok it) moves None written e whole most =
      rw e (all_due (if it.again then false else true) (whole refl) (new_again it.again))
  wrote_by (Err why) moves None written e whole most = rw e (all_due false (whole refl) refl)

-- Basic: due is what is told for the first time
basic_wrote : (flag : Bool) (old new : Standing) (written told stop : ℕ) → CallWrote Basic flag written told stop
    → new.writes ≡ count_after_more written old.writes → Counts old new stop told
basic_wrote flag old new written told stop (all_due true w t) writes =
    counts_by old new stop told 0 written (omega arith) (omega (arith, w, t)) writes
basic_wrote flag old new written told stop (all_due false w t) writes =
    counts_by old new stop told 0 written (omega arith) (omega (arith, w, t)) writes
basic_wrote flag old new written told stop (some_due true w t s) writes =
    counts_by old new stop told written written (omega (arith, w, s)) (omega (arith, t)) writes
basic_wrote flag old new written told stop (some_due false w t s) writes =
    counts_by old new stop told written written (omega (arith, w)) (omega (arith, t)) writes

-- Opt: by the flag
opt_due : (flag fresh : Bool) → due_writes Opt flag fresh ≡ openings flag (if fresh then 1 else 0)
opt_due true true = refl
opt_due true false = refl
opt_due false true = refl
opt_due false false = refl

opt_most : (flag fresh : Bool) → due_writes Opt flag fresh ≤ openings (is_open_after flag 0) 1
opt_most true true = omega arith
opt_most true false = omega arith
opt_most false true = omega arith
opt_most false false = omega arith

none_open : (flag : Bool) → openings flag 0 ≡ 0
none_open true = refl
none_open false = refl

opt_wrote : (flag : Bool) (old new : Standing) (written told stop : ℕ) → CallWrote Opt flag written told stop
    → new.writes ≡ count_after_more written old.writes
    → Counts old new (openings (is_open_after flag told) stop) (openings flag told)
opt_wrote flag old new written told stop (all_due fresh w t) writes =
    counts_by old new (openings (is_open_after flag told) stop) (openings flag told) 0 written (omega arith)
    (w ∙ opt_due flag fresh ∙ ap (openings flag) (sym t) ∙ omega arith) writes
opt_wrote flag old new written told stop (some_due fresh w t s) writes =
    let most = opt_most flag fresh in
    let none = none_open flag in
    rw (t, s)
    (counts_by old new (openings (is_open_after flag 0) 1) (openings flag 0) written written (omega (arith, w, most))
    (omega (arith, none)) writes)

module _ (meaning : Meaning) (key barrier : List ℕ) (old new : Standing) (offer : List ℕ) (batch : Batch)
    (gives : Result BatchAnswer Refusal) where
  pub basic_batch_counts : IsCallOnCourse Basic meaning old new offer batch gives → (d : Digests)
      → StandsAt (basic_instance meaning key) old d → Counts old new (call_stop gives) (new_replies (call_replies gives))
  basic_batch_counts c d s =
      let i : Instance = basic_instance meaning key in
      let b : Batch = normal_batch batch in
      let g = c.goes key key d s in
      let o = call_outcome i (digest_level i) d c.course offer b in
      let seen : Digests = state_seen i (digest_level i) d c.course in
      let found : Result CallFinding Refusal = finding_unless_wanting (finding_at i (digest_level i) seen b offer) c.course.lacks in
      let w = walk_writes Basic c.course.fates d.flag (is_fresh found) b in
      basic_wrote d.flag old new o.writes (new_replies (call_replies gives)) (call_stop gives)
      (wrote_by Basic d.flag b c.course.fates seen o.state i gives found o.moves _ o.writes g.gives w.whole w.most) g.writes

  pub opt_batch_counts : IsCallOnCourse Opt meaning old new offer batch gives → (d : Digests)
      → StandsAt (opt_instance meaning key barrier) old d
      → Counts old new (openings (is_open_after (has_open_segment old) (new_replies (call_replies gives))) (call_stop gives))
      (openings (has_open_segment old) (new_replies (call_replies gives)))
  opt_batch_counts c d s =
      let i : Instance = opt_instance meaning key barrier in
      let b : Batch = normal_batch batch in
      let g = c.goes key barrier d s in
      let o = call_outcome i (digest_level i) d c.course offer b in
      let seen : Digests = state_seen i (digest_level i) d c.course in
      let found : Result CallFinding Refusal = finding_unless_wanting (finding_at i (digest_level i) seen b offer) c.course.lacks in
      let w = walk_writes Opt c.course.fates d.flag (is_fresh found) b in
      let before : TellsFlag old d.flag = record { cell = _; is_cell = s.spells; tells = s.cell; shows = refl } in
      let told : ℕ = new_replies (call_replies gives) in
      subst (λ (f : Bool). Counts old new (openings (is_open_after f told) (call_stop gives)) (openings f told))
      (sym (open_told old d.flag before))
      (opt_wrote d.flag old new o.writes told (call_stop gives)
      (wrote_by Opt d.flag b c.course.fates seen o.state i gives found o.moves _ o.writes g.gives w.whole w.most) g.writes)

-- How much longer a life makes its list of requests. With it: how often the cell is written over a
-- life, by the counts of its parts.
use Rattle.std.specs.Prelude.{IsSome}
use Rattle.std.proofs.Common.{◌≡◌, ◌≤◌, ◌∙◌, ◌+◌, ℕ, Bool, true, false, List, [], ◌∷◌, ◌++◌, Option, None, Some, Result, Ok, Err, length}
use Rattle.std.proofs.Common.{length-append, arith, refl, sym, ap, inl, inr}
use Rattle.mm_base.specs.declared.replay_fault.ReplayFault.{ReplayFault}
use Rattle.mm_digest.specs.declared.variant.Variant.{Variant}
use Rattle.mm_digest.specs.declared.variant.Variant.TheVariants.{Basic, Opt}
use Rattle.mm_platform.specs.Standing.{Standing}
use Rattle.mm_platform.specs.declared.fault.StepFault.{StepFault}
use Rattle.mm_module.specs.Batch.{Batch, One, members_of, size_of}
use Rattle.mm_module.specs.Meaning.{Meaning, state_after}
use Rattle.mm_module.specs.RunLaws.{length-outputs_from}
use Rattle.mm_model.specs.Chains.{Instance, basic_instance, opt_instance}
use Rattle.mm_model.specs.Moves.{Digests, digests_of}
use Rattle.mm_model.specs.declared.answer.BatchAnswer.{BatchAnswer}
use Rattle.mm_model.specs.declared.refusal.Refusal.{Refusal}
use Rattle.mm_call.specs.CallFinding.{fault_of}
use Rattle.mm_call.specs.Standing.{StandsAt}
use Rattle.mm_call.proofs.Above.{stands_at}
use Rattle.mm_schedule.specs.Replies.{IsBatchStep}
use Rattle.mm_schedule.specs.declared.reply.Reply.{Reply}
use Rattle.mm_schedule.specs.declared.reply.Reply.TheVariants.{Told}
use Rattle.mm_recovery.specs.CellWrites.{TellsFlag}
use Rattle.mm_recovery.specs.Recovery.{RequestMayBeCommitted}
use Rattle.mm_recovery.specs.declared.fault.HostFault.{HostFault}
use Rattle.mm_recovery.specs.declared.fault.HostFault.TheVariants.{Refused}
use Rattle.mm_host.specs.Continuation.{RequestMayBeUntold, CallsRunOver}
use Rattle.mm_host.specs.Sessions.{ServedCall}
use Rattle.mm_host.specs.declared.fault.SessionFault.{SessionFault}
use Rattle.mm_host.specs.declared.fault.SessionFault.TheVariants.{Host, Lines}
use Rattle.mm_life.specs.Deeds.{Calls, Checkpoints, Extends, LosesPower, IsInHandOf, served_calls_of, first_bytes}
use Rattle.mm_life.specs.LifeWrites.{call_hand, checkpoint_stop, fault_stop, hand_by, hands_in, host_stop, new_replies, new_requests_of}
use Rattle.mm_life.specs.LifeWrites.{new_requests_told, part_hand, session_stop, BasicLivesWriteOnce, OptLivesWriteOnce, PartWrites}
use Rattle.mm_life.specs.LifeWrites.{WritesOnceEach, part_stop, part_turns, part_turns_in_hand, segment_turns, stops_in, turns_in_hand}
use Rattle.mm_life.specs.Stages.{CallSteps, LifeFollows, PartSteps, SessionSteps, call_replies, life_replies, part_replies, told_replies}
use Rattle.mm_life.specs.Stages.{Does, Holds, IsLife, LifePart, PartLeads, LifeStage, Program}
use Rattle.mm_life.proofs.CallCounts.{basic_batch_counts, opt_batch_counts, basic_counts, CallsWrite, ends_writes, opt_counts, told_write}
use Rattle.mm_life.proofs.Chains.{session_chain}
use Rattle.mm_life.proofs.ClosingCounts.{basic_checked, opt_checked}
use Rattle.mm_life.proofs.Refusing.{part_stands}

pub new_append : (xs ys : List Reply) → new_replies (xs ++ ys) ≡ new_replies xs + new_replies ys
new_append [] ys = omega arith
new_append (x ∷ xs) ys = let rest = new_append xs ys in omega (arith, rest)

pub told_append : (xs ys : List Reply) → new_requests_told (xs ++ ys) ≡ new_requests_told xs + new_requests_told ys
told_append [] ys = omega arith
told_append (x ∷ xs) ys = let rest = told_append xs ys in omega (arith, rest)

-- The list: the requests that were told for the first time, and at most those in hand at each stop.
pub record IsLonger (before after : List (List ℕ)) (told stop : ℕ) : Type 0 where
  pub kept : ℕ
  pub few : kept ≤ stop
  pub listed : length after ≡ length before + (told + kept)

longer_none : (before after : List (List ℕ)) (stop : ℕ) → after ≡ before → IsLonger before after 0 stop
longer_none before after stop e =
    let same : length after ≡ length before = ap length e in
    record { kept = 0; few = omega arith; listed = omega (arith, same) }

longer_batch : (before after : List (List ℕ)) (batch : Batch) (hand : ℕ) → hand ≡ size_of batch
    → after ≡ before ++ members_of batch → IsLonger before after 0 hand
longer_batch before after batch hand is e =
    let more : length after ≡ length before + size_of batch = ap length e ∙ length-append before (members_of batch) in
    record { kept = size_of batch; few = omega (arith, is); listed = omega (arith, more) }

longer_one : (before after : List (List ℕ)) (request : List ℕ) (stop : ℕ) → stop ≡ 1 → after ≡ before ++ request ∷ []
    → IsLonger before after 0 stop
longer_one before after request stop one e =
    let more : length after ≡ length before + length (request ∷ []) = ap length e ∙ length-append before (request ∷ []) in
    record { kept = 1; few = omega (arith, one); listed = omega (arith, more) }

refused_hand : (broken : Option StepFault) (batch : Batch) → IsSome broken → hand_by broken batch ≡ size_of batch
refused_hand None batch u = absurd (cc)
refused_hand (Some fault) batch u = refl

refused_untold : (broken : Option StepFault) → IsSome broken → fault_stop broken ≡ 1
refused_untold None u = absurd (cc)
refused_untold (Some fault) u = refl

host_untold : (fault : HostFault) → RequestMayBeCommitted {T = Unit} (Err fault) → host_stop fault ≡ 1
host_untold (Refused why) u = refused_untold (fault_of why) u
host_untold _ u = refl

untold_stop : (result : Result Unit SessionFault) → RequestMayBeUntold result → session_stop result ≡ 1
untold_stop (Ok it) u = absurd u
untold_stop (Err (Host fault)) u = host_untold fault u
untold_stop (Err (Lines fault)) u = ap (λ (f : ReplayFault). session_stop (Err (Lines f))) u

module _ (meaning : Meaning) where
  step_longer : (again : Bool) (position : ℕ) (outputs : List (List ℕ)) (batch : Batch) (before after : List (List ℕ))
      → IsBatchStep meaning before batch (Told again position outputs) after
      → length after ≡ length before + new_requests_of (Told again position outputs)
  step_longer false position outputs batch before after s =
      ap length s.grown ∙ length-append before (members_of batch)
      ∙ ap (λ (n : ℕ). length before + n) (sym (ap length s.said
      ∙ length-outputs_from meaning (state_after meaning before) (members_of batch)))
  step_longer true position outputs batch before after s =
      let same : length after ≡ length before = ap length s.2 in omega (arith, same)

  run_longer : (told : List ServedCall) (before after : List (List ℕ)) → CallsRunOver meaning before told after
      → length after ≡ length before + new_requests_told (told_replies told)
  run_longer [] before after run = let same : length after ≡ length before = ap length run in omega (arith, same)
  run_longer (c ∷ told) before after run =
      let first = step_longer c.answer.again _ _ (One c.line) before run.0 run.1 in
      let rest = run_longer told run.0 after run.2 in
      omega (arith, first, rest)

  session_longer : {sent : List ℕ} (told : List ServedCall) (hand : List ℕ → Type 0) (result : Result Unit SessionFault)
      (before after : List (List ℕ)) → SessionSteps meaning before told hand sent result after
      → IsLonger before after (new_requests_told (told_replies told)) (session_stop result)
  session_longer told hand result before after s =
      let run = run_longer told before s.between s.run in
      let more : IsLonger s.between after 0 (session_stop result) = elim s.committed [
        | inl same ↦ longer_none s.between after (session_stop result) same
        | inr untold ↦
            longer_one s.between after untold.request (session_stop result) (untold_stop result untold.untold) untold.grown
      ] in
      record { kept = more.kept; few = more.few; listed = omega (arith, run, more.listed) }

  call_longer : (batch : Batch) (gives : Result BatchAnswer Refusal) (before after : List (List ℕ))
      → CallSteps meaning before batch gives after → IsLonger before after (new_requests_told (call_replies gives)) (call_hand batch gives)
  call_longer batch (Ok answer) before after s =
      let more = step_longer answer.again _ answer.outputs batch before after s in
      record { kept = 0; few = omega arith; listed = omega (arith, more) }
  call_longer batch (Err why) before after (inl same) = longer_none before after (hand_by (fault_of why) batch) same
  call_longer batch (Err why) before after (inr untold) =
      longer_batch before after batch (hand_by (fault_of why) batch) (refused_hand (fault_of why) batch untold.0) untold.1

module _ (variant : Variant) (meaning : Meaning) where
  part_longer : (old : Standing) (part : LifePart) (new : Standing) (f : PartLeads variant meaning old part new)
      (before after : List (List ℕ)) → PartSteps variant meaning old part new f before after
      → IsLonger before after (new_requests_told (part_replies variant meaning old part new f)) (part_hand part)
  part_longer old (Holds p) new f before after s = session_longer meaning (served_calls_of f) (IsInHandOf f) p.result before after s
  part_longer old (Does (Calls c)) new f before after s = call_longer meaning c.batch c.gives before after s
  part_longer old (Does (Extends values)) new f before after s = longer_none before after 0 s
  part_longer old (Does LosesPower) new f before after s = longer_none before after 0 s
  part_longer old (Does (Checkpoints said)) new f before after s = longer_none before after (checkpoint_stop said) s

  pub life_longer : (stages : List LifeStage) (start : Standing) (f : IsLife variant meaning start stages) (before after : List (List ℕ))
      → LifeFollows variant meaning start stages f before after
      → IsLonger before after (new_requests_told (life_replies variant meaning start stages f)) (hands_in stages)
  life_longer [] start f before after s = longer_none before after 0 s
  life_longer (stage ∷ stages) start f before after s =
      let here = part_longer start stage.part stage.after f.0 before s.0 s.1 in
      let later = life_longer stages stage.after f.1 s.0 after s.2 in
      let sum = told_append (part_replies variant meaning start stage.part stage.after f.0)
      (life_replies variant meaning stage.after stages f.1) in
      record {
        kept = here.kept + later.kept;
        few = omega (arith, here.few, later.few);
        listed = omega (arith, here.listed, later.listed, sum);
      }

-- How often the cell is written over a life, by the counts of its parts.

-- one part
record PartCounts (old : Standing) (part : LifePart) (new : Standing) (due most : ℕ) : Type 0 where
  in_hand : ℕ
  few : in_hand ≤ most
  writes : PartWrites old part new (due + in_hand)

-- a still part was to write nothing
still_counts : (old new : Standing) (values : List (List ℕ)) → PartCounts old (Does (Extends values)) new 0 0
still_counts old new values = record { in_hand = 0; few = omega arith; writes = omega arith }

lost_counts : (old new : Standing) → PartCounts old (Does LosesPower) new 0 0
lost_counts old new = record { in_hand = 0; few = omega arith; writes = omega arith }

session_writes : (variant : Variant) (meaning : Meaning) (old new : Standing) (p : Program)
    (f : PartLeads variant meaning old (Holds p) new)
    → CallsWrite variant old new (new_replies (told_replies (served_calls_of f))) (session_stop p.result)
session_writes variant meaning old new p f =
    let k = session_chain f in
    record {
      at = k.at;
      answered = told_write variant meaning (served_calls_of f) (first_bytes f) old k.at k.calls;
      last =
          ends_writes k.ends;
    }

-- a part, and the parts behind it
joined_parts : (start : Standing) (stage : LifeStage) (stages : List LifeStage) (here later due most more : ℕ) → due ≡ here + later
    → PartCounts start stage.part stage.after here most → WritesOnceEach stage.after stages later more
    → WritesOnceEach start (stage ∷ stages) due (most + more)
joined_parts start stage stages here later due most more e p r = record {
  in_hand = p.in_hand + r.in_hand;
  few = omega (arith, p.few, r.few);
  writes = (here + p.in_hand, later + r.in_hand, omega (arith, e), p.writes, r.writes);
}

no_parts : (start : Standing) → WritesOnceEach start [] 0 0
no_parts start = record { in_hand = 0; few = omega arith; writes = omega arith }

module _ (meaning : Meaning) (key : List ℕ) where
  basic_part : (old : Standing) (part : LifePart) (new : Standing) (f : PartLeads Basic meaning old part new) (d : Digests)
      → StandsAt (basic_instance meaning key) old d
      → PartCounts old part new (new_replies (part_replies Basic meaning old part new f)) (part_stop part)
  basic_part old (Holds p) new f d s =
      let c = basic_counts old new _ _ (session_writes Basic meaning old new p f) in
      record { in_hand = c.in_hand; few = c.few; writes = c.writes }
  basic_part old (Does (Calls call)) new f d s =
      let c = basic_batch_counts meaning key key old new call.offer call.batch call.gives f.goes d s in
      record { in_hand = c.in_hand; few = c.few; writes = c.writes }
  basic_part old (Does (Extends values)) new f d s = still_counts old new values
  basic_part old (Does LosesPower) new f d s = lost_counts old new
  basic_part old (Does (Checkpoints said)) new f d s =
      let c = basic_checked meaning key key old new said f.goes d s in
      record { in_hand = c.in_hand; few = c.few; writes = c.writes }

  basic_lives : (stages : List LifeStage) (start : Standing) (f : IsLife Basic meaning start stages) (d : Digests)
      → StandsAt (basic_instance meaning key) start d
      → WritesOnceEach start stages (new_replies (life_replies Basic meaning start stages f)) (stops_in stages)
  basic_lives [] start f d s = no_parts start
  basic_lives (stage ∷ stages) start f d s =
      let n = part_stands Basic meaning key key start stage.part stage.after f.0 d s in
      joined_parts start stage stages _ _ _ _ _
      (new_append (part_replies Basic meaning start stage.part stage.after f.0) (life_replies Basic meaning stage.after stages f.1))
      (basic_part start stage.part stage.after f.0 d s) (basic_lives stages stage.after f.1 n.digests n.stands)

module _ (meaning : Meaning) (key barrier : List ℕ) where
  opt_part : (old : Standing) (part : LifePart) (new : Standing) (f : PartLeads Opt meaning old part new) (d : Digests)
      → StandsAt (opt_instance meaning key barrier) old d
      → PartCounts old part new (part_turns meaning old part new f) (part_turns_in_hand meaning old part new f)
  opt_part old (Holds p) new f d s =
      let before : TellsFlag old d.flag = record { cell = _; is_cell = s.spells; tells = s.cell; shows = refl } in
      let c = opt_counts old new _ _ (session_writes Opt meaning old new p f) d.flag before in
      record { in_hand = c.in_hand; few = c.few; writes = c.writes }
  opt_part old (Does (Calls call)) new f d s =
      let c = opt_batch_counts meaning key barrier old new call.offer call.batch call.gives f.goes d s in
      record { in_hand = c.in_hand; few = c.few; writes = c.writes }
  opt_part old (Does (Extends values)) new f d s = still_counts old new values
  opt_part old (Does LosesPower) new f d s = lost_counts old new
  opt_part old (Does (Checkpoints said)) new f d s =
      let c = opt_checked meaning key barrier old new said f.goes d s in
      record { in_hand = c.in_hand; few = c.few; writes = c.writes }

  opt_lives : (stages : List LifeStage) (start : Standing) (f : IsLife Opt meaning start stages) (d : Digests)
      → StandsAt (opt_instance meaning key barrier) start d
      → WritesOnceEach start stages (segment_turns meaning start stages f) (turns_in_hand meaning start stages f)
  opt_lives [] start f d s = no_parts start
  opt_lives (stage ∷ stages) start f d s =
      let n = part_stands Opt meaning key barrier start stage.part stage.after f.0 d s in
      joined_parts start stage stages _ _ _ _ _ refl (opt_part start stage.part stage.after f.0 d s)
      (opt_lives stages stage.after f.1 n.digests n.stands)

pub basic_lives_write : BasicLivesWriteOnce
basic_lives_write meaning key y start stages f requests stands follows =
    let i : Instance = basic_instance meaning key in
    let l = life_longer Basic meaning stages start f [] requests follows in
    record {
      once = basic_lives meaning key stages start f (digests_of i y) (stands_at i start y stands);
      kept = l.kept;
      few = l.few;
      listed = omega (arith, l.listed);
    }

pub opt_lives_write : OptLivesWriteOnce
opt_lives_write meaning key barrier y start stages f stands =
    let i : Instance = opt_instance meaning key barrier in
    opt_lives meaning key barrier stages start f (digests_of i y) (stands_at i start y stands)

-- A part of a life that is refused tells nothing, and one whose offers nobody else tagged begins with what is genuine.
use Rattle.std.specs.List.{AllByRecursion}
use Rattle.std.specs.Prelude.{IsErr}
use Rattle.std.proofs.Common.{◌≡◌, ◌∙◌, ◌++◌, ℕ, List, [], ◌∷◌, Result, Ok, Err, refl, sym, ap, subst, inl}
use Rattle.mm_base.specs.declared.replay_fault.ReplayFault.TheVariants.{WriteFault}
use Rattle.mm_digest.specs.declared.variant.Variant.{Variant}
use Rattle.mm_platform.specs.Standing.{Standing}
use Rattle.mm_module.specs.Batch.{Batch}
use Rattle.mm_module.specs.Meaning.{Meaning}
use Rattle.mm_model.specs.History.{History}
use Rattle.mm_model.specs.Chains.{Instance}
use Rattle.mm_model.specs.Standing.{IsGenuine}
use Rattle.mm_model.specs.declared.answer.Answer.{Answer}
use Rattle.mm_model.specs.declared.answer.BatchAnswer.{BatchAnswer}
use Rattle.mm_model.specs.declared.refusal.Refusal.{Refusal}
use Rattle.mm_call.specs.CallFinding.{batch_result_of}
use Rattle.mm_call.proofs.Above.{each_at}
use Rattle.mm_host.specs.Continuation.{CallsRunOver, IsToldInPart}
use Rattle.mm_host.specs.Sessions.{ServedCall}
use Rattle.mm_host.specs.declared.fault.SessionFault.{SessionFault}
use Rattle.mm_host.specs.declared.fault.SessionFault.TheVariants.{Lines}
use Rattle.mm_host.proofs.Above.{TellsCall, told_in_part}
use Rattle.mm_recovery.specs.declared.fault.HostFault.{HostFault}
use Rattle.mm_recovery.specs.declared.resuming.Resumed.{Resumed}
use Rattle.mm_recovery.specs.declared.resuming.Resumed.TheVariants.{Answered}
use Rattle.mm_life.specs.Deeds.{Calls, Checkpoints, Extends, LifeCall, LosesPower, first_bytes, served_calls_of, told_calls, untold_calls}
use Rattle.mm_life.specs.Stages.{CallSteps, PartSteps, Does, Holds, LifePart, PartLeads, Program, part_calls}
use Rattle.mm_life.specs.Premises.{IsUntagged, issued_snapshot_in, snapshots_of}
use Rattle.mm_life.proofs.Above.{Ends, IsFirstGenuine, rests, session_chain, stops}
use Rattle.mm_worlds.specs.Premises.{first_offers}

abbrev pub AreRefused : List LifeCall → Type 0
AreRefused calls = AllByRecursion (λ (c : LifeCall). IsErr c.gives) calls

-- Where each call was refused the list is left.

refused_right : (calls more : List LifeCall) → AreRefused (calls ++ more) → AreRefused more
refused_right [] more r = r
refused_right (c ∷ calls) more r = refused_right calls more r.1

none_told : (told : List ServedCall) (offer : List ℕ) (untold : List LifeCall) → AreRefused (told_calls offer told ++ untold) → told ≡ []
none_told [] offer untold r = refl
none_told (c ∷ told) offer untold r = let clash = r.0 in absurd (cc)

none_answered : (gives : Result Answer Refusal) (came : Result Resumed HostFault) (answer : Answer) → IsErr gives
    → TellsCall gives came → came ≡ Ok (Answered answer) → ⊥
none_answered (Ok it) came answer r t e = let clash = r in absurd (cc)
none_answered (Err why) came answer r t e = let clash = sym e ∙ t in absurd (cc)

given_refused : (gives : Result Answer Refusal) → IsErr (batch_result_of gives) → IsErr gives
given_refused (Err why) r = refl
given_refused (Ok it) r = let clash = r in absurd (cc)

call_refused : (meaning : Meaning) (requests : List (List ℕ)) (b : Batch) (gives : Result BatchAnswer Refusal) → IsErr gives
    → CallSteps meaning requests b gives requests
call_refused meaning requests b (Err why) r = inl refl
call_refused meaning requests b (Ok answer) r = let clash = r in absurd (cc)

module _ (variant : Variant) (meaning : Meaning) (requests : List (List ℕ)) where
  in_part : {at final : Standing} {offer : List ℕ} {hand : List ℕ → Type 0} {sent : List ℕ} {untold : List LifeCall}
      {result : Result Unit SessionFault} → Ends variant meaning at final offer hand sent untold result → AreRefused untold
      → result ≡ Err (Lines WriteFault) → IsToldInPart meaning hand sent requests requests
  in_part (rests same none unwritten) r w = absurd (unwritten w)
  in_part {hand = hand} {sent = sent} (stops request h gives c is came t fault says ends) r w =
      let refused : IsErr gives = given_refused gives (subst AreRefused is r).0 in
      told_in_part meaning hand requests requests came sent fault says
      (λ answer e. absurd (none_answered gives came answer refused t e)) (inl refl) (cc)

  session_refused : (old : Standing) (p : Program) (new : Standing) (f : PartLeads variant meaning old (Holds p) new)
      → AreRefused (part_calls variant meaning old (Holds p) new f) → PartSteps variant meaning old (Holds p) new f requests requests
  session_refused old p new f r =
      let none : served_calls_of f ≡ [] = none_told (served_calls_of f) (first_bytes f) (untold_calls f f.goes) r in
      record {
        between = requests;
        run = subst (λ (told : List ServedCall). CallsRunOver meaning requests told requests) (sym none) refl;
        committed = inl refl;
        in_part = λ w.
            in_part (session_chain f).ends (refused_right (told_calls (first_bytes f) (served_calls_of f)) (untold_calls f f.goes) r) w;
      }

  pub part_refused : (old : Standing) (part : LifePart) (new : Standing) (f : PartLeads variant meaning old part new)
      → AreRefused (part_calls variant meaning old part new f) → PartSteps variant meaning old part new f requests requests
  part_refused old (Holds p) new f r = session_refused old p new f r
  part_refused old (Does (Calls c)) new f r = call_refused meaning requests c.batch c.gives r.0
  part_refused old (Does (Extends values)) new f r = refl
  part_refused old (Does LosesPower) new f r = refl
  part_refused old (Does (Checkpoints said)) new f r = refl

pub none_issued : (calls : List LifeCall) → AreRefused calls → snapshots_of calls ≡ []
none_issued [] r = refl
none_issued (c ∷ calls) r = ap (λ (xs : List (List ℕ)). xs ++ snapshots_of calls) (by_gives c.gives r.0) ∙ none_issued calls r.1
  where
    by_gives : (gives : Result BatchAnswer Refusal) → IsErr gives → issued_snapshot_in gives ≡ []
    by_gives (Err why) h = refl
    by_gives (Ok answer) h = absurd (cc)

pub genuine_first : (i : Instance) (y : History) (issued : List (List ℕ)) (calls : List LifeCall) → AllByRecursion (IsGenuine i y) issued
    → AllByRecursion (IsUntagged i issued) (first_offers calls) → IsFirstGenuine i y calls
genuine_first i y issued [] g u = tt
genuine_first i y issued (c ∷ calls) g u = λ content right. each_at (IsGenuine i y) issued c.offer g (u.0 content right) content right
